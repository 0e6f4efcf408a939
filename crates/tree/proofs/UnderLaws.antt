-- The laws of `under`.
use mathlib.Core.Path.{◌≡◌, refl, sym, ap, ◌∙◌}
use mathlib.Core.Bool.{Bool, true, false, ◌||◌, cond, or-false, or_assoc, false≢true}
use mathlib.Core.Logic.{◌≢◌, by_cases}
use Prim.Native.Nat.{ℕ, zero, suc, ◌+◌, ◌-◌, ◌*◌, ◌/◌, ◌%◌, ◌^◌, ◌<◌, ◌≤◌}
use native.Mathlib.Nat.{add-suc, add-zero, pow-suc, div-one, div-div-eq-div-mul, mul-le-mul_left}
use native.Mathlib.Decide.{ℕ_discrete}
use native.Mathlib.Omega.{arith}
use lib.Pow.{pow_pos, pow_mono, shr_lt}
use lib.Dec.{eqb}
use borrow.Author.Tests.{eq-eqb, ne_eqb}
use Rattle.rules.specs.Classes.{in_class, depth}
use Rattle.rules.specs.Mirror.{mirrored}
use Rattle.basics.proofs.BoolLaws.{neither}
use Rattle.blocks.proofs.MirrorLaws.{mirror_lt, mirror_mirror, mirror_low}
use Rattle.tree.specs.Under.{under}
use Rattle.tree.proofs.Bits.{eqb_iff}

-- ---- room: a node with l levels below it lies in the tree, and so do its children with l - 1
pub room : (n l : ℕ) → (n + 1) * 2 ^ l ≤ 1024 → n < 1024
room n l h = omega (arith, mul-le-mul_left (n + 1) (pow_pos l))

pub room_below : (n l : ℕ) → 0 < l → (n + 1) * 2 ^ l ≤ 1024 → ((2 * n + 1) * 2 ^ (l - 1) ≤ 1024) × ((2 * n + 1 + 1) * 2 ^ (l - 1) ≤ 1024)
room_below n zero hl h = absurd (omega arith)
room_below n (suc l) hl h =
    let e : suc l - 1 ≡ l = omega arith in
    let g : (n + 1) * (2 ^ l * 2) ≤ 1024 = rw (pow-suc 2 l) at h in
    rw e (omega arith, omega arith)

-- ---- downwards: a node and what lies under its two children is what lies under it
or_left_swap : (a b c : Bool) → a || (b || c) ≡ b || (a || c)
or_left_swap true true c = refl
or_left_swap true false c = refl
or_left_swap false b c = refl

child : (n m : ℕ) → eqb m (2 * n) || eqb m (2 * n + 1) ≡ eqb (m / 2) n
child n m =
    by_cases (ℕ_discrete m (2 * n))
    (λ e. rw (eq-eqb m (2 * n) e, eq-eqb (m / 2) n (omega arith)))
    (λ e. rw (ne_eqb m (2 * n) e) (eqb_iff m (2 * n + 1) (m / 2) n (λ q. omega arith) (λ q. omega arith)))

under_children : (l n m : ℕ) → under l (2 * n) m || under l (2 * n + 1) m ≡ under l n (m / 2)
unfolding under
under_children zero n m = child n m
under_children (suc l) n m =
    simp or_assoc
    (rw (or_left_swap (under l (2 * n) (m / 2)) (eqb m (2 * n + 1)) (under l (2 * n + 1) (m / 2)), ← or_assoc (eqb m (2 * n)) (eqb m (2 * n + 1)) _, child n m, under_children l n (m / 2)))

-- one bit written at n, under 2n and under 2n + 1, in this order
cond_or : (e x y v b : Bool) → cond y v (cond x v (cond e v b)) ≡ cond (e || (x || y)) v b
cond_or true true true v b = refl
cond_or true true false v b = refl
cond_or true false true v b = refl
cond_or true false false v b = refl
cond_or false true true v b = refl
cond_or false true false v b = refl
cond_or false false true v b = refl
cond_or false false false v b = refl

pub under_step : (l n m : ℕ) (v b : Bool) → 0 < l
    → cond (under (l - 1) (2 * n + 1) m) v (cond (under (l - 1) (2 * n) m) v (cond (eqb m n) v b)) ≡ cond (under l n m) v b
unfolding under
under_step zero n m v b h = absurd (omega arith)
under_step (suc l) n m v b h =
    let e : suc l - 1 ≡ l = omega arith in
    rw (e, ← under_children l n m) (cond_or (eqb m n) (under l (2 * n) m) (under l (2 * n + 1) m) v b)

pub under_none : (l n m : ℕ) (v b : Bool) → l ≡ 0 → cond (eqb m n) v b ≡ cond (under l n m) v b
unfolding under
under_none l n m v b h = rw h

-- ---- upwards: `under l m v` says that m is v or lies at most l levels above it
pub under_lt : (l n v : ℕ) → v < n → under l n v ≡ false
unfolding under
under_lt zero n v h = ne_eqb v n (omega arith)
under_lt (suc l) n v h = rw (ne_eqb v n (omega arith)) (under_lt l n (v / 2) (omega arith))

-- more levels than there are say no more
under_more : (l n v : ℕ) → v < n * 2 ^ suc l → under (suc l) n v ≡ under l n v
unfolding under
under_more zero n v h = rw (ne_eqb (v / 2) n (omega arith)) (or-false (eqb v n))
under_more (suc l) n v h =
    let h' : v / 2 < n * 2 ^ suc l = omega (arith, rw (pow-suc 2 (suc l)) at h) in
    ap (λ (b : Bool). eqb v n || b) (under_more l n (v / 2) h')

first_false : (m v l : ℕ) → under (suc l) m v ≡ false → m ≢ v
unfolding under
first_false m v l e q = false≢true (sym e ∙ rw (eq-eqb v m (sym q)))

-- what is not at v or above it is not v, and not above it
pub not_above_lem : (m v : ℕ) → under depth m v ≡ false → m ≢ v
not_above_lem m v e = first_false m v 8 e

pub above_less : (m v : ℕ) → 0 < m → v < 1024 → under depth m v ≡ false → under depth m (v / 2) ≡ false
unfolding under
above_less m v hm hv e =
    let g : v / 2 < m * 2 ^ 9 = omega arith in
    under_more 8 m (v / 2) g ∙ (neither (eqb v m) (under 8 m (v / 2)) e).1

-- a child of a node lies under n exactly if the node does, unless the child is n itself
pub child_under : (l n a x : ℕ) → x / 2 ≡ a → x ≢ n → a < n * 2 ^ l → under l n x ≡ under l n a
unfolding under
child_under zero n a x e h g = ne_eqb x n h ∙ sym (ne_eqb a n (omega arith))
child_under (suc l) n a x e h g = rw (ne_eqb x n h, e) (sym (under_more l n a g))

-- ---- d levels down from the node 2^k + P
under_same : (l k P p : ℕ) → P < 2 ^ k → p < 2 ^ k → under l (2 ^ k + P) (2 ^ k + p) ≡ eqb p P
unfolding under
under_same zero k P p hP hp = eqb_iff (2 ^ k + p) (2 ^ k + P) p P (λ e. omega arith) (λ e. omega arith)
under_same (suc l) k P p hP hp =
    rw (under_lt l (2 ^ k + P) ((2 ^ k + p) / 2) (omega (arith, pow_pos k)))
    (or-false (eqb (2 ^ k + p) (2 ^ k + P)) ∙ eqb_iff (2 ^ k + p) (2 ^ k + P) p P (λ e. omega arith) (λ e. omega arith))

under_node : (d l k P p : ℕ) → d ≤ l → P < 2 ^ k → p < 2 ^ (k + d) → under l (2 ^ k + P) (2 ^ (k + d) + p) ≡ eqb (p / 2 ^ d) P
unfolding under
under_node zero l k P p hl hP hp =
    rw (add-zero k, div-one p) (under_same l k P p hP (rw (add-zero k) at hp))
under_node (suc d) zero k P p hl hP hp = absurd (omega arith)
under_node (suc d) (suc l) k P p hl hP hp =
    let h : p < 2 ^ suc (k + d) = rw (add-suc k d) at hp in
    let g : 2 ^ k ≤ 2 ^ (k + d) = pow_mono (omega arith) in
    let q : (2 ^ suc (k + d) + p) / 2 ≡ 2 ^ (k + d) + p / 2 = omega arith in
    let r : p / 2 / 2 ^ d ≡ p / 2 ^ suc d = div-div-eq-div-mul p 2 (2 ^ d) ∙ ap (λ (x : ℕ). p / x) (omega arith) in
    rw (add-suc k d, ne_eqb (2 ^ suc (k + d) + p) (2 ^ k + P) (omega arith), q)
    (under_node d l k P (p / 2) (omega arith) hP (omega arith) ∙ ap (λ (x : ℕ). eqb x P) r)

-- The leaves under a class's node are those of its blocks.
pub under_leaf : (k r p : ℕ) → k ≤ depth → r < 2 ^ k → p < 512 → under (depth - k) (2 ^ k + mirrored k r) (512 + p) ≡ in_class k r (mirrored depth p)
under_leaf k r p hk hr hp =
    let d : ℕ = depth - k in
    let s : k + d ≡ 9 = omega arith in
    let hp' : p < 2 ^ (k + d) = rw s hp in
    let dl : d ≤ depth - k = omega arith in
    let h : p / 2 ^ d < 2 ^ k = shr_lt k d hp' in
    let u : under (depth - k) (2 ^ k + mirrored k r) (2 ^ (k + d) + p) ≡ eqb (p / 2 ^ d) (mirrored k r) = under_node d (depth - k) k (mirrored k r) p dl (mirror_lt k r) hp' in
    let m : mirrored (k + d) p % 2 ^ k ≡ mirrored k (p / 2 ^ d) = mirror_low d k p in
    rw s at u
    ∙ eqb_iff (p / 2 ^ d) (mirrored k r) (mirrored k (p / 2 ^ d)) r
    (λ e. ap (λ (y : ℕ). mirrored k y) e ∙ mirror_mirror k r hr)
    (λ e. sym (mirror_mirror k (p / 2 ^ d) h) ∙ ap (λ (y : ℕ). mirrored k y) e)
    ∙ ap (λ (y : ℕ). eqb y r) (sym (rw s at m))
