-- Ownership over endless time: what the Core Specification's events say, and that the list of 512 blocks says it all.
use mathlib.Core.Path.{◌≡◌, refl, sym, ap, subst, ◌∙◌}
use mathlib.Core.Bool.{true}
use mathlib.Core.Logic.{by_cases, ◌↔◌}
use Prim.Native.Nat.{ℕ, zero, suc, ◌+◌, ◌-◌, ◌*◌, ◌/◌, ◌%◌, ◌^◌, ◌<◌, ◌≤◌}
use native.Mathlib.Nat.{mod-lt, mod-le, mod-eq_of_lt, mod-add-mod, add-mod-mod, add-zero, add-mod_right, mul-add-mod_self_right, div-add-mod', mul_comm, mul-sub}
use native.Mathlib.Decide.{dec_le}
use native.Mathlib.Omega.{arith}
use lib.Pow.{pow_pos, mod-mod-pow}
use lib.Dec.{ltb}
use lib.IntN.{ℤ, pos, negsuc, neg_ℤ, ◌+ℤ◌, ◌-ℤ◌, ◌*ℤ◌, -ℤ-+ℤ_cancel, +ℤ-neg_ℤ_cancel, pos-+ℤ-pos, pos-*ℤ-pos, negsuc-*ℤ-pos, +ℤ_assoc, +ℤ_invl, +ℤ_invr, +ℤ_idl, +ℤ_idr}
use borrow.Author.Tests.{lt-ltb, ltb-true}
use Rattle.rules.specs.declared.Connection.{Connection}
use Rattle.rules.specs.Time.{block_micros, list_blocks, minus_mod}
use Rattle.rules.specs.Core.{interval_micros, base_interval, event_counter, Subrating, Subrated, Reserved}
use Rattle.rules.specs.Ownership.{largest_k, factor, belongs, subrating}
use Rattle.rules.specs.Classes.{depth}
use Rattle.blocks.proofs.ClassLaws.{within_depth}

-- ---- (a - b) mod F
module _ (a b F : ℕ) (pos_F : 0 < F) where
  pub minus_mod_lt : minus_mod a b F < F
  unfolding minus_mod
  minus_mod_lt = mod-lt _ pos_F

  -- It is the way from b on to a, round by F.
  pub minus_mod_back : (b + minus_mod a b F) % F ≡ a % F
  unfolding minus_mod
  minus_mod_back =
      let l : b % F < F = mod-lt b pos_F in
      let s : b % F + (a + (F - b % F)) ≡ a + F = omega arith in
      rw (add-mod-mod b (a + (F - b % F)) F, ← mod-add-mod b F (a + (F - b % F)), s) (add-mod_right a F)

  -- And no other number below F is.
  pub minus_mod_only : (j : ℕ) → j < F → a % F ≡ (b + j) % F → minus_mod a b F ≡ j
  unfolding minus_mod
  minus_mod_only j hj e =
      let l : b % F < F = mod-lt b pos_F in
      let s : b % F + (j + (F - b % F)) ≡ j + F = omega arith in
      let s₂ : b + j + (F - b % F) ≡ b + (j + (F - b % F)) = omega arith in
      rw (← mod-add-mod a F (F - b % F), e, mod-add-mod (b + j) F (F - b % F), s₂, ← mod-add-mod b F (j + (F - b % F)), s, add-mod_right j F)
      (mod-eq_of_lt hj)

  -- It depends on a only by its remainder.
  pub minus_mod_mod : minus_mod (a % F) b F ≡ minus_mod a b F
  unfolding minus_mod
  minus_mod_mod = mod-add-mod a F (F - b % F)

-- ---- congruent blocks and subrated events
-- "The base interval is one block."
pub base_interval_lem : interval_micros base_interval ≡ block_micros
base_interval_lem = refl

pos_injective : {m n : ℕ} → pos m ≡ pos n → m ≡ n
pos_injective e = cc

module _ (a b j : ℕ) where
  sum_back : pos a -ℤ pos j -ℤ pos b +ℤ pos (b + j) ≡ pos a
  sum_back =
      ap (λ (z : ℤ). pos a -ℤ pos j -ℤ pos b +ℤ z) (sym (pos-+ℤ-pos b j))
      ∙ sym (+ℤ_assoc (pos a -ℤ pos j -ℤ pos b) (pos b) (pos j))
      ∙ ap (λ (z : ℤ). z +ℤ pos j) (-ℤ-+ℤ_cancel (pos a -ℤ pos j) (pos b))
      ∙ -ℤ-+ℤ_cancel (pos a) (pos j)

  from_sum : (z : ℤ) → z +ℤ pos (b + j) ≡ pos a → pos a -ℤ pos j -ℤ pos b ≡ z
  from_sum z e =
      sym (+ℤ-neg_ℤ_cancel (pos a -ℤ pos j -ℤ pos b) (pos (b + j)))
      ∙ ap (λ (y : ℤ). y -ℤ pos (b + j)) (sum_back ∙ sym e)
      ∙ +ℤ-neg_ℤ_cancel z (pos (b + j))

-- Two numbers with one remainder by F differ by a multiple of F.
differ_by : (a x F : ℕ) → a % F ≡ x % F → x ≤ a → (a / F - x / F) * F + x ≡ a
differ_by a x F e h =
    let p : a / F * F + a % F ≡ a = div-add-mod' a F in
    let q : x / F * F + x % F ≡ x = div-add-mod' x F in
    let s : (a / F - x / F) * F ≡ a / F * F - x / F * F = rw (mul_comm (a / F - x / F) F, mul-sub F (a / F) (x / F), mul_comm F (a / F), mul_comm F (x / F)) in
    omega arith

-- N less than x is a, where x is N + a
less→ : (N x a : ℕ) → N + a ≡ x → neg_ℤ (pos N) +ℤ pos x ≡ pos a
less→ N x a e =
    ap (λ (z : ℤ). neg_ℤ (pos N) +ℤ z) (ap pos (sym e) ∙ sym (pos-+ℤ-pos N a))
    ∙ sym (+ℤ_assoc (neg_ℤ (pos N)) (pos N) (pos a))
    ∙ ap (λ (z : ℤ). z +ℤ pos a) (+ℤ_invl (pos N))
    ∙ +ℤ_idl (pos a)

less← : (N x a : ℕ) → neg_ℤ (pos N) +ℤ pos x ≡ pos a → N + a ≡ x
less← N x a e =
    pos_injective
    (sym (pos-+ℤ-pos N a)
    ∙ ap (λ (z : ℤ). pos N +ℤ z) (sym e)
    ∙ sym (+ℤ_assoc (pos N) (neg_ℤ (pos N)) (pos x))
    ∙ ap (λ (z : ℤ). z +ℤ pos x) (+ℤ_invr (pos N))
    ∙ +ℤ_idl (pos x))

-- a and b + j have one remainder by F exactly if the integer a - j - b is a multiple of F
module _ (a b j F : ℕ) where
  above : (m : ℕ) → m * F + (b + j) ≡ a → (q : ℤ) × (pos a -ℤ pos j -ℤ pos b ≡ q *ℤ pos F)
  above m e = (pos m, from_sum a b j _ (pos-+ℤ-pos (m * F) (b + j) ∙ ap pos e) ∙ sym (pos-*ℤ-pos m F))

  below : (m : ℕ) → m * F + a ≡ b + j → (q : ℤ) × (pos a -ℤ pos j -ℤ pos b ≡ q *ℤ pos F)
  below zero e = above 0 (omega arith)
  below (suc m) e = (negsuc m, from_sum a b j _ (less→ (suc m * F) (b + j) a e) ∙ sym (negsuc-*ℤ-pos m F))

  congruent→ : a % F ≡ (b + j) % F → (q : ℤ) × (pos a -ℤ pos j -ℤ pos b ≡ q *ℤ pos F)
  congruent→ e =
      by_cases (dec_le (b + j) a)
      (λ h. above (a / F - (b + j) / F) (differ_by a (b + j) F e h))
      (λ h. below ((b + j) / F - a / F) (differ_by (b + j) a F (sym e) (omega arith)))

  congruent← : (q : ℤ) → pos a -ℤ pos j -ℤ pos b ≡ q *ℤ pos F → a % F ≡ (b + j) % F
  congruent← (pos m) e =
      let s : pos (m * F + (b + j)) ≡ pos a = sym (pos-+ℤ-pos (m * F) (b + j)) ∙ ap (λ (z : ℤ). z +ℤ pos (b + j)) (sym e) ∙ sum_back a b j in
      ap (λ (n : ℕ). n % F) (sym (pos_injective s)) ∙ mul-add-mod_self_right m F (b + j)
  congruent← (negsuc m) e =
      let s : neg_ℤ (pos (suc m * F)) +ℤ pos (b + j) ≡ pos a = ap (λ (z : ℤ). z +ℤ pos (b + j)) (sym (negsuc-*ℤ-pos m F) ∙ sym e) ∙ sum_back a b j in
      sym (mul-add-mod_self_right (suc m) F a) ∙ ap (λ (n : ℕ). n % F) (less← (suc m * F) (b + j) a s)

-- The block a is congruent to the anchor A plus j modulo F exactly if the event j before it is a subrated one.
pub congruent_subrated : (r : Subrating) (a j : ℕ) → (a % r.factor ≡ (r.base_event + j) % r.factor) ↔ Subrated r (pos a -ℤ pos j)
congruent_subrated r a j =
    (congruent→ a r.base_event j r.factor, λ s. congruent← a r.base_event j r.factor s.0 s.1)

event_less : (a j : ℕ) → j ≤ a → pos a -ℤ pos j ≡ pos (a - j)
event_less a j h =
    let s : a - j + j ≡ a = omega arith in
    ap (λ (z : ℤ). z -ℤ pos j) (ap pos (sym s) ∙ sym (pos-+ℤ-pos (a - j) j)) ∙ +ℤ-neg_ℤ_cancel (pos (a - j)) (pos j)

-- ---- belonging
-- Block b belongs exactly if for some j below L it is congruent to A + j modulo F.
pub belongs_congruent : (c : Connection) (b : ℕ) → (belongs c b ≡ true) ↔ ((j : ℕ) × (j < c.length) × (b % factor c ≡ (c.anchor + j) % factor c))
unfolding belongs
belongs_congruent c b = (to, from)
  where
    to : ltb (minus_mod b c.anchor (factor c)) c.length ≡ true → (j : ℕ) × (j < c.length) × (b % factor c ≡ (c.anchor + j) % factor c)
    to e = (minus_mod b c.anchor (factor c), ltb-true _ _ e, sym (minus_mod_back b c.anchor (factor c) (pow_pos c.k)))

    from : (j : ℕ) × (j < c.length) × (b % factor c ≡ (c.anchor + j) % factor c) → ltb (minus_mod b c.anchor (factor c)) c.length ≡ true
    from w =
        let F = factor c in
        let e : minus_mod b c.anchor F ≡ w.0 % F = minus_mod_only b c.anchor F (pow_pos c.k) (w.0 % F) (mod-lt w.0 (pow_pos c.k)) (w.2 ∙ sym (add-mod-mod c.anchor w.0 F)) in
        lt-ltb (minus_mod b c.anchor F) c.length (omega (arith, mod-le w.0 F))

-- A block belongs to a connection exactly if its event is reserved for it: a subrated event, or one of the L - 1 continuation
-- events after one.
pub belongs_reserved : (c : Connection) (b : ℕ) → 1 ≤ c.length → (belongs c b ≡ true) ↔ Reserved (subrating c) (pos b)
belongs_reserved c b h = (
  λ e.
      let w = (belongs_congruent c b).0 e in
      (w.0, omega arith, (congruent_subrated (subrating c) b w.0).0 w.2),
  λ u.
      (belongs_congruent c b).1 (u.0, omega arith, (congruent_subrated (subrating c) b u.0).1 u.2),
)

-- The subrated events are exactly the anchors.
pub anchors_subrated : (c : Connection) (b : ℕ) → (b % factor c ≡ c.anchor % factor c) ↔ Subrated (subrating c) (pos b)
anchors_subrated c b =
    subst (λ (z : ℤ). (b % factor c ≡ c.anchor % factor c) ↔ Subrated (subrating c) z) (+ℤ_idr (pos b)) (rw (add-zero c.anchor) at (congruent_subrated (subrating c) b 0))

pub anchored_subrated : (c : Connection) (b : ℕ) → c.anchor < factor c → (b % factor c ≡ c.anchor) ↔ Subrated (subrating c) (pos b)
anchored_subrated c b h = rw (mod-eq_of_lt h) at (anchors_subrated c b)

-- The factor divides every power of two from its own on.
pub factor_mod : (c : Connection) (b n : ℕ) → c.k ≤ n → b % 2 ^ n % factor c ≡ b % factor c
factor_mod c b n h =
    let s : n - c.k + c.k ≡ n = omega arith in
    rw s at (mod-mod-pow b (n - c.k) c.k)

-- Belonging depends only on the remainder by the factor, and so on the remainder by any larger power of two: by 512, and by
-- 2^32, where a counter wraps.
pub belongs_mod : (c : Connection) (b n : ℕ) → c.k ≤ n → belongs c (b % 2 ^ n) ≡ belongs c b
unfolding belongs
belongs_mod c b n h =
    let F = factor c in
    let A = c.anchor in
    ap (λ (x : ℕ). ltb x c.length)
    (sym (minus_mod_mod (b % 2 ^ n) A F (pow_pos c.k)) ∙ ap (λ (x : ℕ). minus_mod x A F) (factor_mod c b n h) ∙ minus_mod_mod b A F (pow_pos c.k))

pub belongs_list : (c : Connection) (b : ℕ) → c.k ≤ largest_k → belongs c (b % list_blocks) ≡ belongs c b
belongs_list c b h = belongs_mod c b depth (within_depth h)

pub belongs_wrapped : (c : Connection) (b : ℕ) → c.k ≤ largest_k → belongs c (b % 2 ^ 32) ≡ belongs c b
belongs_wrapped c b h = belongs_mod c b 32 (omega arith)

-- From block F on the event j blocks earlier is itself a block.
pub earlier_is_block : (c : Connection) (b j : ℕ) → c.length ≤ factor c → factor c ≤ b → j < c.length → pos b -ℤ pos j ≡ pos (b - j)
earlier_is_block c b j h l m = event_less b j (omega arith)

-- ---- the 16 bits of Core's event counter
-- The events of two blocks with one remainder by F are alike.
module _ (c : Connection) (a b : ℕ) (e : a % factor c ≡ b % factor c) where
  subrated_alike : Subrated (subrating c) (pos a) → Subrated (subrating c) (pos b)
  subrated_alike s = (anchors_subrated c b).0 (sym e ∙ (anchors_subrated c a).1 s)

  reserved_alike : Reserved (subrating c) (pos a) → Reserved (subrating c) (pos b)
  reserved_alike u = (u.0, u.1, (congruent_subrated (subrating c) b u.0).0 (sym e ∙ (congruent_subrated (subrating c) a u.0).1 u.2))

-- As F divides 2^16, a counter that wraps there loses nothing.
module _ (c : Connection) (b : ℕ) (h : c.k ≤ largest_k) where
  pub subrated_counter : Subrated (subrating c) (pos (b % event_counter)) ↔ Subrated (subrating c) (pos b)
  subrated_counter =
      let e = factor_mod c b 16 (omega arith) in
      (subrated_alike c (b % event_counter) b e, subrated_alike c b (b % event_counter) (sym e))

  pub reserved_counter : Reserved (subrating c) (pos (b % event_counter)) ↔ Reserved (subrating c) (pos b)
  reserved_counter =
      let e = factor_mod c b 16 (omega arith) in
      (reserved_alike c (b % event_counter) b e, reserved_alike c b (b % event_counter) (sym e))

  pub belongs_counter : belongs c (b % event_counter) ≡ belongs c b
  belongs_counter = belongs_mod c b 16 (omega arith)
