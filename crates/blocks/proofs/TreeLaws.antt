-- The laws of the tree's 128 bytes.
use mathlib.Core.Path.{◌≡◌, refl, sym, ap, ap₂, ◌∙◌}
use mathlib.Core.Bool.{Bool, true, false, ◌||◌, ◌&&◌, not, cond, false≢true}
use mathlib.Core.Logic.{by_cases}
use mathlib.Core.List.{List}
use Prim.Native.Nat.{ℕ, zero, suc, ◌+◌, ◌-◌, ◌*◌, ◌/◌, ◌%◌, ◌^◌, ◌<◌, ◌≤◌}
use native.Mathlib.Nat.{pow-suc, div-one, div-div-eq-div-mul}
use native.Mathlib.Decide.{dec_le}
use native.Mathlib.Omega.{arith}
use lib.Pow.{pow_mono}
use lib.Dec.{eqb}
use lib.ListN.{length, get_or, replicate, get_or-eq_default}
use lib.Seq.{ext_get_or}
use borrow.Author.Tests.{eqb-true}
use Rattle.rules.specs.Classes.{depth, class_taken, in_class, free}
use Rattle.blocks.specs.Taking.{with_class, without_class, nothing}
use Rattle.rules.specs.Mirror.{mirrored}
use Rattle.blocks.specs.Children.{OrOfChildren, Sized}
use Rattle.rules.specs.Nodes.{node_bit}
use Rattle.rules.specs.TreeBytes.{packed, tree_byte, tree_of, bit_of, bit_at}
use Rattle.basics.proofs.BoolLaws.{is_false}
use Rattle.basics.proofs.BelowLaws.{length_tabulate, get_d_tabulate}
use Rattle.blocks.proofs.ClassLaws.{class_taken_list}
use Rattle.blocks.proofs.MirrorLaws.{mirror_lt}
use Rattle.blocks.proofs.NodeLaws.{bit_class, bit_children, bit_leaf}

-- ---- a number by its bits
bit_0 : (v : Bool) (x : ℕ) → bit_of (cond v 1 0 + 2 * x) 0 ≡ v
bit_0 true x =
    let e : (1 + 2 * x) / 2 ^ 0 % 2 ≡ 1 = omega arith in
    rw e
bit_0 false x =
    let e : (0 + 2 * x) / 2 ^ 0 % 2 ≡ 0 = omega arith in
    rw e

half : (v : Bool) (x : ℕ) → (cond v 1 0 + 2 * x) / 2 ≡ x
half true x = omega arith
half false x = omega arith

shift : (x j : ℕ) → x / 2 ^ suc j ≡ x / 2 / 2 ^ j
shift x j = ap (λ (n : ℕ). x / n) (rw (pow-suc 2 j) (omega arith)) ∙ sym (div-div-eq-div-mul x 2 (2 ^ j))

bit_suc : (x j : ℕ) → bit_of x (suc j) ≡ bit_of (x / 2) j
bit_suc x j = ap (λ (n : ℕ). eqb (n % 2) 1) (shift x j)

pub packed_bit : (w : ℕ) (f : ℕ → Bool) (j : ℕ) → j < w → bit_of (packed w f) j ≡ f j
unfolding packed
packed_bit zero f j h = absurd (omega arith)
packed_bit (suc w) f zero h = bit_0 (f 0) (packed w (λ i. f (suc i)))
packed_bit (suc w) f (suc j) h =
    bit_suc (cond (f 0) 1 0 + 2 * packed w (λ i. f (suc i))) j
    ∙ ap (λ (n : ℕ). bit_of n j) (half (f 0) (packed w (λ i. f (suc i))))
    ∙ packed_bit w (λ i. f (suc i)) j (omega arith)

bit_small : (v : Bool) → cond v 1 0 < 2
bit_small true = omega arith
bit_small false = omega arith

pub packed_lt : (w : ℕ) (f : ℕ → Bool) → packed w f < 2 ^ w
unfolding packed
packed_lt zero f = omega arith
packed_lt (suc w) f = rw (pow-suc 2 w) (omega (arith, bit_small (f 0), packed_lt w (λ i. f (suc i))))

-- Two numbers below 2^w with the same w bits are equal.
pub same_bits : (w x y : ℕ) → x < 2 ^ w → y < 2 ^ w → ((j : ℕ) → j < w → bit_of x j ≡ bit_of y j) → x ≡ y
same_bits zero x y hx hy h = omega arith
same_bits (suc w) x y hx hy h =
    let q : x / 2 ≡ y / 2 = same_bits w (x / 2) (y / 2) (omega arith) (omega arith) (λ j l. sym (bit_suc x j) ∙ h (suc j) (omega arith) ∙ bit_suc y j) in
    let r : x % 2 ≡ y % 2 = parity (x % 2) (y % 2) (omega arith) (omega arith) (ap (λ (n : ℕ). eqb (n % 2) 1) (sym (div-one x)) ∙ h 0 (omega arith) ∙ ap (λ (n : ℕ). eqb (n % 2) 1) (div-one y)) in
    omega arith
  where
    parity : (a b : ℕ) → a < 2 → b < 2 → eqb a 1 ≡ eqb b 1 → a ≡ b
    parity zero zero ha hb e = refl
    parity zero (suc zero) ha hb e = absurd (false≢true e)
    parity zero (suc (suc b)) ha hb e = absurd (omega arith)
    parity (suc zero) zero ha hb e = absurd (false≢true (sym e))
    parity (suc zero) (suc zero) ha hb e = refl
    parity (suc zero) (suc (suc b)) ha hb e = absurd (omega arith)
    parity (suc (suc a)) b ha hb e = absurd (omega arith)

-- ---- a list of bytes by its bits
-- Two lists of 128 bytes with the same 1,024 bits are equal.
pub same_tree : (s t : List ℕ) → Sized s → Sized t → ((n : ℕ) → n < 1024 → bit_at s n ≡ bit_at t n) → s ≡ t
same_tree s t hs ht h =
    ext_get_or 0 s t (hs.long ∙ sym ht.long) (λ i l.
    same_bits 8 (get_or s i 0) (get_or t i 0) (hs.small i) (ht.small i) (λ j m.
    let l' : i < 128 = omega (arith, hs.long) in
    let q : (8 * i + j) / 8 ≡ i = omega arith in
    let r : (8 * i + j) % 8 ≡ j = omega arith in
    rw (q, r) at (h (8 * i + j) (omega arith))))

-- ---- the tree of what is taken
module _ (f : ℕ → Bool) where
  tree_byte_lem : (i : ℕ) → i < 128 → get_or (tree_of f) i 0 ≡ tree_byte f i
  unfolding tree_of
  tree_byte_lem i h = get_d_tabulate 128 (tree_byte f) i 0 h

  tree_long : length (tree_of f) ≡ 128
  unfolding tree_of
  tree_long = length_tabulate 128 (tree_byte f)

  pub tree_sized : Sized (tree_of f)
  unfolding tree_byte
  tree_sized =
      record {
        long = tree_long;
        small = λ i.
            by_cases (dec_le (suc i) 128)
            (λ l. rw (tree_byte_lem i l) (packed_lt 8 (λ j. node_bit f (8 * i + j))))
            (λ l.
            let g : length (tree_of f) ≤ i = rw tree_long (omega arith) in
            rw (get_or-eq_default (tree_of f) 0 g) (omega arith));
      }

  -- "Node n is bit n mod 8 of byte n div 8."
  pub tree_bit : (n : ℕ) → n < 1024 → bit_at (tree_of f) n ≡ node_bit f n
  unfolding tree_byte
  tree_bit n h =
      let e : 8 * (n / 8) + n % 8 ≡ n = omega arith in
      ap (λ (x : ℕ). bit_of x (n % 8)) (tree_byte_lem (n / 8) (omega arith))
      ∙ packed_bit 8 (λ j. node_bit f (8 * (n / 8) + j)) (n % 8) (omega arith)
      ∙ ap (node_bit f) e

  -- A class is free exactly if its node's bit is 0.
  pub tree_class : (k r : ℕ) → k ≤ depth → r < 2 ^ k → bit_at (tree_of f) (2 ^ k + mirrored k r) ≡ class_taken f k r
  tree_class k r hk hr =
      let g : 2 ^ k ≤ 512 = pow_mono hk in
      tree_bit (2 ^ k + mirrored k r) (omega (arith, mirror_lt k r)) ∙ bit_class f k r hk hr

  pub free_bit : (k r : ℕ) → k ≤ depth → r < 2 ^ k → free f k r ≡ not (bit_at (tree_of f) (2 ^ k + mirrored k r))
  unfolding free
  free_bit k r hk hr = ap not (sym (tree_class k r hk hr))

-- The leaves of the bytes say of each block whether it is taken.
abbrev pub LeavesOf : (ℕ → Bool) → List ℕ → Type 0
LeavesOf f t = (p : ℕ) → p < 512 → bit_at t (512 + p) ≡ f (mirrored depth p)

-- Each inner node of a tree is set exactly if one of its children is.
pub tree_joined : (f : ℕ → Bool) (a : ℕ) → 0 < a → a < 512 → OrOfChildren (tree_of f) a
tree_joined f a h l =
    rw (tree_bit f a (omega arith), tree_bit f (2 * a) (omega arith), tree_bit f (2 * a + 1) (omega arith)) (bit_children f a h l)

pub tree_leaves : (f : ℕ → Bool) → LeavesOf f (tree_of f)
tree_leaves f p h = tree_bit f (512 + p) (omega arith) ∙ bit_leaf f p h

-- Bytes with node 0 clear, the leaves right, and each inner node the OR of its children are the tree.
module _ (f : ℕ → Bool) (t : List ℕ) (sized : Sized t) (root : bit_at t 0 ≡ false)
    (joined : (a : ℕ) → 0 < a → a < 512 → OrOfChildren t a) (leaves : LeavesOf f t) where
  at_leaf : (n : ℕ) → 512 ≤ n → n < 1024 → bit_at t n ≡ node_bit f n
  at_leaf n h l =
      let e : 512 + (n - 512) ≡ n = omega arith in
      rw e at (leaves (n - 512) (omega arith) ∙ sym (bit_leaf f (n - 512) (omega arith)))

  -- d levels down there are only leaves
  at_node : (d n : ℕ) → 0 < n → n < 1024 → 512 ≤ n * 2 ^ d → bit_at t n ≡ node_bit f n
  at_node zero n h l g = at_leaf n (omega arith) l
  at_node (suc d) n h l g =
      by_cases (dec_le 512 n)
      (λ q. at_leaf n q l)
      (λ q.
      let g₀ : 512 ≤ 2 * n * 2 ^ d = omega (arith, rw (pow-suc 2 d) at g) in
      let g₁ : 512 ≤ (2 * n + 1) * 2 ^ d = omega arith in
      joined n h (omega arith)
      ∙ ap₂ ◌||◌ (at_node d (2 * n) (omega arith) (omega arith) g₀) (at_node d (2 * n + 1) (omega arith) (omega arith) g₁)
      ∙ sym (bit_children f n h (omega arith)))

  at_each : (n : ℕ) → n < 1024 → bit_at t n ≡ node_bit f n
  unfolding node_bit
  at_each zero l = root
  at_each (suc m) l = at_node 9 (suc m) (omega arith) l (omega arith)

  pub tree_of_leaves : t ≡ tree_of f
  tree_of_leaves = same_tree t (tree_of f) sized (tree_sized f) (λ n l. at_each n l ∙ sym (tree_bit f n l))

pub tree_root : (f : ℕ → Bool) → bit_at (tree_of f) 0 ≡ false
unfolding node_bit
tree_root f = tree_bit f 0 (omega arith)

-- The tree depends only on which blocks of the list are taken.
pub tree_ext : (f g : ℕ → Bool) → ((b : ℕ) → b < 512 → f b ≡ g b) → tree_of f ≡ tree_of g
tree_ext f g h =
    tree_of_leaves g (tree_of f) (tree_sized f) (tree_root f) (tree_joined f)
    (λ p l. tree_leaves f p l ∙ h (mirrored depth p) (mirror_lt depth p))

-- Giving back a class that was free before it was taken restores the bytes.
pub tree_restored : (f : ℕ → Bool) (k r : ℕ) → k ≤ depth → r < 2 ^ k → free f k r ≡ true → tree_of (without_class k r (with_class k r f)) ≡ tree_of f
unfolding free
tree_restored f k r hk hr e = tree_ext (without_class k r (with_class k r f)) f (λ b l. go b l (in_class k r b) refl)
  where
    go : (b : ℕ) → b < 512 → (v : Bool) → in_class k r b ≡ v → not (in_class k r b) && (in_class k r b || f b) ≡ f b
    go b l true q =
        rw q (sym (is_false (f b) (λ t.
        false≢true (sym (ap not ((class_taken_list f k r hk hr).1 (b, l, eqb-true (b % 2 ^ k) r q, t))) ∙ e))))
    go b l false q = rw q

-- Where no block is taken, no bit is set.
pub tree_empty : tree_of nothing ≡ replicate 128 0
unfolding tree_of node_bit
tree_empty = refl
