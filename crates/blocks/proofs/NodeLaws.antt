-- The laws of the tree's nodes.
use mathlib.Core.Path.{◌≡◌, refl, sym, ap, ap₂, ◌∙◌, subst}
use mathlib.Core.Bool.{Bool, true, ◌||◌}
use mathlib.Core.Logic.{by_cases, ◌↔◌}
use Prim.Native.Nat.{ℕ, zero, suc, ◌+◌, ◌-◌, ◌*◌, ◌%◌, ◌^◌, ◌<◌, ◌≤◌}
use native.Mathlib.Decide.{dec_le}
use native.Mathlib.Omega.{arith}
use lib.Pow.{pow_pos, pow_mono}
use lib.Dec.{leb}
use borrow.Author.Tests.{le-leb, lt-leb, eq-eqb, eqb-true}
use Rattle.rules.specs.Classes.{depth, class_taken}
use Rattle.rules.specs.Mirror.{mirrored}
use Rattle.rules.specs.Nodes.{depth_of, position_of, covers, node_bit}
use Rattle.basics.proofs.BelowLaws.{largest_unique}
use Rattle.blocks.proofs.MirrorLaws.{mirror_lt, mirror_mirror, mirror_left, mirror_right}
use Rattle.blocks.proofs.ClassLaws.{Periodic, class_taken_ever, class_halves, class_leaf}

module _ (k p : ℕ) (hk : k ≤ depth) (hp : p < 2 ^ k) where
  -- The node 2^k + p is at depth k and position p.
  pub depth_node : depth_of (2 ^ k + p) ≡ k
  unfolding depth_of
  depth_node =
      largest_unique depth (λ j. leb (2 ^ j) (2 ^ k + p)) k hk
      (le-leb (2 ^ k) (2 ^ k + p) (omega arith))
      (λ i l h.
      let g : 2 ^ suc k ≤ 2 ^ i = pow_mono l in
      lt-leb (2 ^ i) (2 ^ k + p) (omega arith))

  pub position_node : position_of (2 ^ k + p) ≡ p
  unfolding position_of
  position_node = rw depth_node (omega arith)

bit_positive : (f : ℕ → Bool) (n : ℕ) → 0 < n → node_bit f n ≡ class_taken f (depth_of n) (mirrored (depth_of n) (position_of n))
unfolding node_bit
bit_positive f zero h = absurd (omega arith)
bit_positive f (suc m) h = refl

-- Its bit says whether the class that it covers is taken.
pub bit_node : (f : ℕ → Bool) (k p : ℕ) → k ≤ depth → p < 2 ^ k → node_bit f (2 ^ k + p) ≡ class_taken f k (mirrored k p)
bit_node f k p hk hp =
    bit_positive f (2 ^ k + p) (omega (arith, pow_pos k))
    ∙ ap (λ (d : ℕ). class_taken f d (mirrored d (position_of (2 ^ k + p)))) (depth_node k p hk hp)
    ∙ ap (λ (q : ℕ). class_taken f k (mirrored k q)) (position_node k p hk hp)

-- The node of a class.
pub bit_class : (f : ℕ → Bool) (k r : ℕ) → k ≤ depth → r < 2 ^ k → node_bit f (2 ^ k + mirrored k r) ≡ class_taken f k r
bit_class f k r hk hr =
    bit_node f k (mirrored k r) hk (mirror_lt k r) ∙ ap (λ (q : ℕ). class_taken f k q) (mirror_mirror k r hr)

-- Each number from 1 on is such a node.
pub node_parts : (j a : ℕ) → 0 < a → a < 2 ^ j → (k : ℕ) × (p : ℕ) × (k < j) × (p < 2 ^ k) × (2 ^ k + p ≡ a)
node_parts zero a h l = absurd (omega arith)
node_parts (suc j) a h l =
    by_cases (dec_le (2 ^ j) a)
    (λ g. (j, a - 2 ^ j, omega arith, omega arith, omega arith))
    (λ g. let r = node_parts j a h (omega arith) in (r.0, r.1, omega arith, r.3, r.4))

-- Each inner node is set exactly if one of its children is.
pub bit_children : (f : ℕ → Bool) (a : ℕ) → 0 < a → a < 512 → node_bit f a ≡ node_bit f (2 * a) || node_bit f (2 * a + 1)
bit_children f a h l =
    let w = node_parts 9 a h l in
    subst (λ (x : ℕ). node_bit f x ≡ node_bit f (2 * x) || node_bit f (2 * x + 1)) w.4 (at w.0 w.1 w.2 w.3)
  where
    at : (k p : ℕ) → k < 9 → p < 2 ^ k → node_bit f (2 ^ k + p) ≡ node_bit f (2 * (2 ^ k + p)) || node_bit f (2 * (2 ^ k + p) + 1)
    at k p hk hp =
        let e₀ : 2 * (2 ^ k + p) ≡ 2 ^ suc k + 2 * p = omega arith in
        let e₁ : 2 * (2 ^ k + p) + 1 ≡ 2 ^ suc k + (2 * p + 1) = omega arith in
        bit_node f k p (omega arith) hp
        ∙ class_halves f k (mirrored k p) hk
        ∙ ap₂ ◌||◌
        (ap (λ (q : ℕ). class_taken f (suc k) q) (sym (mirror_left k p)) ∙ sym (bit_node f (suc k) (2 * p) (omega arith) (omega arith)) ∙ ap (node_bit f) (sym e₀))
        (ap (λ (q : ℕ). class_taken f (suc k) q) (sym (mirror_right k p)) ∙ sym (bit_node f (suc k) (2 * p + 1) (omega arith) (omega arith)) ∙ ap (node_bit f) (sym e₁))

-- A leaf is set exactly if its one block is taken.
pub bit_leaf : (f : ℕ → Bool) (p : ℕ) → p < 512 → node_bit f (512 + p) ≡ f (mirrored depth p)
bit_leaf f p h =
    let d : 9 ≤ 9 = omega arith in
    bit_node f 9 p d h ∙ class_leaf f (mirrored 9 p)

-- A node's bit is 1 exactly if some block under it, in endless time, is taken.
pub bit_ever : (f : ℕ → Bool) (k p : ℕ) → Periodic f → k ≤ depth → p < 2 ^ k → (node_bit f (2 ^ k + p) ≡ true) ↔ ((b : ℕ) × (covers k p b ≡ true) × (f b ≡ true))
bit_ever f k p period hk hp =
    let ever = class_taken_ever f k (mirrored k p) hk (mirror_lt k p) period in (
      λ e.
          let w = ever.0 (sym (bit_node f k p hk hp) ∙ e) in
          (w.0, eq-eqb (w.0 % 2 ^ k) (mirrored k p) w.1, w.2),
      λ w. bit_node f k p hk hp ∙ ever.1 (w.0, eqb-true (w.0 % 2 ^ k) (mirrored k p) w.1, w.2),
    )
