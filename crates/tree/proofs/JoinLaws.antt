-- Joining the ancestors of a node, and the tree that comes of it.
use mathlib.Core.Path.{◌≡◌, refl, sym, ap, ◌∙◌, subst}
use mathlib.Core.Bool.{Bool, true, false, ◌||◌, cond, or_self}
use mathlib.Core.Logic.{◌≢◌, by_cases}
use mathlib.Core.List.{List}
use Prim.Native.Nat.{ℕ, ◌+◌, ◌-◌, ◌*◌, ◌/◌, ◌^◌, ◌<◌, ◌≤◌}
use native.Mathlib.Nat.{mul-le-mul_right}
use native.Mathlib.Decide.{ℕ_discrete}
use native.Mathlib.Omega.{arith}
use lib.Pow.{pow_pos, pow-add}
use borrow.Author.Tests.{eqb-false, eq-eqb, ne_eqb}
use Rattle.rules.specs.Classes.{depth, in_class}
use Rattle.rules.specs.Mirror.{mirrored}
use Rattle.rules.specs.TreeBytes.{bit_at}
use Rattle.blocks.specs.Children.{OrOfChildren}
use Rattle.blocks.proofs.TreeLaws.{tree_root, tree_leaves, tree_of_leaves}
use Rattle.tree.specs.Under.{under}
use Rattle.tree.specs.Promises.{WritesBelow, Joins, MissingOver, JoinsAbove, WritesClass}
use Rattle.tree.proofs.Bits.{node_lt}
use Rattle.tree.proofs.UnderLaws.{under_lt, not_above_lem, above_less, child_under, under_leaf}

-- Only nodes above n may have another bit, and what is not above n is not above v.
pub record Keeps (n v : ℕ) (before after : List ℕ) : Type 0 where
  pub others : (m : ℕ) → 0 < m → under depth m (n / 2) ≡ false → bit_at after m ≡ bit_at before m
  pub zeroth : bit_at after 0 ≡ bit_at before 0
  pub above : (m : ℕ) → 0 < m → under depth m (n / 2) ≡ false → under depth m (v / 2) ≡ false

-- ---- the node over v joined
module _ (v : ℕ) {t t' : List ℕ} {changed : Bool} (hv : 1 < v) (j : Joins (v / 2) t t' changed) where
  kept : (m : ℕ) → m ≢ v / 2 → bit_at t' m ≡ bit_at t m
  kept m h = j.bits m ∙ rw (ne_eqb m (v / 2) h)

  joined_over : OrOfChildren t' (v / 2)
  joined_over = j.bits (v / 2) ∙ rw (eq-eqb (v / 2) (v / 2) refl, kept (2 * (v / 2)) (omega arith), kept (2 * (v / 2) + 1) (omega arith))

  -- so is any node whose children kept their bits
  joined_where : MissingOver v t → (a : ℕ) → 0 < a → a < 512 → ((m : ℕ) → m / 2 ≡ a → bit_at t' m ≡ bit_at t m) → OrOfChildren t' a
  joined_where g a ha hl children =
      by_cases (ℕ_discrete a (v / 2))
      (λ q. subst (λ (x : ℕ). OrOfChildren t' x) (sym q) joined_over)
      (λ q. rw (kept a q, children (2 * a) (omega arith), children (2 * a + 1) (omega arith)) (g a ha hl (ne_eqb a (v / 2) q)))

  -- only the node one level higher may be missing now, and not even that one where nothing changed
  pub join_missing : MissingOver v t → MissingOver (v / 2) t'
  join_missing g a ha hl h =
      let n : a ≢ v / 2 / 2 = eqb-false a (v / 2 / 2) h in
      joined_where g a ha hl (λ m e. kept m (omega arith))

  pub join_stays : changed ≡ false → MissingOver v t → (a : ℕ) → 0 < a → a < 512 → OrOfChildren t' a
  join_stays s g a ha hl =
      joined_where g a ha hl (λ m e. by_cases (ℕ_discrete m (v / 2)) (λ q. rw q (j.same s)) (kept m))

  pub join_keeps : {n : ℕ} {before : List ℕ} → v < 1024 → Keeps n v before t → Keeps n (v / 2) before t'
  join_keeps hl k =
      record {
        others = λ m h e. kept m (not_above_lem m (v / 2) (k.above m h e)) ∙ k.others m h e;
        zeroth = kept 0 (omega arith) ∙ k.zeroth;
        above = λ m h e. above_less m (v / 2) h (omega arith) (k.above m h e);
      }

-- ---- all nodes under n with one bit
cond_joined : (u v a x y : Bool) → a ≡ x || y → cond u v a ≡ cond u v x || cond u v y
cond_joined true v a x y e = sym (or_self v)
cond_joined false v a x y e = e

-- where every inner node was joined, only the one over n may be missing now
pub below_missing : (k n : ℕ) (v : Bool) (t c : List ℕ) → k ≤ depth → 2 ^ k ≤ n → WritesBelow (depth - k) n v t c
    → ((a : ℕ) → 0 < a → a < 512 → OrOfChildren t a) → MissingOver n c
below_missing k n v t c hk hn w j a ha hl hu =
    let s : k + (depth - k) ≡ 9 = omega arith in
    let e : 2 ^ k * 2 ^ (depth - k) ≡ 512 = sym (pow-add 2 k (depth - k)) ∙ ap (λ (x : ℕ). 2 ^ x) s in
    let g : a < n * 2 ^ (depth - k) = omega (arith, e, mul-le-mul_right (2 ^ (depth - k)) hn) in
    let q : a ≢ n / 2 = eqb-false a (n / 2) hu in
    let u₀ : under (depth - k) n (2 * a) ≡ under (depth - k) n a = child_under (depth - k) n a (2 * a) (omega arith) (omega arith) g in
    let u₁ : under (depth - k) n (2 * a + 1) ≡ under (depth - k) n a = child_under (depth - k) n a (2 * a + 1) (omega arith) (omega arith) g in
    rw (w.bits a, w.bits (2 * a), w.bits (2 * a + 1), u₀, u₁)
    (cond_joined (under (depth - k) n a) v (bit_at t a) (bit_at t (2 * a)) (bit_at t (2 * a + 1)) (j a ha hl))

-- ---- a whole class written
pub class_written : (k r n : ℕ) (v : Bool) (t c t' : List ℕ) → k ≤ depth → r < 2 ^ k → n ≡ 2 ^ k + mirrored k r
    → WritesBelow (depth - k) n v t c → JoinsAbove n c t' → WritesClass k r v t t'
class_written k r n v t c t' hk hr e w j f tree =
    tree_of_leaves (λ b. cond (in_class k r b) v (f b)) t' j.sized root j.joined leaves
  where
    positive : 0 < n
    positive = omega (arith, pow_pos k)

    inside : n < 1024
    inside = rw e (node_lt k r hk)

    root : bit_at t' 0 ≡ false
    root = j.zeroth ∙ w.bits 0 ∙ rw (under_lt (depth - k) n 0 positive, tree) (tree_root f)

    leaves : (p : ℕ) → p < 512 → bit_at t' (512 + p) ≡ cond (in_class k r (mirrored depth p)) v (f (mirrored depth p))
    leaves p hp =
        let u : under (depth - k) n (512 + p) ≡ in_class k r (mirrored depth p) = rw e (under_leaf k r p hk hr hp) in
        j.others (512 + p) (omega arith) (under_lt 9 (512 + p) (n / 2) (omega (arith, inside)))
        ∙ w.bits (512 + p)
        ∙ rw (u, tree, tree_leaves f p hp)
