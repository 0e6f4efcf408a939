-- The laws of runs: a run is its classes, one after the other.
use mathlib.Core.Path.{◌≡◌, refl, sym, ap, ◌∙◌}
use mathlib.Core.Bool.{Bool, true, false, ◌||◌, ◌&&◌, not, cond, and-false}
use mathlib.Core.Logic.{by_cases}
use Prim.Native.Nat.{ℕ, suc, ◌+◌, ◌%◌, ◌^◌, ◌<◌, ◌≤◌}
use native.Mathlib.Decide.{ℕ_discrete, dec_le}
use native.Mathlib.Omega.{arith}
use lib.Pow.{pow_pos}
use lib.Dec.{eqb, leb, ltb, leb-zero}
use borrow.Author.Tests.{eq-eqb, ne_eqb, le-leb, lt-leb, lt-ltb, le-ltb}
use Rattle.rules.specs.declared.Connection.{Connection}
use Rattle.rules.specs.Time.{minus_mod}
use Rattle.rules.specs.Ownership.{factor, belongs}
use Rattle.rules.specs.Classes.{in_class}
use Rattle.blocks.specs.Taking.{in_run, with_class, without_class, set_run}
use Rattle.rules.specs.TreeBytes.{tree_of}
use Rattle.blocks.proofs.EndlessTime.{minus_mod_back, minus_mod_only}
use Rattle.blocks.proofs.TreeLaws.{tree_ext}

-- The blocks of the class of (A + j) mod F are those j after an anchor.
pub class_offset : (k A j b : ℕ) → j < 2 ^ k → in_class k ((A + j) % 2 ^ k) b ≡ eqb (minus_mod b A (2 ^ k)) j
class_offset k A j b h =
    by_cases (ℕ_discrete (minus_mod b A (2 ^ k)) j)
    (λ e. eq-eqb (b % 2 ^ k) ((A + j) % 2 ^ k) (sym (minus_mod_back b A (2 ^ k) (pow_pos k)) ∙ ap (λ (x : ℕ). (A + x) % 2 ^ k) e) ∙ sym (eq-eqb (minus_mod b A (2 ^ k)) j e))
    (λ e. ne_eqb (b % 2 ^ k) ((A + j) % 2 ^ k) (λ q. e (minus_mod_only b A (2 ^ k) (pow_pos k) j h q)) ∙ sym (ne_eqb (minus_mod b A (2 ^ k)) j e))

between_more : (from j o : ℕ) → from ≤ j → leb from o && ltb o (j + 1) ≡ eqb o j || leb from o && ltb o j
between_more from j o h =
    by_cases (ℕ_discrete o j)
    (λ e. rw (eq-eqb o j e, le-leb from o (omega arith), lt-ltb o (j + 1) (omega arith)))
    (λ e.
    rw (ne_eqb o j e)
    (by_cases (dec_le (suc o) j)
    (λ l. rw (lt-ltb o (j + 1) (omega arith), lt-ltb o j l))
    (λ l. rw (le-ltb o (j + 1) (omega arith), le-ltb o j (omega arith)))))

between_none : (from o : ℕ) → leb from o && ltb o from ≡ false
between_none from o =
    by_cases (dec_le from o)
    (λ l. rw (le-ltb o from l) (and-false (leb from o)))
    (λ l. rw (lt-leb from o (omega arith)))

-- One block more.
pub run_more : (k A from j b : ℕ) → from ≤ j → j < 2 ^ k → in_run k A from (j + 1) b ≡ in_class k ((A + j) % 2 ^ k) b || in_run k A from j b
run_more k A from j b h l = between_more from j (minus_mod b A (2 ^ k)) h ∙ ap (λ (v : Bool). v || in_run k A from j b) (sym (class_offset k A j b l))

pub run_none : (k A from b : ℕ) → in_run k A from from b ≡ false
run_none k A from b = between_none from (minus_mod b A (2 ^ k))

-- A whole run is what belongs to its connection.
pub run_belongs : (c : Connection) (b : ℕ) → in_run c.k c.anchor 0 c.length b ≡ belongs c b
unfolding belongs
run_belongs c b = rw (leb-zero (minus_mod b c.anchor (factor c)))

-- ---- in the tree
cond_taken : (c r f : Bool) → c || cond r true f ≡ cond (c || r) true f
cond_taken true r f = refl
cond_taken false r f = refl

cond_given : (c r f : Bool) → not c && cond r false f ≡ cond (c || r) false f
cond_given true r f = refl
cond_given false r f = refl

module _ (k A from : ℕ) (f : ℕ → Bool) where
  pub tree_run_none : (v : Bool) → tree_of f ≡ tree_of (set_run k A from from v f)
  tree_run_none v = tree_ext _ _ (λ b l. ap (λ (u : Bool). cond u v (f b)) (sym (run_none k A from b)))

  pub tree_run_taken : (j : ℕ) → from ≤ j → j < 2 ^ k → tree_of (with_class k ((A + j) % 2 ^ k) (set_run k A from j true f)) ≡ tree_of (set_run k A from (j + 1) true f)
  tree_run_taken j h l =
      tree_ext _ _ (λ b m. cond_taken (in_class k ((A + j) % 2 ^ k) b) (in_run k A from j b) (f b) ∙ ap (λ (u : Bool). cond u true (f b)) (sym (run_more k A from j b h l)))

  pub tree_run_given : (j : ℕ) → from ≤ j → j < 2 ^ k → tree_of (without_class k ((A + j) % 2 ^ k) (set_run k A from j false f)) ≡ tree_of (set_run k A from (j + 1) false f)
  tree_run_given j h l =
      tree_ext _ _ (λ b m. cond_given (in_class k ((A + j) % 2 ^ k) b) (in_run k A from j b) (f b) ∙ ap (λ (u : Bool). cond u false (f b)) (sym (run_more k A from j b h l)))
