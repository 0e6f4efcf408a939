-- A run, one class after the other.
use mathlib.Core.Path.{◌≡◌, ◌∙◌, ap}
use mathlib.Core.Bool.{true, false}
use mathlib.Core.List.{List}
use Prim.Native.Nat.{ℕ, ◌+◌, ◌%◌, ◌^◌, ◌<◌, ◌≤◌}
use Rattle.blocks.specs.Taking.{set_run, with_class, without_class}
use Rattle.rules.specs.TreeBytes.{tree_of}
use Rattle.blocks.proofs.RunLaws.{tree_run_taken, tree_run_given}
use Rattle.tree.specs.Promises.{Takes, GivesBack}
use Rattle.run.specs.Promises.{SetsRun}

module _ (k A from j r : ℕ) (t₀ t t' : List ℕ) (h : from ≤ j) (l : j < 2 ^ k) (e : r ≡ (A + j) % 2 ^ k) where
  pub one_taken : SetsRun k A from j true t₀ t → Takes k r t t' → SetsRun k A from (j + 1) true t₀ t'
  one_taken p q f s =
      q (set_run k A from j true f) (p f s)
      ∙ ap (λ (x : ℕ). tree_of (with_class k x (set_run k A from j true f))) e
      ∙ tree_run_taken k A from f j h l

  pub one_given : SetsRun k A from j false t₀ t → GivesBack k r t t' → SetsRun k A from (j + 1) false t₀ t'
  one_given p q f s =
      q (set_run k A from j false f) (p f s)
      ∙ ap (λ (x : ℕ). tree_of (without_class k x (set_run k A from j false f))) e
      ∙ tree_run_given k A from f j h l
