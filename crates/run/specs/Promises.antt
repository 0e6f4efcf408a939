-- What the functions on runs promise, and the fresh schedule.
use Rattle.std.specs.Prelude.{ℕ, ◌+◌, ◌%◌, ◌^◌, ◌<◌, ◌≤◌, ◌≡◌, Bool, List}
use Rattle.rules.specs.Time.{list_blocks, minus_mod}
use Rattle.rules.specs.Classes.{run_free}
use Rattle.blocks.specs.Taking.{set_run}
use Rattle.rules.specs.TreeBytes.{tree_of}
use Rattle.rules.specs.declared.Schedule.{Schedule}
use Rattle.rules.specs.Good.{Good, fresh}
use Rattle.tree.specs.Promises.{ByTree}

-- The fresh schedule, and it is good.
pub record Starts (r : Schedule) : Type 0 where
  pub is : r ≡ fresh
  pub good : Good r

pub record Factor (k r : ℕ) : Type 0 where
  pub is : r ≡ 2 ^ k
  pub positive : 0 < r
  pub small : r ≤ list_blocks

pub record ClassAt (k anchor j r : ℕ) : Type 0 where
  pub is : r ≡ (anchor + j) % 2 ^ k
  pub below : r < 2 ^ k

pub record MinusMod (k a b r : ℕ) : Type 0 where
  pub is : r ≡ minus_mod a b (2 ^ k)
  pub below : r < 2 ^ k

-- Whether every class of the run is free.
abbrev pub RunFreeSays : ℕ → ℕ → ℕ → List ℕ → Bool → Type 0
RunFreeSays k A n bytes says = ByTree bytes says (λ taken. run_free taken k A n)

abbrev pub SetsRun : ℕ → ℕ → ℕ → ℕ → Bool → List ℕ → List ℕ → Type 0
SetsRun k A from to bit before after = ByTree before after (λ taken. tree_of (set_run k A from to bit taken))
