-- What the calls on a schedule promise.
use Rattle.std.specs.Prelude.{ℕ, ◌≡◌, Bool, true, false, List, Result}
use Rattle.rules.specs.declared.Schedule.{Schedule}
use Rattle.rules.specs.declared.Connection.{Connection}
use Rattle.rules.specs.declared.Refusal.{Refusal}
use Rattle.rules.specs.declared.Placed.{Placed}
use Rattle.rules.specs.declared.Adjusted.{Adjusted}
use Rattle.rules.specs.declared.Adjusted.TheVariants.{Kept, Grown, Shrunk, Tight}
use Rattle.rules.specs.declared.Done.{Done}
use Rattle.blocks.specs.Taking.{set_run}
use Rattle.rules.specs.TreeBytes.{tree_of}
use Rattle.rules.specs.Answers.{adjusted, of_admission, of_dropping, of_reporting, outcome}
use Rattle.rules.specs.Admit.{admit}
use Rattle.rules.specs.Drop.{drop_handle}
use Rattle.rules.specs.Meter.{change}
use Rattle.rules.specs.Report.{room_to_grow, report}
use Rattle.rules.specs.Good.{Good}
use Rattle.tree.specs.Promises.{ByTree}

-- What is taken once a length is adjusted: the last blocks given back, one more taken, or as before.
abbrev pub taken_after : Connection → Adjusted → (ℕ → Bool) → ℕ → Bool
taken_after c (Kept L) f = f
taken_after c (Grown L) f = set_run c.k c.anchor c.length L true f
taken_after c (Shrunk L) f = set_run c.k c.anchor L c.length false f
taken_after c (Tight L) f = f

-- The length that is left.
abbrev pub length_in : Adjusted → ℕ
length_in (Kept L) = L
length_in (Grown L) = L
length_in (Shrunk L) = L
length_in (Tight L) = L

-- The answer for the length aimed at, and the tree that follows it.
pub record Settles (c : Connection) (aim : ℕ) (before after : List ℕ) (r : Adjusted) : Type 0 where
  pub answer : ByTree before (adjusted r) (λ taken. change c.length aim (room_to_grow taken c))
  pub tree : ByTree before after (λ taken. tree_of (taken_after c r taken))

-- ---- the calls
-- Each call: the whole result, by the sheet's answer and the schedule afterwards, is what the rule gives for the inputs;
-- and the schedule is good again.
pub record Admits (s : Schedule) (handle smallest largest floor ceiling : ℕ) (r : Done (Result Placed Refusal)) : Type 0 where
  pub is : outcome of_admission r ≡ admit s handle smallest largest floor ceiling
  pub good : Good r.schedule

pub record Drops (s : Schedule) (handle : ℕ) (r : Done (Result Unit Refusal)) : Type 0 where
  pub is : outcome of_dropping r ≡ drop_handle s handle
  pub good : Good r.schedule

pub record Reports (s : Schedule) (handle sample : ℕ) (r : Done (Result Adjusted Refusal)) : Type 0 where
  pub is : outcome of_reporting r ≡ report s handle sample
  pub good : Good r.schedule
