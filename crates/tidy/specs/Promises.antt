-- What a tidy promises, and the functions within.
use Rattle.std.specs.Prelude.{ℕ, suc, ◌-◌, ◌/◌, ◌^◌, ◌<◌, ◌≤◌, ◌≡◌, true, cond, List, ltb, length, get_or, Result, Ok, Err}
use Rattle.std.proofs.Math.Option.{Option, none, some}
use Rattle.std.proofs.lemmas.List.Edits.{sets}
use Rattle.rules.specs.declared.Connection.{Connection}
use Rattle.rules.specs.declared.Schedule.{Schedule}
use Rattle.rules.specs.declared.Done.{Done}
use Rattle.rules.specs.declared.Refusal.{Refusal}
use Rattle.rules.specs.declared.Refusal.TheVariants.{NoAnchorForAll}
use Rattle.rules.specs.Time.{minus_mod}
use Rattle.rules.specs.Ownership.{handles, nobody, at, taken}
use Rattle.rules.specs.Good.{Good, tree_for, fresh, with_connections}
use Rattle.rules.specs.Answers.{of_tidying, listed}
use Rattle.rules.specs.Tidy.{of_depth, place_all, Move, movers, entry_of, tidy}
use Rattle.place.specs.Promises.{row_classes}

-- The call: its answer, the schedule afterwards and every number of the lent list are what the rule gives; and the schedule is good again.
pub record Tidies (s : Schedule) (entry exit : List ℕ) (r : Done (Result ℕ Refusal)) : Type 0 where
  pub is : listed of_tidying r exit ≡ tidy s entry
  pub good : Good r.schedule

-- ---- within: the moves and the schedule, or the refusal
abbrev pub done_over : Schedule → Result (ℕ × Schedule) Refusal → Done (Result ℕ Refusal)
done_over s (Ok r) = record { answer = Ok r.0; schedule = r.1 }
done_over s (Err why) = record { answer = Err why; schedule = s }

abbrev pub TidiesTo : Schedule → List ℕ → List ℕ → Result (ℕ × Schedule) Refusal → Type 0
TidiesTo s entry exit r = Tidies s entry exit (done_over s r)

-- ---- within: the row
-- The first n numbers of a row: 1 where the block is free of the connections, 0 where it is taken.
abbrev pub Row : ℕ → List Connection → List ℕ → Type 0
Row n placed room = (A : ℕ) → A < n → get_or room A 0 ≡ cond (taken placed A) 0 1

-- Each class of the upper half is as that of the lower.
pub record Widens (k : ℕ) (entry exit : List ℕ) : Type 0 where
  pub long : length exit ≡ row_classes
  pub lower : (A : ℕ) → A < 2 ^ k / 2 → get_or exit A 0 ≡ get_or entry A 0
  pub upper : (A : ℕ) → 2 ^ k / 2 ≤ A → A < 2 ^ k → get_or exit A 0 ≡ get_or entry (A - 2 ^ k / 2) 0

-- The classes of the run are taken, the others as before.
pub record TakesRow (k anchor n : ℕ) (entry exit : List ℕ) : Type 0 where
  pub long : length exit ≡ row_classes
  pub classes : (A : ℕ) → A < 2 ^ k → get_or exit A 0 ≡ cond (ltb (minus_mod A anchor (2 ^ k)) n) 0 (get_or entry A 0)

-- ---- within: the placing
-- Connections are placed, with their tree: each has a smaller k, and those that are still to come have free slots.
pub record Placed (cs : List Connection) (k : ℕ) (new : Schedule) : Type 0 where
  pub places : length new.connections ≡ handles
  pub has_tree : new.tree.bytes ≡ tree_for new.connections
  pub coarse : (g : ℕ) → (at new.connections g).live ≡ true → (at new.connections g).k < k
  pub ahead : (g : ℕ) → k ≤ (at cs g).k → at new.connections g ≡ nobody

-- So it is before depth k, and the row is that of the depth before.
pub record Reaches (cs : List Connection) (k : ℕ) (new : Schedule) (room : List ℕ) : Type 0 where
  pub placed : Placed cs k new
  pub long : length room ≡ row_classes
  pub row : Row (2 ^ (k - 1)) new.connections room

-- After depth k: those of the depth are placed too; or one of them finds no anchor.
abbrev pub DepthEnds : List Connection → ℕ → Schedule → List ℕ → Result Unit Refusal → Option (List Connection) → Type 0
DepthEnds cs k after room r none = r ≡ Err NoAnchorForAll
DepthEnds cs k after room r (some placed) = (r ≡ Ok tt) × (after.connections ≡ placed) × Reaches cs (suc k) after room

abbrev pub ArrangesDepth : List Connection → ℕ → Schedule → Schedule → List ℕ → Result Unit Refusal → Type 0
ArrangesDepth cs k before after room r = DepthEnds cs k after room r (place_all cs (of_depth cs k) before.connections)

-- The schedule of all connections that are placed, with their tree; or one of them finds no anchor.
abbrev pub Arranges : Option (List Connection) → Result Schedule Refusal → Type 0
Arranges none r = r ≡ Err NoAnchorForAll
Arranges (some placed) r = r ≡ Ok (with_connections fresh placed)

-- ---- within: the moves
-- How many anchors differ: at most one for each handle.
pub record Counts (old new : List Connection) (n : ℕ) : Type 0 where
  pub is : n ≡ length (movers old new)
  pub few : n ≤ handles

-- A move, by its numbers.
abbrev pub move_named : ℕ → ℕ → ℕ → Move
move_named handle old new = record { handle = handle; old = old; new = new }

-- The numbers of a move are stored one after the other, from a place on.
abbrev pub PutsMove : ℕ → Move → List ℕ → List ℕ → Type 0
PutsMove place m entry exit = exit ≡ sets entry place (entry_of m)
