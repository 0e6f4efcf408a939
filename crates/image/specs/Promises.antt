-- What the calls on images promise.
use Rattle.std.specs.Prelude.{ℕ, ◌+◌, ◌≡◌, List, length, Result, Ok, Err}
use Rattle.std.proofs.lemmas.List.Edits.{sets}
use Rattle.rules.specs.declared.Connection.{Connection}
use Rattle.rules.specs.declared.Schedule.{Schedule}
use Rattle.rules.specs.declared.Refusal.{Refusal}
use Rattle.rules.specs.declared.Done.{Done}
use Rattle.rules.specs.Good.{Good}
use Rattle.rules.specs.Refusals.{number}
use Rattle.rules.specs.Answers.{Outcome, Written, refusing, loaded, of_saving, of_loading, outcome}
use Rattle.rules.specs.Records.{Piece, joined}
use Rattle.rules.specs.Form.{tree_kind}
use Rattle.rules.specs.Image.{connection_pieces}
use Rattle.rules.specs.Save.{save}
use Rattle.rules.specs.Load.{load}

-- The record of a tree's bytes.
abbrev pub tree_record : List ℕ → Piece
tree_record bytes = record { kind = tree_kind; payload = bytes }

-- The records of the connections, one after the other, and where the next begins.
pub record PutsConnections (at : ℕ) (cs : List Connection) (before after : List ℕ) (next : ℕ) : Type 0 where
  pub bytes : after ≡ sets before at (joined (connection_pieces 0 cs))
  pub ends : next ≡ at + length (joined (connection_pieces 0 cs))

-- Save: the answer and every byte of the buffer are what the rule gives for the inputs.
abbrev pub Saves : Schedule → List ℕ → List ℕ → Result ℕ Refusal → Type 0
Saves s before after r = ◌≡◌ {A = Written} (record { answer = of_saving r; buffer = after }) (save s before)

-- What is read of an image, and the schedule that was there before.
abbrev pub read_over : Schedule → Schedule → Result ℕ Refusal → Outcome
read_over s new (Ok n) = record { answer = loaded n; schedule = new }
read_over s new (Err r) = refusing s (number r)

-- It is what the rule gives, whatever schedule was there.
abbrev pub ReadsImage : List ℕ → Schedule → Result ℕ Refusal → Type 0
ReadsImage bytes new r = (s : Schedule) → read_over s new r ≡ load s bytes

-- Load: the whole result, by the sheet's answer and the schedule afterwards, is what the rule gives for the inputs; and the
-- schedule is good again.
pub record Loads (s : Schedule) (bytes : List ℕ) (r : Done (Result ℕ Refusal)) : Type 0 where
  pub is : outcome of_loading r ≡ load s bytes
  pub good : Good r.schedule
