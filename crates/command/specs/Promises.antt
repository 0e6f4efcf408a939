-- What the command program promises.
use Rattle.std.specs.Prelude.{ℕ, ◌+◌, ◌-◌, ◌*◌, ◌≤◌, ◌≡◌, List, ◌++◌, length, replicate, Option, Result}
use Rattle.rules.specs.declared.Schedule.{Schedule}
use Rattle.rules.specs.declared.Refusal.{Refusal}
use Rattle.rules.specs.declared.Placed.{Placed}
use Rattle.rules.specs.declared.Adjusted.{Adjusted}
use Rattle.rules.specs.declared.Reply.{Reply}
use Rattle.rules.specs.declared.Reply.TheVariants.{Admission as ReplyAdmission, Dropping as ReplyDropping, Reporting as ReplyReporting, Ownership as ReplyOwnership, Distance as ReplyDistance}
use Rattle.rules.specs.declared.Command.{Command}
use Rattle.rules.specs.declared.Command.TheVariants.{Admit, AdmitRange, Drop, Report, Owner, Anchor}
use Rattle.rules.specs.declared.Done.{Done}
use Rattle.rules.specs.Good.{Good}
use Rattle.rules.specs.Answers.{of_reply, outcome}
use Rattle.rules.specs.Obey.{obey}
use Rattle.rules.specs.Commands.{says}
use Rattle.rules.specs.Program.{most_output, carried_out, program}
use Rattle.text.specs.Promises.{Puts}
use Rattle.answer.specs.Promises.{PutsLine}
use Rattle.command.specs.declared.Output.{Output}

-- The reply is of the command's own kind.
abbrev pub OwnKind : Command → Reply → Type 0
OwnKind (Admit handle interval floor ceiling) r = (a : Result Placed Refusal) × (r ≡ ReplyAdmission a)
OwnKind (AdmitRange handle smallest largest floor ceiling) r = (a : Result Placed Refusal) × (r ≡ ReplyAdmission a)
OwnKind (Drop handle) r = (a : Result Unit Refusal) × (r ≡ ReplyDropping a)
OwnKind (Report handle sample) r = (a : Result Adjusted Refusal) × (r ≡ ReplyReporting a)
OwnKind (Owner block) r = (a : Option ℕ) × (r ≡ ReplyOwnership a)
OwnKind (Anchor handle block) r = (a : Result ℕ Refusal) × (r ≡ ReplyDistance a)

-- The whole answer and the schedule afterwards are what the rule gives, in a reply of the command's own kind; and the schedule is good again.
pub record Obeys (s : Schedule) (c : Command) (r : Done Reply) : Type 0 where
  pub is : outcome of_reply r ≡ obey s c
  pub own : OwnKind c r.answer
  pub good : Good r.schedule

-- A line is carried out: its words are put, and its schedule is left. They are at most four bytes for each of its own.
pub record Carries (s : Schedule) (line entry : List ℕ) (at : ℕ) (exit : List ℕ) (after : Schedule) (next : ℕ) : Type 0 where
  pub prints : PutsLine entry at (carried_out s (says line)).words exit next
  pub leaves : after ≡ (carried_out s (says line)).schedule
  pub good : Good after
  pub room : next ≤ at + 4 * (length line + 1)

-- What the input prints is put at the buffer's start, and fits.
pub record Prints (input entry exit : List ℕ) (n : ℕ) : Type 0 where
  pub puts : Puts entry 0 (program input) exit n
  pub fits : n ≤ most_output

-- The command program: the count, and every byte. Nothing is cut, as the output fits.
pub record Runs (input : List ℕ) (r : Output) : Type 0 where
  pub count : r.count ≡ length (program input)
  pub fits : r.count ≤ most_output
  pub bytes : r.bytes ≡ program input ++ replicate (most_output - r.count) 0
