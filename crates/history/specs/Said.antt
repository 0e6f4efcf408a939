-- The command program's lines, by the same histories.
use Rattle.std.specs.Prelude.{ℕ, ◌≤◌, ◌≡◌, length, take, List, [], ◌∷◌, ◌++◌, Option, Some, None}
use Rattle.rules.specs.declared.Command.{Command}
use Rattle.rules.specs.declared.Command.TheVariants.{Admit as AdmitCommand, AdmitRange as AdmitRangeCommand, Drop as DropCommand, Report as ReportCommand, Owner as OwnerCommand, Anchor as AnchorCommand}
use Rattle.rules.specs.Obey.{single_from}
use Rattle.rules.specs.Text.{byte, text}
use Rattle.rules.specs.Split.{parted}
use Rattle.rules.specs.Words.{words_of}
use Rattle.rules.specs.Commands.{says}
use Rattle.rules.specs.Program.{most_input}
use Rattle.command.specs.declared.Output.{Output}
use Rattle.command.specs.Promises.{Runs}
use Rattle.history.specs.Calls.{Call, Admit, Drop, Report, Owner, Anchor, nothing, Request, ruled_call, ruled}
use Rattle.history.specs.Runs.{Fresh, History, begin, next, after}

-- The call of a command, with nothing lent.
abbrev pub call_of : Command → Call
call_of (AdmitCommand handle interval floor ceiling) = Admit handle single_from interval floor ceiling
call_of (AdmitRangeCommand handle smallest largest floor ceiling) = Admit handle smallest largest floor ceiling
call_of (DropCommand handle) = Drop handle
call_of (ReportCommand handle sample) = Report handle sample
call_of (OwnerCommand block) = Owner block
call_of (AnchorCommand handle block) = Anchor handle block

abbrev pub request_of : Command → Request
request_of c = record { call = call_of c; lent = nothing }

-- The history after a line: one that says a command is in it, and no other.
abbrev pub heard : History → Option Command → History
heard h None = h
heard h (Some c) = next h (request_of c)

-- And after lines, one after the other.
unfoldable pub heard_all : History → List (List ℕ) → History
unfolding says
heard_all h [] = h
heard_all h (line ∷ lines) = heard_all (heard h (says line)) lines

-- What a line prints after a history: the words of the step's answer, or `bad`.
unfoldable pub told : History → Option Command → List ℕ
unfolding after ruled_call words_of
told h None = text "bad"
told h (Some c) = words_of (ruled (after h) (request_of c)).answer

-- One line after the other, each after the commands said before it.
unfoldable pub told_all : History → List (List ℕ) → List (List ℕ)
unfolding told says
told_all h [] = []
told_all h (line ∷ lines) = told h (says line) ∷ told_all (heard h (says line)) lines

-- A tail is a bad line.
abbrev pub tail_told : List ℕ → List (List ℕ)
tail_told [] = []
tail_told (b ∷ bs) = text "bad" ∷ []

-- Of an input of at most 4,096 bytes, whatever the program printed for it, if it meets its promise: its lines are what is told, line by line,
-- after a fresh start.
abbrev pub ProgramTold : Type 0
ProgramTold =
    (input : List ℕ) (r : Output) → Runs input r → length input ≤ most_input
    → parted (byte "\n") (take r.count r.bytes)
    ≡ record { pieces = told_all (begin Fresh) (parted (byte "\n") input).pieces ++ tail_told (parted (byte "\n") input).tail; tail = [] }
