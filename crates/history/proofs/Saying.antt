-- The command program prints, line by line, what the rule sheet's step answers after the commands said before.
use Rattle.std.specs.Prelude.{Option, Some, None}
use mathlib.Core.Path.{◌≡◌, refl, sym, ap, ◌∙◌}
use mathlib.Core.List.{List, [], ◌∷◌, ◌++◌, append_assoc}
use Prim.Native.Nat.{ℕ}
use lib.ListN.{take}
use lib.Seq.{take_at}
use Rattle.rules.specs.declared.Schedule.{Schedule}
use Rattle.rules.specs.declared.Command.{Command}
use Rattle.rules.specs.declared.Command.TheVariants.{Admit, AdmitRange, Drop, Report, Owner, Anchor}
use Rattle.rules.specs.Obey.{obey}
use Rattle.rules.specs.Text.{byte}
use Rattle.rules.specs.Split.{parted}
use Rattle.rules.specs.Words.{words_of}
use Rattle.rules.specs.Commands.{says}
use Rattle.rules.specs.Program.{carried_out, printed, tail_printed, answered, program}
use Rattle.texts.proofs.SplitLaws.{split_piece}
use Rattle.command.proofs.ProgramLaws.{carried_out_without, program_answered}
use Rattle.command.specs.declared.Output.{Output}
use Rattle.command.specs.Promises.{Runs}
use Rattle.history.specs.Calls.{nothing, Result, beside, ruled_call, ruled}
use Rattle.history.specs.Runs.{Fresh, start_of, History, begin, after}
use Rattle.history.specs.Said.{request_of, heard, heard_all, told, told_all, tail_told, ProgramTold}

-- A command's call is the one that the program makes for it.
obey_ruled : (s : Schedule) (c : Command) → ruled s (request_of c) ≡ beside nothing (obey s c)
unfolding ruled_call obey
obey_ruled s (Admit handle interval floor ceiling) = refl
obey_ruled s (AdmitRange handle smallest largest floor ceiling) = refl
obey_ruled s (Drop handle) = refl
obey_ruled s (Report handle sample) = refl
obey_ruled s (Owner block) = refl
obey_ruled s (Anchor handle block) = refl

-- A line after a history: its words, and the schedule.
carried_out_told : (h : History) (l : Option Command) → carried_out (after h) l ≡ record { words = told h l; schedule = after (heard h l) }
unfolding carried_out told after
carried_out_told h None = refl
carried_out_told h (Some c) = ap (λ (t : Result). record { words = words_of t.answer; schedule = t.schedule }) (sym (obey_ruled (after h) c))

-- The lines of the output are what is told, line by line.
printed_told : (h : History) (lines : List (List ℕ)) (tail : List ℕ)
    → parted (byte "\n") (printed (after h) lines ++ tail_printed tail) ≡ record { pieces = told_all h lines ++ tail_told tail; tail = [] }
unfolding printed told_all parted
printed_told h [] [] = refl
printed_told h [] (b ∷ bs) = refl
printed_told h (line ∷ lines) tail =
    let one = carried_out (after h) (says line) in
    let e = carried_out_told h (says line) in
    rw (
      append_assoc one.words (byte "\n" ∷ printed one.schedule lines) (tail_printed tail),
      split_piece (byte "\n") one.words (printed one.schedule lines ++ tail_printed tail) (carried_out_without (after h) (says line)),
      e,
      printed_told (heard h (says line)) lines tail,
    )

-- What is printed is the whole of the program's output.
output_is : (input : List ℕ) (r : Output) → Runs input r → take r.count r.bytes ≡ program input
output_is input r p = rw p.bytes (take_at (program input) _ r.count (sym p.count))

-- "One line, ended by LF, is printed per input line": each line that says a command prints the words of the step's answer after the commands
-- said before it; other lines, and a tail, print `bad` and are in no history.
pub program_told : ProgramTold
unfolding answered after start_of
program_told input r p l =
    ap (parted (byte "\n")) (output_is input r p ∙ program_answered input l)
    ∙ printed_told (begin Fresh) (parted (byte "\n") input).pieces (parted (byte "\n") input).tail

-- So each line, wherever it stands, is told after those before it.
pub told_each : (h : History) (before : List (List ℕ)) (line : List ℕ) (later : List (List ℕ))
    → told_all h (before ++ line ∷ later) ≡ told_all h before ++ told (heard_all h before) (says line) ∷ told_all (heard_all h (before ++ line ∷ [])) later
unfolding told_all heard_all
told_each h [] line later = refl
told_each h (first ∷ before) line later = ap (λ l. told h (says first) ∷ l) (told_each (heard h (says first)) before line later)
