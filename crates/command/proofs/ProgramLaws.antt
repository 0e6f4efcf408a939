-- The laws of the command program: from the lines of its input to those of its output.
use Rattle.std.specs.Prelude.{Option, Some, None}
use mathlib.Core.Path.{◌≡◌, refl, ap}
use mathlib.Core.List.{List, [], ◌∷◌, ◌++◌, append_assoc}
use Prim.Native.Nat.{ℕ, ◌+◌, ◌<◌, ◌≤◌}
use native.Mathlib.Omega.{arith}
use lib.ListN.{length}
use borrow.Author.Tests.{lt-ltb, le-ltb}
use Rattle.rules.specs.declared.Schedule.{Schedule}
use Rattle.rules.specs.declared.Command.{Command}
use Rattle.rules.specs.declared.Command.TheVariants.{Admit, AdmitRange, Drop, Report, Owner, Anchor}
use Rattle.rules.specs.Good.{Good, fresh}
use Rattle.rules.specs.declared.Message.TheVariants.{Default, Request, Change}
use Rattle.rules.specs.Messages.{values_of}
use Rattle.rules.specs.Answers.{Answer, refused, ok, dropped, kept, grown, shrunk, tight, owner, idle, slots, saved, loaded, reported, message, wrote, tidied}
use Rattle.rules.specs.Obey.{single_from, obey}
use Rattle.rules.specs.Text.{byte, text}
use Rattle.rules.specs.Decimal.{decimal}
use Rattle.rules.specs.Split.{parted, before}
use Rattle.rules.specs.Words.{spaced, words_of}
use Rattle.rules.specs.Commands.{says}
use Rattle.rules.specs.Program.{most_input, carried_out, printed, tail_printed, answered, program}
use Rattle.texts.proofs.SplitLaws.{Without, without_append, before_without, split_piece, split_none}
use Rattle.calls.proofs.CallLaws.{admits, drops, reports, refusal_keeps_schedule, call_good}
use Rattle.texts.proofs.RowLaws.{decimal_without}

-- ---- one line at a time
-- A whole line is answered, and then the rest from the schedule that it leaves.
pub answered_line : (s : Schedule) (line rest : List ℕ) → Without (byte "\n") line
    → answered s (line ++ byte "\n" ∷ rest) ≡ (carried_out s (says line)).words ++ byte "\n" ∷ answered (carried_out s (says line)).schedule rest
unfolding answered printed
answered_line s line rest h =
    let later = parted (byte "\n") rest in
    let one = carried_out s (says line) in
    rw (split_piece (byte "\n") line rest h)
    (append_assoc one.words (byte "\n" ∷ printed one.schedule later.pieces) (tail_printed later.tail))

-- A tail is a bad line.
pub answered_tail : (s : Schedule) (b : ℕ) (bs : List ℕ) → Without (byte "\n") (b ∷ bs) → answered s (b ∷ bs) ≡ text "bad\n"
unfolding answered printed
answered_tail s b bs h = rw (split_none (byte "\n") (b ∷ bs) h)

pub answered_nothing : (s : Schedule) → answered s [] ≡ []
unfolding answered printed parted
answered_nothing s = refl

-- "4,096 bytes are taken and 4,097 print only `long`"
pub program_long : (input : List ℕ) → most_input < length input → program input ≡ text "long\n"
unfolding program
program_long input h = rw (lt-ltb most_input (length input) h)

pub program_answered : (input : List ℕ) → length input ≤ most_input → program input ≡ answered fresh input
unfolding program
program_answered input h = rw (le-ltb most_input (length input) h)

-- ---- what a line leaves
-- A bad line prints `bad` and changes nothing.
pub carried_out_bad : (s : Schedule) (line : List ℕ) → says line ≡ None → carried_out s (says line) ≡ record { words = text "bad"; schedule = s }
unfolding carried_out
carried_out_bad s line e = ap (carried_out s) e

-- A command leaves a good schedule,
pub obey_good : (s : Schedule) (c : Command) → Good s → Good (obey s c).schedule
unfolding obey
obey_good s (Admit handle interval floor ceiling) good = call_good s good (admits handle single_from interval floor ceiling)
obey_good s (AdmitRange handle smallest largest floor ceiling) good = call_good s good (admits handle smallest largest floor ceiling)
obey_good s (Drop handle) good = call_good s good (drops handle)
obey_good s (Report handle sample) good = call_good s good (reports handle sample)
obey_good s (Owner block) good = good
obey_good s (Anchor handle block) good = good

pub carried_out_good : (s : Schedule) (l : Option Command) → Good s → Good (carried_out s l).schedule
unfolding carried_out
carried_out_good s None good = good
carried_out_good s (Some c) good = obey_good s c good

-- and with a refusal the same schedule.
pub obey_refused : (s : Schedule) (c : Command) (n : ℕ) → (obey s c).answer ≡ refused n → (obey s c).schedule ≡ s
unfolding obey
obey_refused s (Admit handle interval floor ceiling) n e = refusal_keeps_schedule s (admits handle single_from interval floor ceiling) n e
obey_refused s (AdmitRange handle smallest largest floor ceiling) n e = refusal_keeps_schedule s (admits handle smallest largest floor ceiling) n e
obey_refused s (Drop handle) n e = refusal_keeps_schedule s (drops handle) n e
obey_refused s (Report handle sample) n e = refusal_keeps_schedule s (reports handle sample) n e
obey_refused s (Owner block) n e = refl
obey_refused s (Anchor handle block) n e = refl

-- ---- one line of output for each line of input
spaced_without : (ns : List ℕ) → Without (byte "\n") (spaced ns)
unfolding spaced
spaced_without [] = tt
spaced_without (n ∷ ns) =
    (λ e. omega arith, without_append (byte "\n") (decimal n) (spaced ns) (decimal_without (byte "\n") (omega arith) n) (spaced_without ns))

-- A word with no LF, then its numbers.
worded : (word ns : List ℕ) → before (byte "\n") word ≡ word → Without (byte "\n") (word ++ spaced ns)
worded word ns e =
    let h : Without (byte "\n") word = rw e at (before_without (byte "\n") word) in
    without_append (byte "\n") word (spaced ns) h (spaced_without ns)

-- No answer has an LF in its words,
pub words_without : (a : Answer) → Without (byte "\n") (words_of a)
unfolding words_of spaced before
words_without (refused n) = worded (text "no") (n ∷ []) refl
words_without (ok F A L) = worded (text "ok") (F ∷ A ∷ L ∷ []) refl
words_without dropped = worded (text "ok") [] refl
words_without (kept L) = worded (text "kept") (L ∷ []) refl
words_without (grown L) = worded (text "grown") (L ∷ []) refl
words_without (shrunk L) = worded (text "shrunk") (L ∷ []) refl
words_without (tight L) = worded (text "tight") (L ∷ []) refl
words_without (owner h) = worded (text "owner") (h ∷ []) refl
words_without idle = worded (text "idle") [] refl
words_without (slots n) = worded (text "slots") (n ∷ []) refl
words_without (saved n) = worded (text "saved") (n ∷ []) refl
words_without (loaded n) = worded (text "loaded") (n ∷ []) refl
words_without (reported n) = worded (text "reported") (n ∷ []) refl
words_without (message (Default v)) = worded (text "default") (values_of (Default v)) refl
words_without (message (Request handle v)) = worded (text "request") (values_of (Request handle v)) refl
words_without (message (Change e)) = worded (text "change") (values_of (Change e)) refl
words_without (wrote n) = worded (text "wrote") (n ∷ []) refl
words_without (tidied n) = worded (text "tidied") (n ∷ []) refl

-- and neither has what a line prints.
pub carried_out_without : (s : Schedule) (l : Option Command) → Without (byte "\n") (carried_out s l).words
unfolding carried_out spaced before
carried_out_without s None = worded (text "bad") [] refl
carried_out_without s (Some c) = words_without (obey s c).answer

-- How many lines a text has: each that ends in LF, and a tail of one byte or more.
unfoldable pub tail_count : List ℕ → ℕ
tail_count [] = 0
tail_count (b ∷ bs) = 1

unfoldable pub line_count : List ℕ → ℕ
unfolding parted tail_count
line_count input = length (parted (byte "\n") input).pieces + tail_count (parted (byte "\n") input).tail

-- Each line and the tail give one line.
printed_lines : (s : Schedule) (lines : List (List ℕ)) (tail : List ℕ)
    → ((parted (byte "\n") (printed s lines ++ tail_printed tail)).tail ≡ [])
    × (length (parted (byte "\n") (printed s lines ++ tail_printed tail)).pieces ≡ length lines + tail_count tail)
unfolding printed parted tail_count
printed_lines s [] [] = (refl, refl)
printed_lines s [] (b ∷ bs) = (refl, refl)
printed_lines s (line ∷ lines) tail =
    let one = carried_out s (says line) in
    let later = printed_lines one.schedule lines tail in
    rw (
      append_assoc one.words (byte "\n" ∷ printed one.schedule lines) (tail_printed tail),
      split_piece (byte "\n") one.words (printed one.schedule lines ++ tail_printed tail) (carried_out_without s (says line)),
    )
    (later.0, omega (arith, later.1))

-- Every output line ends in LF, and there are as many as the input has.
pub answered_lines : (s : Schedule) (input : List ℕ)
    → ((parted (byte "\n") (answered s input)).tail ≡ []) × (length (parted (byte "\n") (answered s input)).pieces ≡ line_count input)
unfolding answered line_count
answered_lines s input = printed_lines s (parted (byte "\n") input).pieces (parted (byte "\n") input).tail

pub program_lines : (input : List ℕ) → length input ≤ most_input
    → ((parted (byte "\n") (program input)).tail ≡ []) × (length (parted (byte "\n") (program input)).pieces ≡ line_count input)
program_lines input h = rw (program_answered input h) (answered_lines fresh input)

-- `long` is one line.
pub long_line : parted (byte "\n") (text "long\n") ≡ record { pieces = text "long" ∷ []; tail = [] }
unfolding parted
long_line = refl
