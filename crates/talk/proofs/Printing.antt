-- What a line prints, put piece by piece.
use mathlib.Core.Path.{◌≡◌, ap, ◌∙◌}
use mathlib.Core.List.{List}
use Prim.Native.Nat.{ℕ, ◌≤◌}
use native.Mathlib.Omega.{arith}
use Rattle.std.specs.Prelude.{Result}
use Rattle.rules.specs.declared.Message.{Message}
use Rattle.rules.specs.declared.Refusal.{Refusal}
use Rattle.rules.specs.Text.{text}
use Rattle.rules.specs.Answers.{of_writing}
use Rattle.rules.specs.Words.{words_of}
use Rattle.rules.specs.WriteMessage.{write_message}
use Rattle.text.specs.Promises.{Puts}
use Rattle.hexadecimal.proofs.Printing.{lent_line_lem}
use Rattle.hexadecimal.specs.Lending.{blank, buffer_words}
use Rattle.hci.specs.Promises.{Writes}
use Rattle.talk.specs.Promises.{longest_told, written_line, Prints, reads, writes, bad}

-- The answer of a writing into a blank buffer, the buffer, and the end of the line.
pub written_line_lem : {l b c d : List ℕ} {i j k : ℕ} (m : Message) (entry exit : List ℕ)
    (a : Result ℕ Refusal) (n : ℕ) → entry ≡ blank n → Writes m entry exit a
    → Puts l 0 (words_of (of_writing a)) b i → Puts b i (buffer_words exit) c j
    → Puts c j (text "\n") d k → Puts l 0 (written_line m n) d k
unfolding written_line
written_line_lem m entry exit a n e w p q r =
    let x = w ∙ ap (write_message m) e in
    lent_line_lem (of_writing a) exit (write_message m (blank n)) x p q r

-- What is printed fits.
pub prints_few : {entry exit : List ℕ} {n : ℕ} → Prints entry exit n → n ≤ longest_told
prints_few (reads bytes p) = omega (arith, p.room)
prints_few (writes m size l p) = omega (arith, p.room)
prints_few (bad p) = omega (arith, p.room)
