-- What the writing of an answer promises.
use Rattle.std.specs.Prelude.{ℕ, ◌+◌, ◌-◌, ◌≤◌, ◌≡◌, List, [], ◌∷◌, ◌++◌}
use Rattle.std.specs.Prelude.{Result, Ok, Err}
use Rattle.rules.specs.declared.Refusal.{Refusal}
use Rattle.rules.specs.Refusals.{number}
use Rattle.rules.specs.Answers.{Answer, refused}
use Rattle.rules.specs.Text.{byte}
use Rattle.rules.specs.Words.{spaced, words_of, longest_answer}
use Rattle.text.specs.Promises.{Puts, PutsWithin}

-- A line, ended by LF, is put at a place.
abbrev pub PutsLine : List ℕ → ℕ → List ℕ → List ℕ → ℕ → Type 0
PutsLine entry at words exit next = Puts entry at (words ++ (byte "\n" ∷ [])) exit next

-- The words of an answer, without the LF.
abbrev pub PutsWords : List ℕ → ℕ → Answer → List ℕ → ℕ → Type 0
PutsWords entry at answer exit next =
    PutsWithin (longest_answer - 1) entry at (words_of answer) exit next

-- The line of an answer.
pub record PutsAnswer (entry : List ℕ) (at : ℕ) (answer : Answer) (exit : List ℕ) (next : ℕ)
    : Type 0 where
  pub line : PutsLine entry at (words_of answer) exit next
  pub room : next ≤ at + longest_answer

-- The words of a number, by the word that its answers have; or those of a refusal.
abbrev pub counted : List ℕ → Result ℕ Refusal → List ℕ
counted word (Ok n) = word ++ spaced (n ∷ [])
counted word (Err r) = words_of (refused (number r))

-- They are put. `counts` (proofs/Words) has the answers that they are the words of.
abbrev pub PutsCounted : List ℕ → ℕ → List ℕ → Result ℕ Refusal → List ℕ → ℕ → Type 0
PutsCounted entry at word answer exit next =
    PutsWithin (longest_answer - 1) entry at (counted word answer) exit next

-- The longest word of such an answer that leaves room for a number in an answer's line.
abbrev pub longest_count : ℕ
longest_count = 16

-- The answers of numbers whose words are a word and the number.
abbrev pub Counts : List ℕ → (ℕ → Answer) → Type 0
Counts word says = (n : ℕ) → words_of (says n) ≡ word ++ spaced (n ∷ [])
