-- What the reading and writing of a text promises.
use Rattle.std.specs.Prelude.{ℕ, ◌+◌, ◌≤◌, ◌≡◌, List, length, take, drop, ◌∷◌, ◌++◌, Option, Some, None}
use Rattle.std.specs.Borrow.{Bor}
use Rattle.rules.specs.Text.{byte}
use Rattle.rules.specs.Split.{before}
use Rattle.std.proofs.lemmas.List.Edits.{sets}
use Rattle.texts.specs.Row.{IsRow}

-- The bytes are the row of the slice's first n numbers; the rest of it is as it was.
pub record HasRow (bytes entry exit : List ℕ) (n : ℕ) : Type 0 where
  pub within : n ≤ length exit
  pub row : IsRow bytes (take n exit)
  pub rest : drop n exit ≡ drop n entry

-- They are; or they are no row of so many numbers at most as the slice takes, and of what it then holds nothing is said.
abbrev pub ReadsRow : List ℕ → List ℕ → List ℕ → Option ℕ → Type 0
ReadsRow bytes entry exit (Some n) = HasRow bytes entry exit n
ReadsRow bytes entry exit None = (ns : List ℕ) → length ns ≤ length entry → IsRow bytes ns → ⊥

-- A text is its first line, an LF and what follows; or no line ends in it.
abbrev pub SplitsLine : List ℕ → Option (Bor (List ℕ) × Bor (List ℕ)) → Type 0
SplitsLine bytes (Some r) = (r.0.now ≡ before (byte "\n") bytes) × (bytes ≡ r.0.now ++ byte "\n" ∷ r.1.now)
SplitsLine bytes None = before (byte "\n") bytes ≡ bytes

-- Bytes are stored from a place on, all else stays, and next is the place after them.
pub record Puts (entry : List ℕ) (at : ℕ) (bytes exit : List ℕ) (next : ℕ) : Type 0 where
  pub stored : exit ≡ sets entry at bytes
  pub ends : next ≡ at + length bytes

-- Bytes are put, and so many at most.
pub record PutsWithin (most : ℕ) (entry : List ℕ) (at : ℕ) (bytes exit : List ℕ) (next : ℕ) : Type 0 where
  pub puts : Puts entry at bytes exit next
  pub room : next ≤ at + most

-- The most bytes of the words of a refusal: `no`, a space and ten digits.
abbrev pub longest_refusal : ℕ
longest_refusal = 13
