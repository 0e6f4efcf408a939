-- The words of an answer, put piece by piece.
use mathlib.Core.Path.{◌≡◌, refl, sym, ap, subst, ◌∙◌}
use mathlib.Core.List.{List, ◌++◌}
use Prim.Native.Nat.{ℕ, ◌+◌, ◌≤◌}
use native.Mathlib.Omega.{arith}
use Rattle.std.specs.Prelude.{Result, Ok, Err}
use Rattle.std.specs.Result.{MatchResult, IsOkAnd}
use Rattle.rules.specs.declared.Message.{Message}
use Rattle.rules.specs.declared.Refusal.{Refusal}
use Rattle.rules.specs.Answers.{Answer, answered, message}
use Rattle.rules.specs.Answers.{saved, loaded, reported, tidied, wrote}
use Rattle.rules.specs.Text.{text}
use Rattle.rules.specs.Words.{spaced, words_of, longest_message}
use Rattle.text.specs.Promises.{Puts, PutsWithin}
use Rattle.text.proofs.Putting.{puts_row, puts_as, within_as}
use Rattle.answer.specs.Promises.{Counts, counted, PutsCounted, PutsWords}

-- The words of each answer that counts: its own word, and the number.
pub counts_saved : Counts (text "saved") saved
unfolding words_of
counts_saved n = refl

pub counts_loaded : Counts (text "loaded") loaded
unfolding words_of
counts_loaded n = refl

pub counts_reported : Counts (text "reported") reported
unfolding words_of
counts_reported n = refl

pub counts_tidied : Counts (text "tidied") tidied
unfolding words_of
counts_tidied n = refl

pub counts_wrote : Counts (text "wrote") wrote
unfolding words_of
counts_wrote n = refl

-- What is put for a word and an answer are the words of the answer that has this word.
pub counts : (says : ℕ → Answer) (word : List ℕ) → Counts word says → (a : Result ℕ Refusal)
    → counted word a ≡ words_of (answered says a)
counts says word h (Ok n) = sym (h n)
counts says word h (Err r) = refl

pub puts_counted : (says : ℕ → Answer) (word : List ℕ) → Counts word says
    → (a : Result ℕ Refusal) {entry exit : List ℕ} {at next : ℕ}
    → PutsCounted entry at word a exit next → PutsWords entry at (answered says a) exit next
puts_counted says word h a p = within_as (counts says word h a) p

-- An answer whose number has only been converted, by `map`, is the same answer,
same_number : (a b : Result ℕ Refusal) (P : ℕ → ℕ → Type 0) → ((x r : ℕ) → P x r → r ≡ x)
    → MatchResult a (λ x. IsOkAnd b (P x)) (λ e. b ≡ Err e) → b ≡ a
same_number (Ok x) (Ok r) P f p = ap Ok (f x r p)
same_number (Ok x) (Err e) P f p = absurd p
same_number (Err e) b P f p = p

-- so that its words are put;
pub puts_number : (word : List ℕ) (a b : Result ℕ Refusal) (P : ℕ → ℕ → Type 0)
    → ((x r : ℕ) → P x r → r ≡ x) → MatchResult a (λ x. IsOkAnd b (P x)) (λ e. b ≡ Err e)
    → {entry exit : List ℕ} {at next : ℕ} → PutsCounted entry at word b exit next
    → PutsCounted entry at word a exit next
puts_number word a b P f m {entry} {exit} {at} {next} p =
    subst (λ x. PutsCounted entry at word x exit next) (same_number a b P f m) p

-- and these are the words of the answer that has this word.
pub puts_converted : (says : ℕ → Answer) (word : List ℕ) → Counts word says
    → (a b : Result ℕ Refusal) (P : ℕ → ℕ → Type 0) → ((x r : ℕ) → P x r → r ≡ x)
    → MatchResult a (λ x. IsOkAnd b (P x)) (λ e. b ≡ Err e)
    → {entry exit : List ℕ} {at next : ℕ} → PutsCounted entry at word b exit next
    → PutsWords entry at (answered says a) exit next
puts_converted says word h a b P f m p = puts_counted says word h a (puts_number word a b P f m p)

-- The words of a message: its word with the numbers that were put with it, then a row of others.
pub row_words : {l b c : List ℕ} {start i j most more : ℕ} (word ns ms values : List ℕ)
    (m case : Message) → m ≡ case → word ++ spaced (ns ++ ms) ≡ words_of (message case)
    → values ≡ ms → PutsWithin most l start (word ++ spaced ns) b i
    → PutsWithin more b i (spaced values) c j → most + more ≤ longest_message
    → PutsWithin longest_message l start (words_of (message m)) c j
row_words {l} {b} {c} {start} {i} {j} word ns ms values m case e w v p q h =
    let x : Puts b i (spaced ms) c j = puts_as (ap spaced v) q.puts in
    let y = w ∙ ap (λ (k : Message). words_of (message k)) (sym e) in
    record { puts = puts_as y (puts_row word ns ms p.puts x); room = omega (arith, p.room, q.room) }
