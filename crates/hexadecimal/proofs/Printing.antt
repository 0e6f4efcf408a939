-- What a lent buffer prints.
use mathlib.Core.Path.{◌≡◌, refl, ap, ◌∙◌}
use mathlib.Core.List.{List, [], ◌∷◌, ◌++◌}
use Prim.Native.Nat.{ℕ, ◌<◌}
use native.Mathlib.Omega.{arith}
use lib.ListN.{length, length-replicate}
use Rattle.rules.specs.Text.{text}
use Rattle.hexadecimal.specs.Hex.{hex}
use Rattle.rules.specs.Answers.{Answer, Written}
use Rattle.rules.specs.Words.{words_of}
use Rattle.text.specs.Promises.{Puts}
use Rattle.text.proofs.Putting.{puts_after, puts_as}
use Rattle.hexadecimal.specs.Lending.{blank, buffer_words, lent_line}

-- A buffer, and a space before it.
pub buffer_words_lem : (bytes : List ℕ) → 0 < length bytes → text " " ++ hex bytes ≡ buffer_words bytes
buffer_words_lem [] h = absurd (omega arith)
buffer_words_lem (b ∷ bs) h = refl

pub no_words : (bytes : List ℕ) → length bytes ≡ 0 → buffer_words bytes ≡ []
no_words [] h = refl
no_words (b ∷ bs) h = absurd (omega arith)

-- The line of a call that writes into a buffer: the answer's words, the buffer, the end of the line.
pub lent_line_lem : {l b c d : List ℕ} {i j k : ℕ} (answer : Answer) (buffer : List ℕ) (w : Written) → ◌≡◌ {A = Written} (record { answer = answer; buffer = buffer }) w
    → Puts l 0 (words_of answer) b i → Puts b i (buffer_words buffer) c j → Puts c j (text "\n") d k → Puts l 0 (lent_line w) d k
unfolding lent_line
lent_line_lem answer buffer w e p q r =
    puts_after (puts_after (puts_as (ap (λ (x : Written). words_of x.answer) e) p) (puts_as (ap (λ (x : Written). buffer_words x.buffer) e) q)) r

-- A blank buffer has its size.
pub blank_size : (n : ℕ) {buffer : List ℕ} → buffer ≡ blank n → length buffer ≡ n
blank_size n e = ap (λ (l : List ℕ). length l) e ∙ length-replicate n 165
