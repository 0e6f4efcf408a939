-- What a save leaves in a buffer.
use mathlib.Core.Path.{◌≡◌, refl, sym, ap, ◌∙◌}
use mathlib.Core.List.{List}
use Prim.Native.Nat.{ℕ, ◌*◌, ◌≤◌}
use native.Mathlib.Omega.{arith}
use lib.ListN.{length, take, drop, length-append, length-drop}
use lib.Seq.{take_at}
use borrow.Author.Tests.{ltb-false}
use Rattle.rules.specs.declared.Schedule.{Schedule}
use Rattle.rules.specs.declared.Refusal.{Refusal}
use Rattle.std.specs.Prelude.{Result, Ok, Err}
use Rattle.rules.specs.Good.{Good}
use Rattle.rules.specs.Text.{text}
use Rattle.rules.specs.Words.{words_of}
use Rattle.rules.specs.Answers.{Written, refusing_buffer, of_saving, saved}
use Rattle.rules.specs.Lent.{over}
use Rattle.rules.specs.Image.{image}
use Rattle.rules.specs.Save.{save_checks, save_done, save}
use Rattle.calls.proofs.RefusalLaws.{decided_cases}
use Rattle.images.proofs.SaveLaws.{save_whole, save_size}
use Rattle.images.proofs.ImageLaws.{image_bounds}
use Rattle.image.specs.Promises.{Saves}
use Rattle.text.specs.Promises.{Puts}
use Rattle.text.proofs.Putting.{puts_after, puts_as}
use Rattle.hexadecimal.specs.Hex.{hex}
use Rattle.hexadecimal.specs.Lending.{blank, buffer_words}
use Rattle.hexadecimal.proofs.Printing.{lent_line_lem}
use Rattle.script.specs.Performing.{image_line, saved_line}
use Rattle.state.specs.State.{newline}
use Rattle.hexadecimal.proofs.HexLaws.{hex_length}

-- The image is the first n bytes.
pub record Holds (s : Schedule) (buffer : List ℕ) (n : ℕ) : Type 0 where
  pub within : n ≤ length buffer
  pub small : n ≤ 1290
  pub is : take n buffer ≡ image s
  pub long : length (take n buffer) ≡ n

-- In hexadecimal it is twice as long.
pub holds_digits : {s : Schedule} {buffer : List ℕ} {n : ℕ} → Holds s buffer n → length (hex (take n buffer)) ≡ 2 * n
holds_digits {s} {buffer} {n} h = hex_length (take n buffer) ∙ ap (λ (m : ℕ). 2 * m) h.long

module _ (s : Schedule) (good : Good s) (entry exit : List ℕ) (large : 2048 ≤ length entry) where
  wrote : save s entry ≡ record { answer = saved (length (image s)); buffer = over (image s) entry }
  wrote =
      let b = image_bounds s good.places in
      save_whole s entry (image s) refl (omega arith)

  pub holds : (n : ℕ) → Saves s entry exit (Ok n) → Holds s exit n
  holds n p =
      let e = p ∙ wrote in
      let q : n ≡ length (image s) = save_size s entry n (sym (ap (λ (w : Written). w.answer) p)) in
      let x = ap (λ (w : Written). w.buffer) e in
      let b = image_bounds s good.places in
      record {
        within = omega (arith, q, ap (λ (l : List ℕ). length l) x, length-append (image s) (drop (length (image s)) entry));
        small = omega (arith, q, b.1);
        is = ap (take n) x ∙ take_at (image s) _ n (sym q);
        long = ap (λ (l : List ℕ). length l) (ap (take n) x ∙ take_at (image s) _ n (sym q)) ∙ sym q;
      }

  -- It is large enough.
  pub never_refused : (r : Refusal) → Saves s entry exit (Err r) → ⊥
  never_refused r p = let e = ap (λ (w : Written). w.answer) (p ∙ wrote) in let z : ◌≡◌ {A = ℕ} 0 1 = cc in omega arith

-- The line of an image.
pub image_line_lem : {l b c d : List ℕ} {i j k : ℕ} (s : Schedule) {bytes : List ℕ} → bytes ≡ image s → Puts l 0 (text "image ") b i → Puts b i (hex bytes) c j
    → Puts c j newline d k → Puts l 0 (image_line s) d k
unfolding image_line
image_line_lem s e p q r = puts_after (puts_after p (puts_as (ap hex e) q)) r

-- ---- a save into a blank buffer
-- The answer's words, the buffer, the end of the line.
pub saved_line_lem : {l b c d : List ℕ} {i j k : ℕ} (s : Schedule) (entry exit : List ℕ) (a : Result ℕ Refusal) (n : ℕ) → entry ≡ blank n → Saves s entry exit a
    → Puts l 0 (words_of (of_saving a)) b i → Puts b i (buffer_words exit) c j → Puts c j newline d k → Puts l 0 (saved_line s n) d k
unfolding saved_line
saved_line_lem s entry exit a n e p w q r = lent_line_lem (of_saving a) exit (save s (blank n)) (p ∙ ap (save s) e) w q r

-- A save keeps the buffer's size.
pub save_length : (s : Schedule) (entry exit : List ℕ) (a : Result ℕ Refusal) → Saves s entry exit a → length exit ≡ length entry
unfolding save save_checks save_done
save_length s entry exit a p =
    let bytes = image s in
    ap (λ (w : Written). length w.buffer) p
    ∙ decided_cases (λ (w : Written). length w.buffer ≡ length entry) (save_checks s entry) (refusing_buffer entry) (save_done s entry)
    (λ m. refl)
    (λ d. let l = ltb-false (length entry) (length bytes) d.0 in omega (arith, length-append bytes (drop (length bytes) entry), length-drop (length bytes) entry))
