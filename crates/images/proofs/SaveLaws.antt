-- The laws of a save: an image grows record by record, and what the buffer holds at the end.
use mathlib.Core.Path.{◌≡◌, refl, sym, ap, ◌∙◌}
use mathlib.Core.Bool.{true, false}
use mathlib.Core.Logic.{inl}
use mathlib.Core.List.{List, [], ◌∷◌, ◌++◌, append-nil}
use Prim.Native.Nat.{ℕ, ◌+◌, ◌<◌, ◌≤◌}
use native.Mathlib.Omega.{arith}
use lib.ListN.{length, take, drop, length-append}
use lib.Seq.{sets}
use borrow.Author.Tests.{lt-ltb, le-ltb}
use Rattle.rules.specs.declared.Connection.{Connection}
use Rattle.rules.specs.declared.Schedule.{Schedule}
use Rattle.rules.specs.declared.Refusal.TheVariants.{BufferShort}
use Rattle.rules.specs.Ownership.{at}
use Rattle.rules.specs.Refusals.{number}
use Rattle.rules.specs.Answers.{Written, refusing_buffer, refused, saved}
use Rattle.rules.specs.Lent.{over}
use Rattle.rules.specs.Records.{bytes_of, joined}
use Rattle.rules.specs.Image.{connection_piece, connection_pieces, image}
use Rattle.rules.specs.Save.{save_checks, save_done, save}
use Rattle.basics.proofs.LentLaws.{over_stored}
use Rattle.calls.proofs.RefusalLaws.{decided_first, decided_passed, decided_cases}
use Rattle.calls.proofs.EachLaws.{each_live_lem, each_dead, each_first}
use Rattle.images.proofs.PieceLaws.{joined_append}

-- ---- record by record
-- The bytes of the records of the connections before h, and of the one of h, if it is live.
module _ (cs : List Connection) (h : ℕ) (l : h < length cs) where
  pub joined_live : (at cs h).live ≡ true → joined (connection_pieces 0 (take (h + 1) cs)) ≡ joined (connection_pieces 0 (take h cs)) ++ bytes_of (connection_piece h (at cs h))
  unfolding joined
  joined_live e =
      ap joined (each_live_lem connection_piece cs h l e)
      ∙ joined_append (connection_pieces 0 (take h cs)) (connection_piece h (at cs h) ∷ [])
      ∙ ap (λ (x : List ℕ). joined (connection_pieces 0 (take h cs)) ++ x) (append-nil (bytes_of (connection_piece h (at cs h))))

  pub joined_dead : (at cs h).live ≡ false → joined (connection_pieces 0 (take (h + 1) cs)) ≡ joined (connection_pieces 0 (take h cs))
  joined_dead e = ap joined (each_dead connection_piece cs h l e)

-- The first of them have no more bytes than all.
pub joined_most : (cs : List Connection) (h : ℕ) → length (joined (connection_pieces 0 (take h cs))) ≤ length (joined (connection_pieces 0 cs))
joined_most cs h =
    let first = connection_pieces 0 (take h cs) in
    let later = connection_pieces (0 + length (take h cs)) (drop h cs) in
    omega (arith, ap {B = ℕ} length (ap joined (each_first connection_piece cs h) ∙ joined_append first later) ∙ length-append (joined first) (joined later))

-- ---- the exits of a save
pub save_short : (s : Schedule) (buffer : List ℕ) → length buffer < length (image s) → ◌≡◌ {A = Written} (record { answer = refused (number BufferShort); buffer = buffer }) (save s buffer)
unfolding save save_checks
save_short s buffer l = sym (decided_first (save_checks s buffer) (refusing_buffer buffer) (save_done s buffer) (inl (lt-ltb (length buffer) (length (image s)) l, refl)))

pub save_written : (s : Schedule) (buffer : List ℕ) → length (image s) ≤ length buffer
    → ◌≡◌ {A = Written} (record { answer = saved (length (image s)); buffer = sets buffer 0 (image s) }) (save s buffer)
unfolding save save_checks save_done
save_written s buffer l =
    ap (λ (b : List ℕ). record { answer = saved (length (image s)); buffer = b }) (over_stored (image s) buffer l)
    ∙ sym (decided_passed (save_checks s buffer) (refusing_buffer buffer) (save_done s buffer) (le-ltb (length buffer) (length (image s)) l, tt))

-- A save of a schedule whose image is known, into a buffer that holds it.
pub save_whole : (s : Schedule) (buffer bytes : List ℕ) → image s ≡ bytes → length bytes ≤ length buffer
    → save s buffer ≡ record { answer = saved (length bytes); buffer = over bytes buffer }
unfolding save_done
save_whole s buffer bytes e l =
    sym (save_written s buffer (omega (arith, ap (λ (x : List ℕ). length x) e)))
    ∙ ap (λ (x : List ℕ). record { answer = saved (length x); buffer = sets buffer 0 x }) e
    ∙ ap (λ (b : List ℕ). record { answer = saved (length bytes); buffer = b }) (over_stored bytes buffer l)

-- The size that a save answers is that of the image.
pub save_size : (s : Schedule) (buffer : List ℕ) (n : ℕ) → (save s buffer).answer ≡ saved n → n ≡ length (image s)
unfolding save save_done
save_size s buffer n =
    decided_cases (λ (w : Written). w.answer ≡ saved n → n ≡ length (image s)) (save_checks s buffer) (refusing_buffer buffer) (save_done s buffer)
    (λ m e. let z : ◌≡◌ {A = ℕ} 0 1 = cc in absurd (omega arith))
    (λ d e. same e)
  where
    same : {m k : ℕ} → saved m ≡ saved k → k ≡ m
    same e = cc
