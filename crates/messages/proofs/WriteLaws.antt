-- Writing: 17, then 8, or the message and the rest as it was; and there and back.
use mathlib.Core.Path.{◌≡◌, refl, sym, ap, subst, ◌∙◌}
use mathlib.Core.Bool.{Bool, true, false, not}
use mathlib.Core.Logic.{◌↔◌, inl, inr, by_cases}
use mathlib.Core.List.{List}
use Prim.Native.Nat.{ℕ, ◌<◌, ◌≤◌}
use native.Mathlib.Decide.{dec_le}
use native.Mathlib.Omega.{arith}
use lib.ListN.{length, take, drop}
use lib.Seq.{take-append_seam}
use borrow.Author.Tests.{lt-ltb, le-ltb}
use Rattle.rules.specs.declared.Message.{Message}
use Rattle.rules.specs.Answers.{Written, refusing_buffer, refused, message, wrote}
use Rattle.rules.specs.Lent.{over}
use Rattle.rules.specs.Subrates.{is_allowed}
use Rattle.rules.specs.Messages.{message_bytes}
use Rattle.rules.specs.ReadMessage.{read_message}
use Rattle.rules.specs.WriteMessage.{write_checks, write_done, write_message}
use Rattle.messages.specs.Fitting.{FailedFits}
use Rattle.calls.proofs.RefusalLaws.{InTable, decided_passed, decided_first, refused_same}
use Rattle.calls.proofs.CallLaws.{refusal_keeps_buffer}
use Rattle.messages.proofs.AllowedLaws.{allowed_fits}
use Rattle.messages.proofs.ReadLaws.{read_exactly}

-- ---- the three outcomes
module _ (m : Message) (buffer : List ℕ) where
  pub write_forbidden : is_allowed m ≡ false → write_message m buffer ≡ refusing_buffer buffer 17
  unfolding write_message write_checks
  write_forbidden a = decided_first (write_checks m buffer) (refusing_buffer buffer) (write_done m buffer) (inl (ap not a, refl))

  pub write_short : is_allowed m ≡ true → length buffer < length (message_bytes m) → write_message m buffer ≡ refusing_buffer buffer 8
  unfolding write_message write_checks
  write_short a l = decided_first (write_checks m buffer) (refusing_buffer buffer) (write_done m buffer) (inr (ap not a, inl (lt-ltb _ _ l, refl)))

  pub write_whole : is_allowed m ≡ true → length (message_bytes m) ≤ length buffer → write_message m buffer ≡ record { answer = wrote (length (message_bytes m)); buffer = over (message_bytes m) buffer }
  unfolding write_message write_checks write_done
  write_whole a l = decided_passed (write_checks m buffer) (refusing_buffer buffer) (write_done m buffer) (ap not a, (le-ltb _ _ l, tt))

-- ---- exactly
-- What is written, and what the buffer then holds: there is no other case.
pub data Wrote (m : Message) (buffer : List ℕ) : Written → Type 0 where
  forbidden : is_allowed m ≡ false → Wrote m buffer (refusing_buffer buffer 17)
  short : is_allowed m ≡ true → length buffer < length (message_bytes m) → Wrote m buffer (refusing_buffer buffer 8)
  whole : is_allowed m ≡ true → length (message_bytes m) ≤ length buffer → Wrote m buffer (record { answer = wrote (length (message_bytes m)); buffer = over (message_bytes m) buffer })

pub write_cases : (m : Message) (buffer : List ℕ) → Wrote m buffer (write_message m buffer)
write_cases m buffer = held (is_allowed m) refl
  where
    held : (b : Bool) → is_allowed m ≡ b → Wrote m buffer (write_message m buffer)
    held false a = subst (Wrote m buffer) (sym (write_forbidden m buffer a)) (forbidden a)
    held true a =
        by_cases (dec_le (length (message_bytes m)) (length buffer))
        (λ l. subst (Wrote m buffer) (sym (write_whole m buffer a l)) (whole a l))
        (λ l. subst (Wrote m buffer) (sym (write_short m buffer a (omega arith))) (short a (omega arith)))

-- 17 exactly if the values are not allowed;
pub write_17 : (m : Message) (buffer : List ℕ) → ((write_message m buffer).answer ≡ refused 17) ↔ (is_allowed m ≡ false)
write_17 m buffer = (λ e. to (write_message m buffer) (write_cases m buffer) e, λ a. ap (λ (w : Written). w.answer) (write_forbidden m buffer a))
  where
    to : (w : Written) → Wrote m buffer w → w.answer ≡ refused 17 → is_allowed m ≡ false
    to w (forbidden a) e = a
    to w (short a l) e = let z : ◌≡◌ {A = ℕ} 8 17 = refused_same e in absurd (omega arith)
    to w (whole a l) e = let z : ◌≡◌ {A = ℕ} 0 1 = cc in absurd (omega arith)

-- 8 exactly if they are, and the buffer is shorter than the message.
pub write_8 : (m : Message) (buffer : List ℕ) → ((write_message m buffer).answer ≡ refused 8) ↔ ((is_allowed m ≡ true) × (length buffer < length (message_bytes m)))
write_8 m buffer = (λ e. to (write_message m buffer) (write_cases m buffer) e, λ w. ap (λ (x : Written). x.answer) (write_short m buffer w.0 w.1))
  where
    to : (w : Written) → Wrote m buffer w → w.answer ≡ refused 8 → (is_allowed m ≡ true) × (length buffer < length (message_bytes m))
    to w (forbidden a) e = let z : ◌≡◌ {A = ℕ} 17 8 = refused_same e in absurd (omega arith)
    to w (short a l) e = (a, l)
    to w (whole a l) e = let z : ◌≡◌ {A = ℕ} 0 1 = cc in absurd (omega arith)

-- ---- there and back
-- "What we write reads back as the same values": of every allowed message and every buffer that takes it.
pub there_and_back_lem : (m : Message) → FailedFits m → is_allowed m ≡ true → (buffer : List ℕ) → length (message_bytes m) ≤ length buffer
    → read_message (take (length (message_bytes m)) (write_message m buffer).buffer) ≡ message m
there_and_back_lem m f a buffer l =
    ap (λ (w : Written). read_message (take (length (message_bytes m)) w.buffer)) (write_whole m buffer a l)
    ∙ ap read_message (take-append_seam (message_bytes m) (drop (length (message_bytes m)) buffer))
    ∙ (read_exactly (message_bytes m) m).1 (refl, allowed_fits m a f, a)

-- "and what we read writes back as the same bytes": into any buffer that takes it, at its start, and the size is their length.
pub back_and_there_lem : (bytes : List ℕ) (m : Message) → read_message bytes ≡ message m → (buffer : List ℕ) → length bytes ≤ length buffer
    → write_message m buffer ≡ record { answer = wrote (length bytes); buffer = over bytes buffer }
back_and_there_lem bytes m e buffer l =
    let r = (read_exactly bytes m).0 e in
    let n = ap (λ (x : List ℕ). length x) r.0 in
    write_whole m buffer r.2 (omega (arith, n))
    ∙ ap (λ (x : List ℕ). record { answer = wrote (length x); buffer = over x buffer }) r.0

-- ---- refused
-- "a refusal is a number of the table, and no byte of the buffer has changed"
pub write_refusal_lem : (m : Message) (buffer : List ℕ) (n : ℕ) → (write_message m buffer).answer ≡ refused n → InTable n × ((write_message m buffer).buffer ≡ buffer)
unfolding write_message write_done
write_refusal_lem m buffer n = refusal_keeps_buffer (write_checks m buffer) buffer (write_done m buffer) (λ k e. let z : ◌≡◌ {A = ℕ} 0 1 = cc in omega arith) n
