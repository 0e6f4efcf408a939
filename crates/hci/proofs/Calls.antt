-- The laws of the calls: what follows from a promise, whatever the code.
use Rattle.std.specs.Prelude.{Result, Ok, Err}
use mathlib.Core.Path.{◌≡◌, refl, sym, ap, ap₂, subst⁻¹, ◌∙◌}
use mathlib.Core.List.{List}
use Prim.Native.Nat.{ℕ, ◌≤◌}
use native.Mathlib.Omega.{arith}
use lib.ListN.{length, take}
use Rattle.rules.specs.declared.Message.{Message}
use Rattle.rules.specs.declared.Message.TheVariants.{Default, Request, Change}
use Rattle.rules.specs.declared.Refusal.TheVariants.{BufferShort, MessageWrong, ValuesForbidden}
use Rattle.rules.specs.declared.Refusal.{Refusal}
use Rattle.rules.specs.Answers.{Answer, Written, message, wrote, of_reading, of_writing}
use Rattle.rules.specs.Lent.{over}
use Rattle.rules.specs.Messages.{message_bytes}
use Rattle.rules.specs.ReadMessage.{read_message}
use Rattle.calls.proofs.AnswerLaws.{reading_injective, writing_injective}
use Rattle.messages.specs.Fitting.{FailedFits}
use Rattle.messages.proofs.MessageLaws.{size_of, size_is}
use Rattle.messages.proofs.ReadLaws.{Read, nothing, forbidden, allowed, read_cases, read_refusal_lem}
use Rattle.messages.proofs.WriteLaws.{Wrote, forbidden as writes_forbidden, short, whole, write_cases, write_refusal_lem, there_and_back_lem, back_and_there_lem}
use Rattle.hci.specs.Promises.{Reads, Writes}
use Rattle.hci.specs.Demanded.{TakesAndRefuses, RoundTrips}

-- ---- two outcomes that meet a call's statement are equal, the buffer too
pub read_unique : (bytes : List ℕ) (a b : Result Message Refusal)
    → Reads bytes a → Reads bytes b → a ≡ b
read_unique bytes a b p q = reading_injective a b (p ∙ sym q)

pub write_unique : (m : Message) (buffer x y : List ℕ) (a b : Result ℕ Refusal)
    → Writes m buffer x a → Writes m buffer y b → (a ≡ b) × (x ≡ y)
write_unique m buffer x y a b p q =
    let e = p ∙ sym q in
    (writing_injective a b (ap (λ (w : Written). w.answer) e), ap (λ (w : Written). w.buffer) e)

wrote_same : {x y : ℕ} → wrote x ≡ wrote y → x ≡ y
wrote_same e = cc

-- The size that a writing answers is that of the message: a few bytes.
pub wrote_few : (m : Message) (before after : List ℕ) (a : Result ℕ Refusal)
    → Writes m before after a → (n : ℕ) → a ≡ Ok n → n ≤ 15
wrote_few m before after a p n e =
    go (write_cases m before) (ap of_writing (sym e) ∙ ap (λ (w : Written). w.answer) p)
  where
    small : (x : Message) → length (message_bytes x) ≤ 15
    small x = subst⁻¹ (λ (k : ℕ). k ≤ 15) (size_is x) (most x)
      where
        most : (x : Message) → size_of x ≤ 15
        most (Default v) = omega arith
        most (Request handle v) = omega arith
        most (Change c) = omega arith

    go : {w : Written} → Wrote m before w → wrote n ≡ w.answer → n ≤ 15
    go (writes_forbidden x) q = let z : ◌≡◌ {A = ℕ} 0 1 = cc in absurd (omega arith)
    go (short x l) q = let z : ◌≡◌ {A = ℕ} 0 1 = cc in absurd (omega arith)
    go (whole x l) q = subst⁻¹ (λ (k : ℕ). k ≤ 15) (wrote_same q) (small m)

-- ---- demand 1
read_takes_lem : (bytes : List ℕ) → (r : Result Message Refusal) × Reads bytes r
read_takes_lem bytes = go (read_cases bytes)
  where
    go : {a : Answer} → Read bytes a → (r : Result Message Refusal) × (of_reading r ≡ a)
    go (nothing f) = (Err MessageWrong, refl)
    go (forbidden m q f x) = (Err ValuesForbidden, refl)
    go (allowed m q f x) = (Ok m, refl)

write_takes_lem : (m : Message) (before : List ℕ)
    → (after : List ℕ) × (r : Result ℕ Refusal) × Writes m before after r
write_takes_lem m before = go (write_cases m before)
  where
    go : {w : Written} → Wrote m before w → (after : List ℕ) × (r : Result ℕ Refusal)
        × (◌≡◌ {A = Written} (record { answer = of_writing r; buffer = after }) w)
    go (writes_forbidden a) = (before, Err ValuesForbidden, refl)
    go (short a l) = (before, Err BufferShort, refl)
    go (whole a l) = (over (message_bytes m) before, Ok (length (message_bytes m)), refl)

pub takes_and_refuses : TakesAndRefuses
takes_and_refuses =
    record {
      read_takes = read_takes_lem;
      write_takes = write_takes_lem;
      read_refusal = λ bytes r n p e. read_refusal_lem bytes n (sym p ∙ e);
      write_refusal =
          λ m before after r n p e.
          let w = write_refusal_lem m before n (ap (λ (x : Written). x.answer) (sym p) ∙ e) in
          (w.0.0, w.0.1, ap (λ (x : Written). x.buffer) p ∙ w.1);
    }

-- ---- there and back
-- Where a size is answered, the values are allowed, and that many bytes there are the message's.
written : (m : Message) → FailedFits m → (before after : List ℕ) (size : ℕ)
    → Writes m before after (Ok size) → read_message (take size after) ≡ message m
written m f before after size p = go (write_cases m before) (ap (λ (w : Written). w.answer) p)
  where
    go : {w : Written} → Wrote m before w → wrote size ≡ w.answer → read_message (take size after) ≡ message m
    go (writes_forbidden a) e = let z : ◌≡◌ {A = ℕ} 0 1 = cc in absurd (omega arith)
    go (short a l) e = let z : ◌≡◌ {A = ℕ} 0 1 = cc in absurd (omega arith)
    go (whole a l) e = ap₂ (λ (n : ℕ) (b : List ℕ). read_message (take n b)) (wrote_same e) (ap (λ (w : Written). w.buffer) p) ∙ there_and_back_lem m f a before l

pub round_trips : RoundTrips
round_trips =
    record {
      there_and_back =
          λ m f before after size r p q. reading_injective r (Ok m) (q ∙ written m f before after size p);
      back_and_there =
          λ bytes m before after r q l p.
          let e = p ∙ back_and_there_lem bytes m (sym q) before l in
          let size : r ≡ Ok (length bytes) =
          writing_injective r (Ok (length bytes)) (ap (λ (w : Written). w.answer) e) in
          (size, ap (λ (w : Written). w.buffer) e);
    }
