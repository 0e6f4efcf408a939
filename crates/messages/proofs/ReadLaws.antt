-- Reading: a message, 16 or 17, each exactly when.
use mathlib.Core.Path.{◌≡◌, refl, sym, ap, subst, ◌∙◌}
use mathlib.Core.Bool.{Bool, true, false, not}
use mathlib.Core.Logic.{◌↔◌, inl, inr}
use mathlib.Core.List.{List}
use mathlib.Core.Option.{Option, none, some, get_or}
use Prim.Native.Nat.{ℕ}
use native.Mathlib.Omega.{arith}
use Rattle.rules.specs.declared.Message.{Message}
use Rattle.rules.specs.declared.Message.TheVariants.{Default}
use Rattle.rules.specs.Below.{is_none}
use Rattle.rules.specs.Answers.{Answer, refused, message}
use Rattle.rules.specs.Subrates.{is_allowed}
use Rattle.rules.specs.Messages.{message_bytes, subrates_at, message_in}
use Rattle.rules.specs.ReadMessage.{message_for, read_checks, read_message}
use Rattle.basics.proofs.BytesLaws.{AllBytes}
use Rattle.messages.specs.Fitting.{Fits}
use Rattle.calls.proofs.RefusalLaws.{InTable, decided_passed, decided_first, refused_same}
use Rattle.calls.proofs.CallLaws.{tabled}
use Rattle.messages.proofs.MessageLaws.{Formed, formed_as, message_formed, message_bytes_lem, formed_written, formed_fits, message_in_lem, message_none, message_read, message_only, unformed, bytes_injective}

-- ---- the three answers
-- Of a message that is read.
module _ (bytes : List ℕ) (m : Message) (is : message_in bytes ≡ some m) where
  for : message_for bytes ≡ m
  unfolding message_for
  for = ap (λ (o : Option Message). get_or o (Default (subrates_at bytes 3))) is

  pub read_allowed : is_allowed m ≡ true → read_message bytes ≡ message m
  unfolding read_message read_checks
  read_allowed a =
      decided_passed (read_checks bytes) refused (message (message_for bytes)) (ap is_none is, (ap (λ x. not (is_allowed x)) for ∙ ap not a, tt))
      ∙ ap message for

  pub read_forbidden : is_allowed m ≡ false → read_message bytes ≡ refused 17
  unfolding read_message read_checks
  read_forbidden a =
      decided_first (read_checks bytes) refused (message (message_for bytes)) (inr (ap is_none is, inl (ap (λ x. not (is_allowed x)) for ∙ ap not a, refl)))

-- Of bytes that are none.
pub read_wrong : (bytes : List ℕ) → message_in bytes ≡ none → read_message bytes ≡ refused 16
unfolding read_message read_checks
read_wrong bytes e = decided_first (read_checks bytes) refused (message (message_for bytes)) (inl (ap is_none e, refl))

-- ---- exactly
-- What bytes are, and what is answered: there is no other case.
pub data Read (bytes : List ℕ) : Answer → Type 0 where
  nothing : ((m : Message) → message_bytes m ≡ bytes → ⊥) → Read bytes (refused 16)
  forbidden : (m : Message) → message_bytes m ≡ bytes → Fits m → is_allowed m ≡ false → Read bytes (refused 17)
  allowed : (m : Message) → message_bytes m ≡ bytes → Fits m → is_allowed m ≡ true → Read bytes (message m)

pub read_cases : (bytes : List ℕ) → Read bytes (read_message bytes)
read_cases bytes = found (message_in bytes) refl
  where
    held : (m : Message) → message_in bytes ≡ some m → (b : Bool) → is_allowed m ≡ b → Read bytes (read_message bytes)
    held m e true a = let w = message_only bytes m e in subst (Read bytes) (sym (read_allowed bytes m e a)) (allowed m w.0 w.1 a)
    held m e false a = let w = message_only bytes m e in subst (Read bytes) (sym (read_forbidden bytes m e a)) (forbidden m w.0 w.1 a)

    none_has : message_in bytes ≡ none → (m : Message) → message_bytes m ≡ bytes → ⊥
    none_has e m q =
        let n : ◌≡◌ {A = Option Message} none (some (formed_as bytes (subst Formed q (message_formed m)))) = sym e ∙ message_in_lem bytes (subst AllBytes q (message_bytes_lem m)) (subst Formed q (message_formed m)) in
        let z : ◌≡◌ {A = ℕ} 0 1 = cc in
        omega arith

    found : (o : Option Message) → message_in bytes ≡ o → Read bytes (read_message bytes)
    found none e = subst (Read bytes) (sym (read_wrong bytes e)) (nothing (none_has e))
    found (some m) e = held m e (is_allowed m) refl

-- Bytes are read as the message that they are when written out, if it is allowed, and as no other.
pub read_exactly : (bytes : List ℕ) (m : Message) → (read_message bytes ≡ message m) ↔ ((message_bytes m ≡ bytes) × Fits m × (is_allowed m ≡ true))
read_exactly bytes m = (λ e. to (read_message bytes) (read_cases bytes) e, λ w. from w.0 w.1 w.2)
  where
    same_one : {x y : Message} → message x ≡ message y → x ≡ y
    same_one e = cc

    to : (a : Answer) → Read bytes a → a ≡ message m → (message_bytes m ≡ bytes) × Fits m × (is_allowed m ≡ true)
    to a (nothing f) e = let z : ◌≡◌ {A = ℕ} 0 1 = cc in absurd (omega arith)
    to a (forbidden n q f x) e = let z : ◌≡◌ {A = ℕ} 0 1 = cc in absurd (omega arith)
    to a (allowed n q f x) e = let s = same_one e in (subst (λ (k : Message). message_bytes k ≡ bytes) s q, subst Fits s f, subst (λ (k : Message). is_allowed k ≡ true) s x)

    from : message_bytes m ≡ bytes → Fits m → is_allowed m ≡ true → read_message bytes ≡ message m
    from q f a = read_allowed bytes m (ap message_in (sym q) ∙ message_read m f) a

-- Reading accepts bytes exactly if they are the bytes of some message that is allowed.
pub accepted_exactly : (bytes : List ℕ) → ((m : Message) × (read_message bytes ≡ message m)) ↔ ((m : Message) × (message_bytes m ≡ bytes) × Fits m × (is_allowed m ≡ true))
accepted_exactly bytes = (
  λ w. let r = (read_exactly bytes w.0).0 w.1 in (w.0, r.0, r.1, r.2),
  λ w. (w.0, (read_exactly bytes w.0).1 (w.1, w.2, w.3)),
)

-- 16 exactly if they are the bytes of no message, whatever its values:
pub wrong_exactly : (bytes : List ℕ) → (read_message bytes ≡ refused 16) ↔ ((m : Message) → message_bytes m ≡ bytes → ⊥)
wrong_exactly bytes = (λ e. to (read_message bytes) (read_cases bytes) e, λ f. read_wrong bytes (message_none bytes f))
  where
    to : (a : Answer) → Read bytes a → a ≡ refused 16 → (m : Message) → message_bytes m ≡ bytes → ⊥
    to a (nothing f) e = f
    to a (forbidden n q f x) e = let z : ◌≡◌ {A = ℕ} 17 16 = refused_same e in absurd (omega arith)
    to a (allowed n q f x) e = let z : ◌≡◌ {A = ℕ} 0 1 = cc in absurd (omega arith)

-- the code is none of the three, the subevent is another, the length byte is another, or the number of bytes is not the size.
pub wrong_formed : (bytes : List ℕ) → AllBytes bytes → (read_message bytes ≡ refused 16) ↔ (Formed bytes → ⊥)
wrong_formed bytes small =
    let r = wrong_exactly bytes in
    (λ e f. r.0 e (formed_as bytes f) (formed_written bytes small f), λ f. r.1 (unformed bytes f))

-- 17 exactly if none of that holds and the values are not allowed.
pub forbidden_exactly : (bytes : List ℕ) → AllBytes bytes → (read_message bytes ≡ refused 17) ↔ ((f : Formed bytes) × (is_allowed (formed_as bytes f) ≡ false))
forbidden_exactly bytes small = (λ e. to (read_message bytes) (read_cases bytes) e, λ w. read_forbidden bytes (formed_as bytes w.0) (message_in_lem bytes small w.0) w.1)
  where
    to : (a : Answer) → Read bytes a → a ≡ refused 17 → (f : Formed bytes) × (is_allowed (formed_as bytes f) ≡ false)
    to a (nothing f) e = let z : ◌≡◌ {A = ℕ} 16 17 = refused_same e in absurd (omega arith)
    to a (forbidden m q fit x) e =
        let f : Formed bytes = subst Formed q (message_formed m) in
        let one : m ≡ formed_as bytes f = bytes_injective m (formed_as bytes f) fit (formed_fits bytes small f) (q ∙ sym (formed_written bytes small f)) in
        (f, ap is_allowed (sym one) ∙ x)
    to a (allowed n q f x) e = let z : ◌≡◌ {A = ℕ} 0 1 = cc in absurd (omega arith)

-- A refusal is a number of the table.
pub read_refusal_lem : (bytes : List ℕ) (n : ℕ) → read_message bytes ≡ refused n → InTable n
unfolding read_message
read_refusal_lem bytes = tabled (read_checks bytes) (message (message_for bytes)) (λ k e. let z : ◌≡◌ {A = ℕ} 0 1 = cc in absurd (omega arith))
