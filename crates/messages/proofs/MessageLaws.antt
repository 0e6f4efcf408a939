-- The bytes of a message: a message is read back from them, and they are written again from what is read.
use mathlib.Core.Path.{◌≡◌, refl, sym, ap, ap₂, subst, ◌∙◌}
use mathlib.Core.Bool.{Bool, true, false, cond}
use mathlib.Core.List.{List, [], ◌∷◌, ◌++◌}
use mathlib.Core.Option.{Option, none, some, get_or}
use Prim.Native.Nat.{ℕ, ◌+◌, ◌<◌, ◌≤◌}
use native.Mathlib.Omega.{arith}
use lib.Dec.{lit≤}
use lib.ListN.{length, take}
use lib.Seq.{take_all}
use Rattle.rules.specs.declared.Subrates.{Subrates}
use Rattle.rules.specs.declared.SubrateChange.{SubrateChange}
use Rattle.rules.specs.declared.Message.{Message}
use Rattle.rules.specs.declared.Message.TheVariants.{Default, Request, Change}
use Rattle.rules.specs.Bytes.{little, little_number, number_at, same}
use Rattle.rules.specs.Messages.{subrate_values, change_values, two_bytes_each, command_bytes, event_bytes, message_bytes, subrates_at, change_at, candidates, written_as, message_in}
use Rattle.messages.specs.Fitting.{TwoBytes, Fits}
use Rattle.basics.proofs.BoolLaws.{is_false}
use Rattle.basics.proofs.BytesLaws.{AllBytes, bytes_append, little_bytes, little_number_lem, number_at_lt, number_next, same_exactly}

-- ---- sizes
abbrev pub size_of : Message → ℕ
size_of (Default v) = 13
size_of (Request handle v) = 15
size_of (Change e) = 14

pub size_is : (m : Message) → length (message_bytes m) ≡ size_of m
unfolding message_bytes
size_is (Default v) = refl
size_is (Request handle v) = refl
size_is (Change e) = refl

-- ---- the form of bytes: the code, the length byte and how many there are
pub record IsCommand (opcode parameters : ℕ) (bytes : List ℕ) : Type 0 where
  pub code : number_at bytes 0 2 ≡ opcode
  pub counted : number_at bytes 2 1 ≡ parameters
  pub sized : length bytes ≡ 3 + parameters

pub record IsEvent (code subevent parameters : ℕ) (bytes : List ℕ) : Type 0 where
  pub code_is : number_at bytes 0 1 ≡ code
  pub counted : number_at bytes 1 1 ≡ parameters
  pub sub : number_at bytes 2 1 ≡ subevent
  pub sized : length bytes ≡ 2 + parameters

-- Those of the three messages.
pub data Formed (bytes : List ℕ) : Type 0 where
  default : IsCommand 0x207d 10 bytes → Formed bytes
  request : IsCommand 0x207e 12 bytes → Formed bytes
  change : IsEvent 0x3e 0x23 12 bytes → Formed bytes

-- The message that bytes of a form are.
abbrev pub formed_as : (bytes : List ℕ) → Formed bytes → Message
formed_as bytes (default f) = Default (subrates_at bytes 3)
formed_as bytes (request f) = Request (number_at bytes 3 2) (subrates_at bytes 5)
formed_as bytes (change f) = Change (change_at bytes 3)

-- Whatever a message's values, its bytes are bytes, and of its form.
pub message_formed : (m : Message) → Formed (message_bytes m)
unfolding message_bytes little little_number
message_formed (Default v) = default (record { code = refl; counted = refl; sized = refl })
message_formed (Request handle v) = request (record { code = refl; counted = refl; sized = refl })
message_formed (Change e) = change (record { code_is = refl; counted = refl; sub = refl; sized = refl })

behind : (w n : ℕ) (rest : List ℕ) → AllBytes rest → AllBytes (little w n ++ rest)
behind w n rest h = bytes_append (little w n) rest (little_bytes w n) h

two_bytes : (ns : List ℕ) → AllBytes (two_bytes_each ns)
unfolding two_bytes_each
two_bytes [] i = omega arith
two_bytes (n ∷ ns) i = behind 2 n (two_bytes_each ns) (two_bytes ns) i

pub message_bytes_lem : (m : Message) → AllBytes (message_bytes m)
unfolding message_bytes command_bytes event_bytes
message_bytes_lem (Default v) =
    let values = two_bytes_each (subrate_values v) in
    behind 2 0x207d (little 1 10 ++ values) (behind 1 10 values (two_bytes (subrate_values v)))
message_bytes_lem (Request handle v) =
    let values = two_bytes_each (handle ∷ subrate_values v) in
    behind 2 0x207e (little 1 12 ++ values) (behind 1 12 values (two_bytes (handle ∷ subrate_values v)))
message_bytes_lem (Change e) =
    let values = two_bytes_each (change_values e) in
    let status = little 1 e.status ++ values in
    behind 1 0x3e (little 1 12 ++ little 1 0x23 ++ status)
    (behind 1 12 (little 1 0x23 ++ status) (behind 1 0x23 status (behind 1 e.status values (two_bytes (change_values e)))))

-- ---- bytes of a form are those of the message that they say
abbrev two : List ℕ → ℕ → List ℕ
two bytes at = little 2 (number_at bytes at 2)

module _ (bytes : List ℕ) (small : AllBytes bytes) where
  module _ (size : ℕ) (sized : length bytes ≡ size) where
    -- A number more, behind what has been written: one that is known, or whatever it is.
    then : (at w n : ℕ) → at + w ≤ size → number_at bytes at w ≡ n → {x : List ℕ} → x ≡ take at bytes → x ++ little w n ≡ take (at + w) bytes
    then at w n l e {x} q = ap (λ (k : ℕ). x ++ little w k) (sym e) ∙ number_next bytes at w small (omega arith) q

    more : (at w : ℕ) → at + w ≤ size → {x : List ℕ} → x ≡ take at bytes → x ++ little w (number_at bytes at w) ≡ take (at + w) bytes
    more at w l q = then at w (number_at bytes at w) l refl q

    -- Five of two bytes each, to the end.
    five : (at : ℕ) → at + 2 + 2 + 2 + 2 + 2 ≡ size → {x : List ℕ} → x ≡ take at bytes
        → ((((x ++ two bytes at) ++ two bytes (at + 2)) ++ two bytes (at + 2 + 2)) ++ two bytes (at + 2 + 2 + 2)) ++ two bytes (at + 2 + 2 + 2 + 2) ≡ bytes
    five at e q =
        more (at + 2 + 2 + 2 + 2) 2 (omega arith)
        (more (at + 2 + 2 + 2) 2 (omega arith) (more (at + 2 + 2) 2 (omega arith) (more (at + 2) 2 (omega arith) (more at 2 (omega arith) q))))
        ∙ take_all (at + 2 + 2 + 2 + 2 + 2) bytes (omega arith)

  pub formed_written : (f : Formed bytes) → message_bytes (formed_as bytes f) ≡ bytes
  unfolding message_bytes little
  formed_written (default f) =
      five 13 f.sized 3 refl
      (then 13 f.sized 2 1 10 (lit≤ tt) f.counted
      (then 13 f.sized 0 2 0x207d (lit≤ tt) f.code {x = []} refl))
  formed_written (request f) =
      five 15 f.sized 5 refl
      (more 15 f.sized 3 2 (lit≤ tt)
      (then 15 f.sized 2 1 12 (lit≤ tt) f.counted
      (then 15 f.sized 0 2 0x207e (lit≤ tt) f.code {x = []} refl)))
  formed_written (change f) =
      five 14 f.sized 4 refl
      (more 14 f.sized 3 1 (lit≤ tt)
      (then 14 f.sized 2 1 0x23 (lit≤ tt) f.sub
      (then 14 f.sized 1 1 12 (lit≤ tt) f.counted
      (then 14 f.sized 0 1 0x3e (lit≤ tt) f.code_is {x = []} refl))))

  -- Its numbers fit.
  fit : (at : ℕ) → number_at bytes at 2 < 65536
  fit at = number_at_lt bytes at 2 small

  pub formed_fits : (f : Formed bytes) → Fits (formed_as bytes f)
  formed_fits (default f) = (fit 3, (fit 5, (fit 7, (fit 9, (fit 11, tt)))))
  formed_fits (request f) = (fit 3, (fit 5, (fit 7, (fit 9, (fit 11, (fit 13, tt))))))
  formed_fits (change f) = (number_at_lt bytes 3 1 small, (fit 4, (fit 6, (fit 8, (fit 10, (fit 12, tt))))))

-- ---- a message whose numbers fit is read back from its bytes
back : (n : ℕ) → n < 65536 → little_number (little 2 n) ≡ n
back n l = little_number_lem 2 n l

subrates_back : (v : Subrates) → TwoBytes (subrate_values v) → subrates_at (two_bytes_each (subrate_values v)) 0 ≡ v
unfolding two_bytes_each little
subrates_back v (a, (b, (c, (d, (e, _))))) =
    λ i. record { min = back v.min a i; max = back v.max b i; latency = back v.latency c i; continuation = back v.continuation d i; timeout = back v.timeout e i }

change_back : (e : SubrateChange) → e.status < 256 → TwoBytes (change_values e) → change_at (little 1 e.status ++ two_bytes_each (change_values e)) 0 ≡ e
unfolding two_bytes_each little
change_back e s (a, (b, (c, (d, (f, _))))) =
    λ i.
    record {
      status = little_number_lem 1 e.status s i;
      handle = back e.handle a i;
      factor = back e.factor b i;
      latency = back e.latency c i;
      continuation = back e.continuation d i;
      timeout = back e.timeout f i;
    }

pub message_back : (m : Message) → Fits m → formed_as (message_bytes m) (message_formed m) ≡ m
unfolding message_bytes message_formed little
message_back (Default v) f = ap Default (subrates_back v f)
message_back (Request handle v) (h, f) = ap₂ Request (back handle h) (subrates_back v f)
message_back (Change e) (s, f) = ap Change (change_back e s f)

-- ---- reading, by the form
-- The first that is the bytes when written out is found; one of another size is passed;
pub written_here : (bytes : List ℕ) (m : Message) (ms : List Message) → message_bytes m ≡ bytes → written_as bytes (m ∷ ms) ≡ some m
unfolding written_as
written_here bytes m ms e = ap (λ (b : Bool). cond b (some m) (written_as bytes ms)) ((same_exactly (message_bytes m) bytes).1 e)

written_later : (bytes : List ℕ) (m : Message) (ms : List Message) → (size_of m ≡ length bytes → ⊥) → written_as bytes (m ∷ ms) ≡ written_as bytes ms
unfolding written_as
written_later bytes m ms f =
    ap (λ (b : Bool). cond b (some m) (written_as bytes ms))
    (is_false (same (message_bytes m) bytes) (λ q. f (sym (size_is m) ∙ ap (λ (l : List ℕ). length l) ((same_exactly (message_bytes m) bytes).0 q))))

-- what is found is the bytes;
written_only : (bytes : List ℕ) (ms : List Message) (m : Message) → written_as bytes ms ≡ some m → message_bytes m ≡ bytes
unfolding written_as
written_only bytes [] m e = let z : ◌≡◌ {A = ℕ} 0 1 = cc in absurd (omega arith)
written_only bytes (n ∷ ms) m e = go (same (message_bytes n) bytes) refl e (written_only bytes ms m)
  where
    go : (b : Bool) → same (message_bytes n) bytes ≡ b → cond b (some n) (written_as bytes ms) ≡ some m → (written_as bytes ms ≡ some m → message_bytes m ≡ bytes) → message_bytes m ≡ bytes
    go true q r later = ap message_bytes (ap (λ (o : Option Message). get_or o m) (sym r)) ∙ (same_exactly (message_bytes n) bytes).0 q
    go false q r later = later r

-- where the bytes are no message's, nothing is.
written_none : (bytes : List ℕ) (ms : List Message) → ((m : Message) → message_bytes m ≡ bytes → ⊥) → written_as bytes ms ≡ none
unfolding written_as
written_none bytes [] f = refl
written_none bytes (m ∷ ms) f =
    ap (λ (b : Bool). cond b (some m) (written_as bytes ms)) (is_false (same (message_bytes m) bytes) (λ q. f m ((same_exactly (message_bytes m) bytes).0 q)))
    ∙ written_none bytes ms f

-- Bytes of a form are the message that they say;
module _ (bytes : List ℕ) (small : AllBytes bytes) where
  pub message_in_lem : (f : Formed bytes) → message_in bytes ≡ some (formed_as bytes f)
  unfolding message_in
  message_in_lem (default f) =
      written_here bytes (Default (subrates_at bytes 3)) (Request (number_at bytes 3 2) (subrates_at bytes 5) ∷ Change (change_at bytes 3) ∷ []) (formed_written bytes small (default f))
  message_in_lem (request f) =
      written_later bytes (Default (subrates_at bytes 3)) (Request (number_at bytes 3 2) (subrates_at bytes 5) ∷ Change (change_at bytes 3) ∷ []) (λ e. omega (arith, f.sized))
      ∙ written_here bytes (Request (number_at bytes 3 2) (subrates_at bytes 5)) (Change (change_at bytes 3) ∷ []) (formed_written bytes small (request f))
  message_in_lem (change f) =
      written_later bytes (Default (subrates_at bytes 3)) (Request (number_at bytes 3 2) (subrates_at bytes 5) ∷ Change (change_at bytes 3) ∷ []) (λ e. omega (arith, f.sized))
      ∙ written_later bytes (Request (number_at bytes 3 2) (subrates_at bytes 5)) (Change (change_at bytes 3) ∷ []) (λ e. omega (arith, f.sized))
      ∙ written_here bytes (Change (change_at bytes 3)) [] (formed_written bytes small (change f))

-- where they are no message's, there is none.
pub message_none : (bytes : List ℕ) → ((m : Message) → message_bytes m ≡ bytes → ⊥) → message_in bytes ≡ none
unfolding message_in
message_none bytes f = written_none bytes (candidates bytes) f

-- Bytes of no form are no message's.
pub unformed : (bytes : List ℕ) → (Formed bytes → ⊥) → (m : Message) → message_bytes m ≡ bytes → ⊥
unformed bytes f m e = f (subst Formed e (message_formed m))

-- ---- what a message's bytes are read as
pub message_read : (m : Message) → Fits m → message_in (message_bytes m) ≡ some m
message_read m f = message_in_lem (message_bytes m) (message_bytes_lem m) (message_formed m) ∙ ap {B = Option Message} some (message_back m f)

-- and what bytes are read as has these bytes, and its numbers fit.
pub message_only : (bytes : List ℕ) (m : Message) → message_in bytes ≡ some m → (message_bytes m ≡ bytes) × Fits m
unfolding message_in
message_only bytes m e =
    let q = written_only bytes (candidates bytes) m e in
    let small : AllBytes bytes = subst AllBytes q (message_bytes_lem m) in
    let f : Formed bytes = subst Formed q (message_formed m) in
    let same_one : formed_as bytes f ≡ m = ap (λ (o : Option Message). get_or o m) (sym (message_in_lem bytes small f) ∙ e) in
    (q, subst Fits same_one (formed_fits bytes small f))

-- So two messages with the same bytes are equal.
pub bytes_injective : (m n : Message) → Fits m → Fits n → message_bytes m ≡ message_bytes n → m ≡ n
bytes_injective m n f g e = ap (λ (o : Option Message). get_or o m) (sym (message_read m f) ∙ ap message_in e ∙ message_read n g)
