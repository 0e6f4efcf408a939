-- Two answers with the same numbers, and the same values of a message beside them, are equal; and so are two results that meet an export's statement.
use Prim.Native.Nat.{ℕ}
use mathlib.Core.Path.{◌≡◌, refl, sym, ap, ◌∙◌}
use mathlib.Core.Bool.{cond}
use mathlib.Core.List.{List}
use lib.Dec.{eqb}
use Rattle.rules.specs.Answers.{Answer, Outcome, Listed, Written, without_list, refused, ok, dropped, kept, grown, shrunk, tight, owner, idle, slots, saved, loaded, reported, message, wrote, tidied}
use Rattle.rules.specs.declared.Message.{Message}
use Rattle.rules.specs.declared.Message.TheVariants.{Default, Request, Change}
use Rattle.door.specs.declared.Said.{Said}
use Rattle.door.specs.declared.Read.{Read}
use Rattle.door.specs.declared.Called.{Called}
use Rattle.door.specs.Numbers.{in_numbers, InNumbers, no_message, in_parts}
use Rattle.door.specs.Promises.{Leaves, Lists, Writes}

-- The answer that numbers are of, with the values of a message beside them.
unfoldable read_back : Read → Answer
read_back r =
    let s = r.said in
    cond (eqb s.kind 1) (refused s.first) (
    cond (eqb s.kind 2) (ok s.first s.second s.third) (
    cond (eqb s.kind 3) dropped (
    cond (eqb s.kind 4) (kept s.first) (
    cond (eqb s.kind 5) (grown s.first) (
    cond (eqb s.kind 6) (shrunk s.first) (
    cond (eqb s.kind 7) (tight s.first) (
    cond (eqb s.kind 8) (owner s.first) (
    cond (eqb s.kind 9) idle (
    cond (eqb s.kind 10) (slots s.first) (
    cond (eqb s.kind 11) (saved s.first) (
    cond (eqb s.kind 12) (loaded s.first) (
    cond (eqb s.kind 13) (reported s.first) (
    cond (eqb s.kind 14) (message (Default r.subrates)) (
    cond (eqb s.kind 15) (message (Request r.handle r.subrates)) (
    cond (eqb s.kind 16) (message (Change r.change)) (
    cond (eqb s.kind 17) (wrote s.first) (
    tidied s.first)))))))))))))))))

read_back_lem : (a : Answer) → read_back (in_parts a) ≡ a
unfolding read_back
read_back_lem (refused n) = refl
read_back_lem (ok F A L) = refl
read_back_lem dropped = refl
read_back_lem (kept L) = refl
read_back_lem (grown L) = refl
read_back_lem (shrunk L) = refl
read_back_lem (tight L) = refl
read_back_lem (owner h) = refl
read_back_lem idle = refl
read_back_lem (slots n) = refl
read_back_lem (saved n) = refl
read_back_lem (loaded n) = refl
read_back_lem (reported n) = refl
read_back_lem (message (Default v)) = refl
read_back_lem (message (Request handle v)) = refl
read_back_lem (message (Change e)) = refl
read_back_lem (wrote n) = refl
read_back_lem (tidied n) = refl

-- Of all answers, whatever their values.
pub in_parts_injective : (a b : Answer) → in_parts a ≡ in_parts b → a ≡ b
in_parts_injective a b e = sym (read_back_lem a) ∙ ap read_back e ∙ read_back_lem b

-- Of those that are no message the numbers alone tell.
abbrev pub NoMessage : Answer → Type 0
NoMessage a = (m : Message) → a ≡ message m → ⊥

plain : (a : Answer) → NoMessage a → in_parts a ≡ no_message (in_numbers a)
plain (refused n) f = refl
plain (ok F A L) f = refl
plain dropped f = refl
plain (kept L) f = refl
plain (grown L) f = refl
plain (shrunk L) f = refl
plain (tight L) f = refl
plain (owner h) f = refl
plain idle f = refl
plain (slots n) f = refl
plain (saved n) f = refl
plain (loaded n) f = refl
plain (reported n) f = refl
plain (message m) f = absurd (f m refl)
plain (wrote n) f = refl
plain (tidied n) f = refl

pub in_numbers_injective : (a b : Answer) → NoMessage a → NoMessage b → in_numbers a ≡ in_numbers b → a ≡ b
in_numbers_injective a b p q e = in_parts_injective a b (plain a p ∙ ap no_message e ∙ sym (plain b q))

-- So what C is told without such values says which answer it is.
pub says_injective : (a b : Answer) (r : Said) → NoMessage a → NoMessage b → InNumbers a r → InNumbers b r → a ≡ b
says_injective a b r x y p q = in_numbers_injective a b x y (sym p ∙ q)

-- ---- two results that meet a statement are equal, the list and the buffer too
pub says_unique : (a : Answer) (r t : Said) → InNumbers a r → InNumbers a t → r ≡ t
says_unique a r t p q = p ∙ sym q

pub read_unique : (a : Answer) (r t : Read) → r ≡ in_parts a → t ≡ in_parts a → r ≡ t
read_unique a r t p q = p ∙ sym q

pub leaves_unique : (o : Outcome) (r t : Called) → Leaves o r → Leaves o t → r ≡ t
leaves_unique o r t p q = p.is ∙ sym q.is

pub lists_unique : (o : Listed) (x y : List ℕ) (r t : Called) → Lists o x r → Lists o y t → (r ≡ t) × (x ≡ y)
lists_unique o x y r t p q = (leaves_unique (without_list o) r t p.leaves q.leaves, p.list ∙ sym q.list)

pub writes_unique : (w : Written) (x y : List ℕ) (r t : Said) → Writes w x r → Writes w y t → (r ≡ t) × (x ≡ y)
writes_unique w x y r t p q = (says_unique w.answer r t p.says q.says, p.bytes ∙ sym q.bytes)
