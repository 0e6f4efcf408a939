-- Each case of an enum has an answer of its own: what is answered says which case it was.
use Rattle.std.specs.Prelude.{Option, Some, None, Result, Ok, Err}
use mathlib.Core.Path.{◌≡◌, refl, sym, ap, ap₂, ◌∙◌}
use mathlib.Core.Bool.{cond}
use Prim.Native.Nat.{ℕ, ◌<◌}
use mathlib.Core.List.{List, [], ◌∷◌}
use native.Mathlib.Omega.{arith}
use lib.Dec.{eqb, lit<}
use lib.ListN.{get_or}
use Rattle.rules.specs.declared.Refusal.{Refusal}
use Rattle.rules.specs.declared.Refusal.TheVariants.{HandleAbove63, HandleLive, HandleNotLive, IntervalOutside, ShareWrong, NoOpenAnchor, SampleAboveRun, BufferShort, RecordsWrong, NumbersUnsound, BlockOwnedTwice, TreeDiffers, ReportsMany, ListShort, NoInterval, MessageWrong, ValuesForbidden, FactorIllegal, NoAnchorForAll, CeilingAboveHalf}
use Rattle.rules.specs.declared.Placed.{Placed}
use Rattle.rules.specs.declared.Adjusted.{Adjusted}
use Rattle.rules.specs.declared.Adjusted.TheVariants.{Kept, Grown, Shrunk, Tight}
use Rattle.rules.specs.declared.Message.{Message}
use Rattle.rules.specs.declared.Schedule.{Schedule}
use Rattle.rules.specs.declared.Done.{Done}
use Rattle.rules.specs.Refusals.{number}
use Rattle.rules.specs.Messages.{values_of}
use Rattle.rules.specs.Answers.{Answer, Outcome, Listed, without_list, refused, ok, dropped, kept, grown, shrunk, tight, owner, idle, slots, saved, loaded, reported, message, wrote, tidied, answered, placed, adjusted, of_admission, of_dropping, of_reporting, of_ownership, of_reading, outcome, listed}
use Rattle.calls.proofs.RefusalLaws.{refused_same}

-- A function that can be undone takes no two values to one.
undone : {A B : Type 0} (f : A → B) (g : B → A) → ((a : A) → g (f a) ≡ a) → {a b : A} → f a ≡ f b → a ≡ b
undone f g back {a} {b} e = sym (back a) ∙ ap g e ∙ back b

-- ---- the refusals: a number for each case
-- The refusal with a number, by going through the others.
refusal_of : ℕ → Refusal
refusal_of n =
    let or : Refusal → Refusal → Refusal = λ r later. cond (eqb n (number r)) r later in
    or HandleAbove63 (or HandleLive (or HandleNotLive
    (or IntervalOutside (or ShareWrong (or NoOpenAnchor
    (or SampleAboveRun (or BufferShort (or RecordsWrong
    (or NumbersUnsound (or BlockOwnedTwice (or TreeDiffers
    (or ReportsMany (or ListShort (or NoInterval
    (or MessageWrong (or ValuesForbidden (or FactorIllegal
    (or NoAnchorForAll CeilingAboveHalf))))))))))))))))))

refusal_back : (r : Refusal) → refusal_of (number r) ≡ r
unfolding refusal_of
refusal_back HandleAbove63 = refl
refusal_back HandleLive = refl
refusal_back HandleNotLive = refl
refusal_back IntervalOutside = refl
refusal_back ShareWrong = refl
refusal_back NoOpenAnchor = refl
refusal_back SampleAboveRun = refl
refusal_back BufferShort = refl
refusal_back RecordsWrong = refl
refusal_back NumbersUnsound = refl
refusal_back BlockOwnedTwice = refl
refusal_back TreeDiffers = refl
refusal_back ReportsMany = refl
refusal_back ListShort = refl
refusal_back NoInterval = refl
refusal_back MessageWrong = refl
refusal_back ValuesForbidden = refl
refusal_back FactorIllegal = refl
refusal_back NoAnchorForAll = refl
refusal_back CeilingAboveHalf = refl

pub number_injective : (a b : Refusal) → number a ≡ number b → a ≡ b
number_injective a b e = undone number refusal_of refusal_back e

-- None is large.
pub number_small : (r : Refusal) → number r < 65536
number_small HandleAbove63 = lit< tt
number_small HandleLive = lit< tt
number_small HandleNotLive = lit< tt
number_small IntervalOutside = lit< tt
number_small ShareWrong = lit< tt
number_small NoOpenAnchor = lit< tt
number_small SampleAboveRun = lit< tt
number_small BufferShort = lit< tt
number_small RecordsWrong = lit< tt
number_small NumbersUnsound = lit< tt
number_small BlockOwnedTwice = lit< tt
number_small TreeDiffers = lit< tt
number_small ReportsMany = lit< tt
number_small ListShort = lit< tt
number_small NoInterval = lit< tt
number_small MessageWrong = lit< tt
number_small ValuesForbidden = lit< tt
number_small FactorIllegal = lit< tt
number_small NoAnchorForAll = lit< tt
number_small CeilingAboveHalf = lit< tt

-- ---- the answers: a number for each of the sheet's words, and the values beside it
pub word : Answer → ℕ
word (refused n) = 0
word (ok F A L) = 1
word dropped = 2
word (kept L) = 3
word (grown L) = 4
word (shrunk L) = 5
word (tight L) = 6
word (owner h) = 7
word idle = 8
word (slots n) = 9
word (saved n) = 10
word (loaded n) = 11
word (reported n) = 12
word (message m) = 13
word (wrote n) = 14
word (tidied n) = 15

unfoldable pub values : Answer → List ℕ
values (refused n) = n ∷ []
values (ok F A L) = F ∷ A ∷ L ∷ []
values dropped = []
values (kept L) = L ∷ []
values (grown L) = L ∷ []
values (shrunk L) = L ∷ []
values (tight L) = L ∷ []
values (owner h) = h ∷ []
values idle = []
values (slots n) = n ∷ []
values (saved n) = n ∷ []
values (loaded n) = n ∷ []
values (reported n) = n ∷ []
values (message m) = values_of m
values (wrote n) = n ∷ []
values (tidied n) = n ∷ []

value : Answer → ℕ → ℕ
unfolding values
value a i = get_or (values a) i 0

-- ---- so what a call's statement determines, it determines whole
-- What a value says is no refusal, and no two values say the same.
pub record Tells {V : Type 0} (says : V → Answer) : Type 0 where
  pub accepts : (v : V) → 0 < word (says v)
  pub one : (v w : V) → says v ≡ says w → v ≡ w

pub answered_injective : {V : Type 0} (says : V → Answer) → Tells says → (a b : Result V Refusal) → answered says a ≡ answered says b → a ≡ b
unfolding word
answered_injective says t (Ok v) (Ok w) e = ap Ok (t.one v w e)
answered_injective says t (Ok v) (Err r) e = absurd (omega (arith, t.accepts v, ap word e))
answered_injective says t (Err r) (Ok v) e = absurd (omega (arith, t.accepts v, ap word e))
answered_injective says t (Err r) (Err q) e = ap Err (number_injective r q (refused_same e))

-- With the schedule, and with the list that a call filled.
pub done_injective : {A : Type 0} (says : A → Answer) → ((x y : A) → says x ≡ says y → x ≡ y)
    → (a b : Done A) → outcome says a ≡ outcome says b → a ≡ b
done_injective {A = A} says one a b e =
    ap₂ (λ (x : A) (t : Schedule). record { answer = x; schedule = t })
    (one a.answer b.answer (ap (λ (o : Outcome). o.answer) e)) (ap (λ (o : Outcome). o.schedule) e)

pub listed_injective : {A : Type 0} (says : A → Answer) → ((x y : A) → says x ≡ says y → x ≡ y)
    → (a b : Done A) (x y : List ℕ) → listed says a x ≡ listed says b y → (a ≡ b) × (x ≡ y)
listed_injective says one a b x y e = (
  done_injective says one a b (ap without_list e),
  ap (λ (o : Listed). o.list) e,
)

-- ---- of each answer
placed_tells : Tells placed
unfolding word value values
placed_tells = record {
  accepts = λ p. lit< tt;
  one = λ p q e i. record {
    factor = value (e i) 0;
    anchor = value (e i) 1;
    length = value (e i) 2;
  };
}

done_tells : Tells {V = Unit} (λ u. dropped)
unfolding word
done_tells = record { accepts = λ u. lit< tt; one = λ u v e. refl }

adjusted_accepts : (v : Adjusted) → 0 < word (adjusted v)
unfolding word
adjusted_accepts (Kept L) = lit< tt
adjusted_accepts (Grown L) = lit< tt
adjusted_accepts (Shrunk L) = lit< tt
adjusted_accepts (Tight L) = lit< tt

adjusted_of : Answer → Adjusted
unfolding word value
adjusted_of a =
    let L = value a 0 in
    cond (eqb (word a) 3) (Kept L)
    (cond (eqb (word a) 4) (Grown L) (cond (eqb (word a) 5) (Shrunk L) (Tight L)))

adjusted_back : (v : Adjusted) → adjusted_of (adjusted v) ≡ v
unfolding adjusted_of
adjusted_back (Kept L) = refl
adjusted_back (Grown L) = refl
adjusted_back (Shrunk L) = refl
adjusted_back (Tight L) = refl

pub adjusted_injective : (a b : Adjusted) → adjusted a ≡ adjusted b → a ≡ b
adjusted_injective a b e = undone adjusted adjusted_of adjusted_back e

adjusted_tells : Tells adjusted
adjusted_tells = record { accepts = adjusted_accepts; one = adjusted_injective }

-- A message is its own value.
message_tells : Tells message
unfolding word
message_tells = record { accepts = λ m. lit< tt; one = λ m n e. same e }
  where
    same : {x y : Message} → message x ≡ message y → x ≡ y
    same q = cc

-- What one number says: a count, a size, a distance.
module _ (says : ℕ → Answer) (accepts : (n : ℕ) → 0 < word (says n)) (back : (n : ℕ) → value (says n) 0 ≡ n) where
  number_tells : Tells says
  number_tells = record {
    accepts = accepts;
    one = λ m n e. undone says (λ a. value a 0) back e;
  }

slots_tells : Tells slots
unfolding word value values
slots_tells = number_tells slots (λ n. lit< tt) (λ n. refl)

saved_tells : Tells saved
unfolding word value values
saved_tells = number_tells saved (λ n. lit< tt) (λ n. refl)

loaded_tells : Tells loaded
unfolding word value values
loaded_tells = number_tells loaded (λ n. lit< tt) (λ n. refl)

reported_tells : Tells reported
unfolding word value values
reported_tells = number_tells reported (λ n. lit< tt) (λ n. refl)

wrote_tells : Tells wrote
unfolding word value values
wrote_tells = number_tells wrote (λ n. lit< tt) (λ n. refl)

tidied_tells : Tells tidied
unfolding word value values
tidied_tells = number_tells tidied (λ n. lit< tt) (λ n. refl)

owner_in : Answer → Option ℕ
unfolding word value values
owner_in a = cond (eqb (word a) 7) (Some (value a 0)) None

owner_back : (a : Option ℕ) → owner_in (of_ownership a) ≡ a
unfolding owner_in
owner_back (Some h) = refl
owner_back None = refl

pub ownership_injective : (a b : Option ℕ) → of_ownership a ≡ of_ownership b → a ≡ b
ownership_injective a b e = undone of_ownership owner_in owner_back e

pub admission_injective : (a b : Result Placed Refusal) → of_admission a ≡ of_admission b → a ≡ b
admission_injective = answered_injective placed placed_tells

pub dropping_injective : (a b : Result Unit Refusal) → of_dropping a ≡ of_dropping b → a ≡ b
dropping_injective = answered_injective (λ _. dropped) done_tells

pub reporting_injective : (a b : Result Adjusted Refusal) → of_reporting a ≡ of_reporting b → a ≡ b
reporting_injective = answered_injective adjusted adjusted_tells

pub reporting_all_injective : (a b : Result ℕ Refusal) → answered reported a ≡ answered reported b → a ≡ b
reporting_all_injective = answered_injective reported reported_tells

pub distance_injective : (a b : Result ℕ Refusal) → answered slots a ≡ answered slots b → a ≡ b
distance_injective = answered_injective slots slots_tells

pub saving_injective : (a b : Result ℕ Refusal) → answered saved a ≡ answered saved b → a ≡ b
saving_injective = answered_injective saved saved_tells

pub loading_injective : (a b : Result ℕ Refusal) → answered loaded a ≡ answered loaded b → a ≡ b
loading_injective = answered_injective loaded loaded_tells

pub reading_injective : (a b : Result Message Refusal) → of_reading a ≡ of_reading b → a ≡ b
reading_injective = answered_injective message message_tells

pub writing_injective : (a b : Result ℕ Refusal) → answered wrote a ≡ answered wrote b → a ≡ b
writing_injective = answered_injective wrote wrote_tells

pub tidying_injective : (a b : Result ℕ Refusal) → answered tidied a ≡ answered tidied b → a ≡ b
tidying_injective = answered_injective tidied tidied_tells

pub tidied_injective : (a b : Done (Result ℕ Refusal)) (x y : List ℕ)
    → listed (answered tidied) a x ≡ listed (answered tidied) b y → (a ≡ b) × (x ≡ y)
tidied_injective = listed_injective (answered tidied) tidying_injective
