-- The laws of the promise.
use mathlib.Core.Path.{◌≡◌, refl, ap, ◌∙◌}
use mathlib.Core.Bool.{Bool, true, false}
use mathlib.Core.Logic.{◌⊎◌, inl, inr}
use mathlib.Core.List.{List}
use Prim.Native.Nat.{ℕ, suc, ◌<◌, ◌≤◌}
use native.Mathlib.Omega.{arith}
use lib.ListN.{length, take}
use lib.Seq.{take-length}
use Rattle.std.specs.Prelude.{Result, Ok, Err}
use Rattle.rules.specs.declared.Refusal.{Refusal}
use Rattle.rules.specs.declared.Refusal.TheVariants.{NumbersUnsound, FactorIllegal}
use Rattle.rules.specs.declared.Schedule.{Schedule}
use Rattle.calls.proofs.AnswerLaws.{number_injective}
use Rattle.rules.specs.Ownership.{largest_k}
use Rattle.rules.specs.Sound.{apart}
use Rattle.rules.specs.Good.{fresh, with_connections}
use Rattle.rules.specs.Refusals.{number}
use Rattle.rules.specs.Steps.{Step, gives, places, passes, refuses}
use Rattle.rules.specs.Records.{Piece, begin, pieces_of}
use Rattle.rules.specs.Load.{largest_record_k, records_within, any_illegal, at_handles}
use Rattle.basics.proofs.BelowLaws.{largest_unique}
use Rattle.images.proofs.LegalLaws.{legal_of}
use Rattle.images.proofs.RestoreLaws.{clash_first}
use Rattle.restore.specs.LoadSteps.{of_soundness, checked, records_step}
use Rattle.restore.specs.Promises.{records, most_apart, Restores}

module _ (rs : List Piece) where
  most_is : (i : ℕ) → i ≤ length rs → apart (at_handles (take i rs)) ≡ true → ((j : ℕ) → i < j → j ≤ length rs → apart (at_handles (take j rs)) ≡ false) → most_apart rs ≡ i
  most_is i l a last = largest_unique (length rs) (λ i. apart (at_handles (take i rs))) i l a last

  -- All are apart;
  pub most_all : apart (at_handles rs) ≡ true → most_apart rs ≡ length rs
  most_all a = most_is (length rs) (omega arith) (ap (λ (xs : List Piece). apart (at_handles xs)) (take-length rs) ∙ a) (λ j l m. absurd (omega arith))

  -- or the one after the first i clashes with one of them, and then more clash too.
  pub most_clash : (i : ℕ) → i < length rs → records_within largest_k rs ≡ true → apart (at_handles (take i rs)) ≡ true → apart (at_handles (take (suc i) rs)) ≡ false → most_apart rs ≡ i
  most_clash i l e a c = most_is i (omega arith) a (λ j h m. clash_first rs e j (suc i) (omega arith) m c)

-- Where all are apart, all are restored.
pub restores_apart : (bytes : List ℕ) (new : Schedule) (end : ℕ) → Restores bytes new (Ok end)
    → (new ≡ with_connections fresh (at_handles (records bytes))) × (end ≡ begin (pieces_of bytes) (suc (length (records bytes))))
restores_apart bytes new end p =
    let rs = records bytes in
    let e : most_apart rs ≡ length rs = most_all rs p.says.0 in
    (p.is ∙ ap (λ (k : ℕ). with_connections fresh (at_handles (take k rs))) e ∙ ap (λ (xs : List Piece). with_connections fresh (at_handles xs)) (take-length rs), p.says.1 ∙ ap (λ (k : ℕ). begin (pieces_of bytes) (suc k)) e)

-- ---- what each case of the check of the records tells
step_passes : (v d : Bool) → passes ≡ checked v d → (v ≡ true) × (d ≡ false)
unfolding checked
step_passes true true e = let z : ◌≡◌ {A = ℕ} 0 1 = cc in absurd (omega arith)
step_passes true false e = (refl, refl)
step_passes false d e = let z : ◌≡◌ {A = ℕ} 0 1 = cc in absurd (omega arith)

step_illegal : (v d : Bool) → refuses (number FactorIllegal) ≡ checked v d → (v ≡ true) × (d ≡ true)
unfolding checked
step_illegal true true e = (refl, refl)
step_illegal true false e = let z : ◌≡◌ {A = ℕ} 0 1 = cc in absurd (omega arith)
step_illegal false d e = let z : ◌≡◌ {A = ℕ} 18 10 = cc in absurd (omega arith)

step_unsound : (v d : Bool) → refuses (number NumbersUnsound) ≡ checked v d → v ≡ false
unfolding checked
step_unsound true true e = let z : ◌≡◌ {A = ℕ} 10 18 = cc in absurd (omega arith)
step_unsound true false e = let z : ◌≡◌ {A = ℕ} 0 1 = cc in absurd (omega arith)
step_unsound false d e = refl

module _ (rs : List Piece) where
  pub checked_sound : passes ≡ records_step rs → records_within largest_k rs ≡ true
  unfolding records_step
  checked_sound e =
      let w = step_passes (records_within largest_record_k rs) (any_illegal rs) e in
      legal_of rs w.0 w.1

  pub checked_illegal : refuses (number FactorIllegal) ≡ records_step rs → (records_within largest_record_k rs ≡ true) × (any_illegal rs ≡ true)
  unfolding records_step
  checked_illegal e = step_illegal (records_within largest_record_k rs) (any_illegal rs) e

  pub checked_unsound : refuses (number NumbersUnsound) ≡ records_step rs → records_within largest_record_k rs ≡ false
  unfolding records_step
  checked_unsound e = step_unsound (records_within largest_record_k rs) (any_illegal rs) e

-- The number of a refusal.
refused_number : Step → ℕ
refused_number (gives n) = 0
refused_number (places k A) = 0
refused_number passes = 0
refused_number (refuses n) = n

-- It refuses by no other number than these two.
step_refuses : (m : ℕ) (v d : Bool) → refuses m ≡ checked v d → ((m ≡ number NumbersUnsound) × (v ≡ false)) ⊎ ((m ≡ number FactorIllegal) × (v ≡ true) × (d ≡ true))
unfolding checked refused_number
step_refuses m true true e = inr (ap refused_number e, refl, refl)
step_refuses m true false e = let z : ◌≡◌ {A = ℕ} 0 1 = cc in absurd (omega arith)
step_refuses m false d e = inl (ap refused_number e, refl)

pub checked_refuses : (rs : List Piece) (m : ℕ) → refuses m ≡ records_step rs
    → ((m ≡ number NumbersUnsound) × (records_within largest_record_k rs ≡ false)) ⊎ ((m ≡ number FactorIllegal) × (records_within largest_record_k rs ≡ true) × (any_illegal rs ≡ true))
unfolding records_step
checked_refuses rs m e = step_refuses m (records_within largest_record_k rs) (any_illegal rs) e

-- No two answers have one number.
pub checked_unique : (x y : Result (Unit {0}) Refusal) → of_soundness x ≡ of_soundness y → x ≡ y
unfolding refused_number
checked_unique (Ok u) (Ok v) e = refl
checked_unique (Ok u) (Err r) e = let z : ◌≡◌ {A = ℕ} 0 1 = cc in absurd (omega arith)
checked_unique (Err q) (Ok v) e = let z : ◌≡◌ {A = ℕ} 0 1 = cc in absurd (omega arith)
checked_unique (Err q) (Err r) e = ap Err (number_injective q r (ap refused_number e))
