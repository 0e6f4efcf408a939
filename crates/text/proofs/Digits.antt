-- A number, read digit by digit.
use mathlib.Core.Path.{◌≡◌, sym, ap, ◌∙◌}
use mathlib.Core.List.{List}
use mathlib.Core.Logic.{◌≢◌, ⊎_elim}
use Prim.Native.Nat.{ℕ, ◌+◌, ◌-◌, ◌*◌, ◌^◌, ◌<◌, ◌≤◌}
use native.Mathlib.Omega.{arith}
use native.Mathlib.Nat.{eq-or-lt_of_le}
use native.Mathlib.Numerals.{add-one}
use lib.ListN.{length, get_or, take}
use lib.Seq.{take-suc, take_all}
use Rattle.rules.specs.Decimal.{value}
use Rattle.texts.specs.Row.{number_in}
use Rattle.texts.proofs.DecimalLaws.{Digit, value_snoc, number_right}
use Rattle.std.specs.Prelude.{Some}

-- The first i bytes are digits.
abbrev pub DigitsTo : List ℕ → ℕ → Type 0
DigitsTo ds i = (j : ℕ) → j < i → Digit (get_or ds j 0)

module _ (ds : List ℕ) (i sum : ℕ) where
  -- One more digit.
  pub value_turn : i < length ds → sum ≡ value (take i ds) → sum * 10 + (get_or ds i 0 - 48) ≡ value (take (i + 1) ds)
  value_turn h e = rw (add-one i, take-suc ds i 0 h, value_snoc (take i ds) (get_or ds i 0), ← e)

  pub digits_turn : DigitsTo ds i → Digit (get_or ds i 0) → DigitsTo ds (i + 1)
  digits_turn each here j h =
      let le : j ≤ i = omega arith in
      ⊎_elim (λ e. rw e here) (λ l. each j l) (eq-or-lt_of_le le)

-- All bytes are read.
pub value_all : (ds : List ℕ) (i sum : ℕ) → i ≡ length ds → 0 < i → (1 < i → get_or ds 0 0 ≢ 48) → DigitsTo ds i → sum ≡ value (take i ds) → sum < 2 ^ 32
    → Some sum ≡ number_in ds
value_all ds i sum e some_digit leading each v small =
    let all : take i ds ≡ ds = take_all i ds (omega arith) in
    let w : sum ≡ value ds = v ∙ ap value all in
    ap (λ (n : ℕ). Some n) w ∙ sym (number_right ds
    (record { some_digit = omega arith; each = λ j h. each j (omega arith); leading = λ h. leading (omega arith) })
    (omega (arith, w)))
