use Rattle.std.proofs.Common.{◌≡◌, ◌+◌, ◌-◌, ◌/◌, ◌^◌, ℕ, arith, ap, ◌∙◌, get_or}
use mathlib.Core.Logic.{by_cases}
use native.Mathlib.Decide.{dec_le}
use Rattle.tidy.proofs.RowLaws.{past_halves}
use Rattle.tidy.proofs.row.widen.Goals as goal

-- `row::widen` meets its contract: the copy is of the lower half.
pub returns : goal.returns
returns c =
    let k = c.args.k in
    let w = c.copy_within.ensures in
    let half : c.factor.result / 2 ≡ 2 ^ k / 2 = ap (λ (f : ℕ). f / 2) c.factor.ensures.is in
    record {
      long = w.len ∙ c.told-room;
      lower = λ A l. w.by_index.1 A 0 (omega (arith, half));
      upper = λ A h l.
          by_cases (dec_le (2 ^ k / 2 + 2 ^ k / 2) A)
          (λ past.
          let none = past_halves k A past l in
          let same : A ≡ A - 2 ^ k / 2 = omega (arith, none) in
          w.by_index.2 A 0 (omega (arith, half)) ∙ ap (λ (i : ℕ). get_or c.args.room.now i 0) same)
          (λ in_half.
          let from : 0 + (A - c.factor.result / 2) ≡ A - 2 ^ k / 2 = omega (arith, half) in
          w.by_index.0 A 0 (omega (arith, half)) (omega (arith, half)) ∙ ap (λ (i : ℕ). get_or c.args.room.now i 0) from);
    }
