-- The steps of an admission that answer an enum, and what each answers.
use Rattle.std.specs.Prelude.{ℕ, ◌*◌, Bool, cond, ◌||◌, not, ltb, Option, Some, None, Result, Ok, Err}
use Rattle.std.proofs.Math.Option.{Option as Found, none, some, get_or}
use Rattle.rules.specs.declared.Refusal.TheVariants.{IntervalOutside, NoInterval, ShareWrong, CeilingAboveHalf, NoOpenAnchor}
use Rattle.rules.specs.declared.Refusal.{Refusal}
use Rattle.rules.specs.declared.Verdict.{Verdict}
use Rattle.rules.specs.declared.Verdict.TheVariants.{Passes, Refuses}
use Rattle.rules.specs.declared.Plan.{Plan}
use Rattle.rules.specs.Time.{block_slots}
use Rattle.rules.specs.Core.{least_interval, is_interval, is_range}
use Rattle.rules.specs.Mirror.{mirrored}
use Rattle.rules.specs.Admit.{k_of, k_in, k_for, share_wrong, ceiling_above_half, first_open, place_checks}
use Rattle.rules.specs.Refusals.{number, decided}
use Rattle.rules.specs.Steps.{Step, gives, places, passes, refuses}

-- ---- the sheet's number and values for every case
abbrev pub of_interval : Option ℕ → Step
of_interval (Some k) = gives k
of_interval None = refuses (number IntervalOutside)

-- A step with no value to give passes, or refuses with this number.
abbrev pub of_verdict : ℕ → Verdict → Step
of_verdict n Passes = passes
of_verdict n Refuses = refuses n

abbrev pub of_smallest : Verdict → Step
of_smallest = of_verdict (number IntervalOutside)

abbrev pub of_range : Verdict → Step
of_range = of_verdict (number NoInterval)

abbrev pub of_share : Verdict → Step
of_share = of_verdict (number ShareWrong)

abbrev pub of_half : Verdict → Step
of_half = of_verdict (number CeilingAboveHalf)

abbrev pub of_place : Option ℕ → Step
of_place (Some A) = gives A
of_place None = refuses (number NoOpenAnchor)

abbrev pub of_plan : Result Plan Refusal → Step
of_plan (Ok p) = places p.k p.anchor
of_plan (Err r) = refuses (number r)

-- ---- what each step answers
-- By the largest bound alone: its own k.
unfoldable pub interval_step : ℕ → Step
unfolding is_interval k_of
interval_step largest = cond (not (is_interval largest)) (refuses (number IntervalOutside)) (gives (k_of largest))

-- The smallest, once the largest is an interval.
unfoldable pub smallest_step : ℕ → ℕ → Step
smallest_step smallest largest = cond (ltb smallest least_interval || ltb largest smallest) (refuses (number IntervalOutside)) passes

-- The interval of F, held against the smallest.
unfoldable pub range_step : ℕ → ℕ → Step
range_step smallest F = cond (ltb (block_slots * F) smallest) (refuses (number NoInterval)) passes

unfoldable pub share_step : ℕ → ℕ → ℕ → Step
share_step floor ceiling F = cond (share_wrong floor ceiling F) (refuses (number ShareWrong)) passes

unfoldable pub half_step : ℕ → ℕ → Step
half_step ceiling F = cond (ceiling_above_half ceiling F) (refuses (number CeilingAboveHalf)) passes

abbrev pub place_at : ℕ → Found ℕ → Step
place_at k none = refuses (number NoOpenAnchor)
place_at k (some p) = gives (mirrored k p)

unfoldable pub place_step : (ℕ → Bool) → ℕ → ℕ → Step
unfolding first_open
place_step taken k floor = place_at k (first_open taken k floor)

-- Where an admission goes once its handle is in range, checks 2, 4, 15, 5, 20, 6: the k of its factor and its anchor.
unfoldable pub plan_step : Bool → (ℕ → Bool) → ℕ → ℕ → ℕ → ℕ → Step
unfolding is_range k_in first_open decided
plan_step live taken smallest largest floor ceiling =
    let k = k_for smallest largest in
    let found = first_open taken k floor in
    decided (place_checks live taken smallest largest floor ceiling) refuses (places k (mirrored k (get_or found 0)))
