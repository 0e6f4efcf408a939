use mathlib.Core.Path.{◌≡◌, sym, ap, ◌∙◌}
use mathlib.Core.Bool.{true, false}
use mathlib.Core.Option.{Option, some}
use Prim.Native.Nat.{ℕ, ◌≤◌, ◌^◌}
use native.Mathlib.Nat.{le_trans}
use lib.Pow.{pow_mono}
use Rattle.rules.specs.Core.{is_interval}
use Rattle.rules.specs.Ownership.{largest_k}
use Rattle.rules.specs.Admit.{interval_outside, k_of, k_in, share_wrong, ceiling_above_half}
use Rattle.place.specs.Steps.{of_interval, of_smallest, of_range, of_share, of_half, of_place, range_step}
use Rattle.run.specs.Promises.{Factor}
use Rattle.blocks.proofs.ClassLaws.{within_depth}
use Rattle.calls.proofs.RangeLaws.{k_small}
use Rattle.calls.proofs.AdmitLaws.{share_bounds}
use Rattle.place.proofs.StepLaws.{interval_told, interval_refused, smallest_told, smallest_refused, range_told, range_missed, share_told, wrong_told, half_told, above_told, place_told, nowhere_told, plan_2, plan_4, plan_15, plan_5, plan_20, plan_6, plan_ok}
use Rattle.place.proofs.plan.Goals as goal
use Rattle.place.proofs.plan.Goals.{In-Passes-share_of, In-Some, In-Passes-range_of, In-Passes, In-Passes-half_of}

-- `place::plan` meets its contract: each exit is one check of the plan.
-- ---- what has been told on the way
-- the factor is that of the k that was given
factor_of : {k d F : ℕ} → Factor d F → d ≡ k → F ≡ 2 ^ k
factor_of h e = h.is ∙ ap (λ (n : ℕ). 2 ^ n) e

-- the k is that of the largest
k_told : (c : In-Some) → (is_interval c.args.largest ≡ true) × (c.in-Some.k ≡ k_of c.args.largest)
k_told c = interval_told _ _ (ap of_interval (sym c.in-Some.is) ∙ c.k_of.ensures)

k_below : (c : In-Some) → c.in-Some.k ≤ largest_k
k_below c = rw (k_told c).1 (k_small c.args.largest)

-- the bounds are a range
in_order : (c : In-Passes) → interval_outside c.args.smallest c.args.largest ≡ false
in_order c = smallest_told _ _ (interval_told _ _ (ap of_interval (sym c.in-Some.is) ∙ c.k_of.ensures)).0 (ap of_smallest (sym c.in-Passes.is) ∙ c.smallest_of.ensures)

-- the range gives its k
given : (c : In-Passes-range_of) → k_in c.args.smallest c.args.largest ≡ some c.in-Some.k
given c =
    let k : (is_interval c.args.largest ≡ true) × (c.in-Some.k ≡ k_of c.args.largest) = interval_told _ _ (ap of_interval (sym c.in-Some.is) ∙ c.k_of.ensures) in
    let e = factor_of c.factor-f.ensures (c.from-depth.ensures ∙ k.1) in
    range_told _ _ k.0 (ap of_range (sym c.in-Passes-range_of.is) ∙ c.range_of.ensures ∙ ap (range_step _) e) ∙ ap {B = Option ℕ} some (sym k.1)

-- the share fits its factor
share_is : (c : In-Passes-share_of) → share_wrong c.args.floor c.args.ceiling (2 ^ c.in-Some.k) ≡ false
share_is c =
    let a = c.args in
    rw (factor_of c.factor-f.ensures c.from-depth.ensures) at (share_told a.floor a.ceiling _ (ap of_share (sym c.in-Passes-share_of.is) ∙ c.share_of.ensures))

-- the ceiling is within half of it
half_is : (c : In-Passes-half_of) → ceiling_above_half c.args.ceiling (2 ^ c.in-Some.k) ≡ false
half_is c =
    rw (factor_of c.factor-f.ensures c.from-depth.ensures) at (half_told c.args.ceiling _ (ap of_half (sym c.in-Passes-half_of.is) ∙ c.half_of.ensures))

-- ---- the exits
pub returns-then-live : goal.returns-then-live
returns-then-live c f e = plan_2 f _ _ _ _ _ c.if-live.true

pub returns-in_default : goal.returns-in_default
returns-in_default c f e =
    plan_4 f _ _ _ _ _ c.if-live.false (interval_refused _ _ (ap of_interval (sym c.in_default.is) ∙ c.k_of.ensures))

pub returns-in_default-smallest_of : goal.returns-in_default-smallest_of
returns-in_default-smallest_of c f e =
    plan_4 f _ _ _ _ _ c.if-live.false (smallest_refused _ _ (ap of_smallest (sym c.in_default-smallest_of.is) ∙ c.smallest_of.ensures))

pub factor-f-requires : goal.factor-f-requires
factor-f-requires c = rw c.from-depth.ensures (within_depth (k_below (goal.at.factor-f-requires c).In-Some))

pub range_of-requires : goal.range_of-requires
range_of-requires c = rw (factor_of c.factor-f.ensures c.from-depth.ensures) (pow_mono (k_below (goal.at.range_of-requires c).In-Some))

pub returns-in_default-range_of : goal.returns-in_default-range_of
returns-in_default-range_of c f e =
    let w = goal.at.returns-in_default-range_of c in
    let k = k_told w.In-Some in
    plan_15 f _ _ _ _ _ c.if-live.false (in_order w.In-Passes)
    (range_missed _ _ k.0 (ap of_range (sym c.in_default-range_of.is) ∙ c.range_of.ensures ∙ ap (range_step _) (factor_of c.factor-f.ensures (c.from-depth.ensures ∙ k.1))))

pub returns-in_default-share_of : goal.returns-in_default-share_of
returns-in_default-share_of c f e =
    let a = c.args in
    let w = goal.at.returns-in_default-share_of c in
    plan_5 f _ _ _ _ _ c.if-live.false (in_order w.In-Passes) _ (given w.In-Passes-range_of)
    (rw (factor_of c.factor-f.ensures c.from-depth.ensures) at (wrong_told a.floor a.ceiling _ (ap of_share (sym c.in_default-share_of.is) ∙ c.share_of.ensures)))

pub returns-in_default-half_of : goal.returns-in_default-half_of
returns-in_default-half_of c f e =
    let w = goal.at.returns-in_default-half_of c in
    plan_20 f _ _ _ _ _ c.if-live.false (in_order w.In-Passes) _ (given w.In-Passes-range_of) (share_is w.In-Passes-share_of)
    (rw (factor_of c.factor-f.ensures c.from-depth.ensures) at (above_told c.args.ceiling _ (ap of_half (sym c.in_default-half_of.is) ∙ c.half_of.ensures)))

pub first_open-requires : goal.first_open-requires
first_open-requires c =
    let w = goal.at.first_open-requires c in
    let b = share_bounds c.args.floor c.args.ceiling (2 ^ c.in-Some.k) (share_is w.In-Passes-share_of) in
    rw c.from-depth.ensures (k_below w.In-Some, b.0, le_trans b.1 b.2, c.requires)

pub returns-in_default-first_open : goal.returns-in_default-first_open
returns-in_default-first_open c f e =
    let w = goal.at.returns-in_default-first_open c in
    plan_6 f _ _ _ _ _ c.if-live.false (in_order w.In-Passes) _ (given w.In-Passes-range_of) (share_is w.In-Passes-share_of) (half_is w.In-Passes-half_of)
    (nowhere_told f _ _ (rw c.from-depth.ensures at (ap of_place (sym c.in_default-first_open.is) ∙ c.first_open.ensures f e)))

pub returns : goal.returns
returns c f e =
    let w = goal.at.returns c in
    let p = place_told f _ _ _ (rw c.from-depth.ensures at (ap of_place (sym c.in-Some-first_open.is) ∙ c.first_open.ensures f e)) in
    plan_ok f _ _ _ _ _ c.if-live.false (in_order w.In-Passes) _ (given w.In-Passes-range_of) (share_is w.In-Passes-share_of) (half_is w.In-Passes-half_of) p.0 _ p.1 p.2
