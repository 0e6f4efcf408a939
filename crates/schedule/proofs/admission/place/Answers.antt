use mathlib.Core.Path.{◌≡◌, sym, ap, ◌∙◌}
use Prim.Native.Nat.{◌≤◌, ◌^◌}
use native.Mathlib.Nat.{le_trans}
use native.Mathlib.Omega.{arith}
use lib.Pow.{pow_mono}
use Rattle.std.proofs.lemmas.Result.{err_from_is_err_and}
use Rattle.rules.specs.Ownership.{taken}
use Rattle.rules.specs.Handles.{is_live}
use Rattle.rules.specs.Steps.{places}
use Rattle.place.specs.Steps.{of_plan, plan_step}
use Rattle.place.proofs.PlanLaws.{Planned, planned, planned_free, admit_1}
use Rattle.schedule.proofs.Exits.{treed, admits, plan_says, admit_refused, admit_made}
use Rattle.blocks.proofs.ClassLaws.{within_depth}
use Rattle.schedule.proofs.admission.place.Goals as goal
use Rattle.schedule.proofs.admission.place.Goals.{In_ok-to}

-- `schedule::admission::place` meets its contract: the plan is carried out.
-- where the plan goes, and the bounds that it tells
placed : (c : In_ok-to) → plan_step (is_live c.args.s.now c.args.handle) (taken c.args.s.now.connections) c.args.smallest c.args.largest c.args.floor c.args.ceiling ≡ places c.in_ok-to.to.k c.in_ok-to.to.anchor
placed c = plan_says c.args.s.now c.requires _ _ _ _ _ c.plan.result c.plan.ensures ∙ ap of_plan c.in_ok-to.was

bounds : (c : In_ok-to) → Planned c.in_ok-to.to.k c.in_ok-to.to.anchor c.args.floor c.args.ceiling
bounds c = planned _ _ _ _ _ _ _ _ (placed c)

small : (c : In_ok-to) → 2 ^ c.in_ok-to.to.k ≤ 512
small c = pow_mono (within_depth (bounds c).deep)

pub returns-then-handle-gt-LAST_HANDLE : goal.returns-then-handle-gt-LAST_HANDLE
returns-then-handle-gt-LAST_HANDLE c =
    admits c.args.s.now c.requires _ _ _ _ _ _ (sym (admit_1 c.args.s.now _ _ _ _ _ c.if-handle-gt-LAST_HANDLE.true))

pub plan-requires : goal.plan-requires
plan-requires c = treed c.args.s.now c.requires

pub returns-in_err-to : goal.returns-in_err-to
returns-in_err-to c =
    let p = err_from_is_err_and c.from_residual.result c.from_residual.ensures.1 in
    rw (p.1, p.2)
    (admits c.args.s.now c.requires _ _ _ _ _ _
    (admit_refused c.args.s.now c.requires _ _ _ _ _ c.if-handle-gt-LAST_HANDLE.false _
    (plan_says c.args.s.now c.requires _ _ _ _ _ c.plan.result c.plan.ensures ∙ ap of_plan c.in_err-to.was)))

pub set_run-requires : goal.set_run-requires
set_run-requires c =
    let b = bounds (goal.at.set_run-requires c).In_ok-to in
    rw (c.from-k.ensures, c.from-anchor.ensures)
    (within_depth b.deep, b.anchored, omega arith, le_trans b.floored b.whole, treed c.args.s.now c.requires)

pub overflow_cast-floor : goal.overflow_cast-floor
overflow_cast-floor c = omega (arith, bounds (goal.at.overflow_cast-floor c).In_ok-to, small (goal.at.overflow_cast-floor c).In_ok-to)

pub overflow_cast-ceiling : goal.overflow_cast-ceiling
overflow_cast-ceiling c = omega (arith, bounds (goal.at.overflow_cast-ceiling c).In_ok-to, small (goal.at.overflow_cast-ceiling c).In_ok-to)

pub new_connection-requires : goal.new_connection-requires
new_connection-requires c = omega (arith, bounds (goal.at.new_connection-requires c).In_ok-to, small (goal.at.new_connection-requires c).In_ok-to)

pub factor-requires : goal.factor-requires
factor-requires c =
    rw c.from-k.ensures (within_depth (bounds (goal.at.factor-requires c).In_ok-to).deep)

pub returns : goal.returns
returns c =
    let f = rw c.from-k.ensures at c.factor.ensures.is in
    let made = rw c.from-anchor.ensures at c.new_connection.ensures in
    let set = rw (c.from-k.ensures, c.from-anchor.ensures) at c.set_run.ensures in
    admits c.args.s.now c.requires _ _ _ _ _ _
    (admit_made c.args.s.now c.requires _ _ _ _ _ c.if-handle-gt-LAST_HANDLE.false _ _ _ _ _ (placed (goal.at.returns c).In_ok-to)
    (planned_free _ _ _ _ _ _ _ _ (placed (goal.at.returns c).In_ok-to)) f made set)
