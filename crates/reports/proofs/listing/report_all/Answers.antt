-- The answers of `report_all`: its loop keeps what `Walking` says of the turns, and what the last turn left is the rule's.
use Rattle.std.proofs.Common.{◌≡◌, ◌≤◌, ℕ, List, length, get_or, set, sym, ap, ap₂, subst, ◌∙◌, arith}
use Rattle.rules.specs.Good.{Good}
use Rattle.rules.specs.declared.Schedule.{Schedule}
use Rattle.rules.specs.declared.Report.{Report}
use Rattle.rules.specs.Answers.{Outcome}
use Rattle.rules.specs.Reports.{single, coded, most_reports}
use Rattle.reports.proofs.Walking.{state_0, list_0, state_good, state_next, list_next, accepted_fits, made_all, made_none}
use Rattle.reports.proofs.listing.report_all.Goals as goal
use Rattle.reports.proofs.listing.report_all.Goals.{Then-is_ok}

-- The list is accepted.
fits : (c : Then-is_ok) → (length c.args.reports.now ≤ most_reports) × (length c.args.reports.now ≤ length c.args.answers.now)
fits c = accepted_fits (length c.args.reports.now) (length c.args.answers.now) c.answer_of-answer.result c.answer_of-answer.ensures (sym c.is_ok.ensures.value ∙ c.if-is_ok.true)

pub loop-i-init : goal.loop-i-init
loop-i-init c = (sym (state_0 c.args.s c.args.reports.now), sym (list_0 c.args.s c.args.reports.now c.args.answers.now))

pub report-done-requires : goal.report-done-requires
report-done-requires c =
    subst Good (sym c.loop-i.invariant.0) (state_good c.args.s c.args.reports.now c.requires c.loop-i.i)

pub bounds-answers-i : goal.bounds-answers-i
bounds-answers-i c =
    let f = fits (goal.at.bounds-answers-i c).Then-is_ok in
    omega (arith, f.1, c.loop-i.auto.answers)

pub loop-i-preserved : goal.loop-i-preserved
loop-i-preserved c =
    let s = c.args.s in
    let xs = c.args.reports.now in
    let i = c.loop-i.i in
    let d : Report = record { handle = 0; sample = 0 } in
    let f = fits (goal.at.loop-i-preserved c).Then-is_ok in
    let done = c.report-done.ensures.is ∙ ap (λ (t : Schedule). single t (get_or xs i d)) c.loop-i.invariant.0 in (
      ap (λ (o : Outcome). o.schedule) done ∙ sym (state_next s xs d i c.loop-i-test.true),
      ap₂ (λ (l : List ℕ) (n : ℕ). set l i n) c.loop-i.invariant.1 (c.code_of.ensures ∙ ap (λ (o : Outcome). coded o.answer) done)
          ∙ list_next s xs d i c.loop-i-test.true c.args.answers.now (omega (arith, f.1)),
    )

pub returns-after-loop-i : goal.returns-after-loop-i
returns-after-loop-i c =
    let e : c.loop-i.i ≡ length c.args.reports.now = omega arith in
    rw (c.loop-i.invariant.0, c.loop-i.invariant.1, e) (made_all c.args.s c.requires c.args.reports.now c.args.answers.now c.answer_of-answer.result c.answer_of-answer.ensures (sym c.is_ok.ensures.value ∙ c.if-is_ok.true))

pub returns-else-is_ok : goal.returns-else-is_ok
returns-else-is_ok c =
    made_none c.args.s c.requires c.args.reports.now c.args.answers.now c.answer_of-answer.result c.answer_of-answer.ensures (sym c.is_ok.ensures.value ∙ c.if-is_ok.false)
