use mathlib.Core.Path.{sym, ◌∙◌}
use mathlib.Core.Logic.{inl, inr}
use mathlib.Core.Bool.{true≢false}
use native.Mathlib.Omega.{arith}
use Rattle.std.proofs.lemmas.Bool.{le-ltb}
use Rattle.hci.proofs.Tests.{within, outside, not_subrated, by_product}
use Rattle.hci.proofs.ruling.is_subrating.Goals.{then-contains, else-contains}
use Rattle.hci.proofs.ruling.is_subrating.Goals as goal

pub returns-then-continuation-factor : goal.returns-then-continuation-factor
returns-then-continuation-factor c =
    let r = c.new.ensures in
    let is = rw (r.start, r.end, r.exhausted) at c.contains.ensures.value in
    let tests = c.if-continuation-factor.true in
    let range = within 10 3200 c.args.timeout is tests.0 in
    let a = c.args in
    rw (c.from.ensures, c.from-then-continuation-factor.ensures)
    (by_product a.factor a.latency a.continuation a.timeout range.0 range.1 tests.1)

pub returns-else-continuation-factor : goal.returns-else-continuation-factor
returns-else-continuation-factor c =
    let r = c.new.ensures in
    let is = rw (r.start, r.end, r.exhausted) at c.contains.ensures.value in
    let t = c.args.timeout in
    elim c.if-contains.branch [
      | then-contains w ↦ elim c.if-continuation-factor.either [
        | inl p ↦
            w.t-7-is ∙ le-ltb _ _ p.1 ∙ not_subrated _ _ _ _ (λ r. omega (arith, p.1, r.below))
        | inr e ↦ absurd (true≢false (sym w.if-contains.true ∙ e))
      ]
      | else-contains w ↦
          w.t-7-is ∙ w.if-contains.false
          ∙ not_subrated _ _ _ _ (λ s.
          outside 10 3200 t is w.if-contains.false s.timeout_from_10 s.timeout_to_3200)
    ]
