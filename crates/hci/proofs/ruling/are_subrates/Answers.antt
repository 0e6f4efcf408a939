use mathlib.Core.Path.{◌∙◌}
use Rattle.hci.proofs.Tests.{within, outside, not_commanded, by_max}
use Rattle.hci.proofs.ruling.are_subrates.Goals as goal

pub returns-then-contains : goal.returns-then-contains
returns-then-contains c =
    let r = c.new.ensures in
    let is = rw (r.start, r.end, r.exhausted) at c.contains.ensures.value in
    let range = within 1 c.args.v.max c.args.v.min is c.if-contains.true in
    c.is_subrating.ensures ∙ by_max c.args.v range.0 range.1

pub returns-else-contains : goal.returns-else-contains
returns-else-contains c =
    let r = c.new.ensures in
    let is = rw (r.start, r.end, r.exhausted) at c.contains.ensures.value in
    let v = c.args.v in
    c.if-contains.false
    ∙ not_commanded v (λ w. outside 1 v.max v.min is c.if-contains.false w.min_from_1 w.in_order)
