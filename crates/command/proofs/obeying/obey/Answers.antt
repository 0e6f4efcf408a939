use mathlib.Core.Path.{refl}
use Rattle.rules.specs.declared.Reply.TheVariants.{Admission, Dropping, Reporting}
use Rattle.rules.specs.Obey.{obey}
use Rattle.command.proofs.Commanded.{obeyed_as, replied}
use Rattle.command.proofs.obeying.obey.Goals as goal

-- one interval is the range from the least
pub returns-in-Admit : goal.returns-in-Admit
unfolding obey
returns-in-Admit c =
    let p = c.admit.ensures in
    let m = c.map.ensures in
    obeyed_as c.in-Admit.is (replied _ Admission c.admit.result _ m.answer m.schedule p.is (_, refl) p.good)

pub returns-in-AdmitRange : goal.returns-in-AdmitRange
unfolding obey
returns-in-AdmitRange c =
    let p = c.admit-in-AdmitRange.ensures in
    let m = c.map-in-AdmitRange.ensures in
    obeyed_as c.in-AdmitRange.is (replied _ Admission c.admit-in-AdmitRange.result _ m.answer m.schedule p.is (_, refl) p.good)

pub returns-in-Drop : goal.returns-in-Drop
unfolding obey
returns-in-Drop c =
    let p = c.drop.ensures in
    let m = c.map-in-Drop.ensures in
    obeyed_as c.in-Drop.is (replied _ Dropping c.drop.result _ m.answer m.schedule p.is (_, refl) p.good)

pub returns-in-Report : goal.returns-in-Report
unfolding obey
returns-in-Report c =
    let p = c.report.ensures in
    let m = c.map-in-Report.ensures in
    obeyed_as c.in-Report.is (replied _ Reporting c.report.result _ m.answer m.schedule p.is (_, refl) p.good)

pub returns-in-Owner : goal.returns-in-Owner
unfolding obey
returns-in-Owner c =
    obeyed_as c.in-Owner.is (record { is = λ i. record { answer = c.owner.ensures i; schedule = c.args.s }; own = (c.owner.result, refl); good = c.requires })

pub returns-in-Anchor : goal.returns-in-Anchor
unfolding obey
returns-in-Anchor c =
    obeyed_as c.in-Anchor.is (record { is = λ i. record { answer = c.anchor.ensures i; schedule = c.args.s }; own = (c.anchor.result, refl); good = c.requires })
