use Rattle.lists.proofs.AskedLaws.{performs_reports}
use Rattle.lists.proofs.reporting.perform_reports.Goals as goal

-- The call is made for what the line asks for.
pub returns : goal.returns
returns c =
    let a = c.in-Some.field-0 in
    performs_reports c.args.s c.args.line.now c.asked_of.new.numbers c.args.list.now a.entries
    a.count c.make_reports.result c.in-Some.ensures c.requires.3 c.make_reports.ensures
