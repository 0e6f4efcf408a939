use lib.ListN.{length}
use Rattle.lists.proofs.AskedLaws.{makes_reports}
use Rattle.lists.proofs.reporting.make_reports.Goals as goal

pub returns : goal.returns
returns c =
    let d = c.report_pairs-done in
    makes_reports c.args.s c.args.numbers.now c.blank.new.list d.new.answers d.result
    (length c.args.list.now) c.put_done.result c.blank.ensures d.ensures c.put_done.ensures
