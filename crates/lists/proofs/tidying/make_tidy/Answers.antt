use lib.ListN.{length}
use Rattle.lists.proofs.AskedLaws.{makes_tidy}
use Rattle.lists.proofs.tidying.make_tidy.Goals as goal

pub returns : goal.returns
returns c =
    let d = c.tidy-done in
    makes_tidy c.args.s c.blank.new.list d.new.moves d.result (length c.args.list.now)
    c.put_done.result c.blank.ensures d.ensures c.put_done.ensures
