use Rattle.lists.proofs.AskedLaws.{performs_tidy}
use Rattle.lists.proofs.tidying.perform_tidy.Goals as goal

-- The call is made for what the line asks for.
pub returns : goal.returns
returns c =
    performs_tidy c.args.s c.args.line.now c.args.list.now c.in-Some.n c.make_tidy.result
    c.in-Some.ensures c.requires.2 c.make_tidy.ensures
