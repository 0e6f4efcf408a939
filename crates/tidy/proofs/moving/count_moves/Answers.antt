use Rattle.std.proofs.Common.{rules, tests}
use Rattle.std.proofs.lemmas.Iterator.{YieldsList-from_slice, YieldsList-from_zip}
use Rattle.std.proofs.lemmas.Iterator.Consumers.{count_from_yields_List, YieldsList-from_filter}
use Rattle.tidy.proofs.Moves.{pair_moved, counted}
use Rattle.tidy.proofs.moving.count_moves.Goals as goal

pub returns : goal.returns
returns c =
    let old = c.args.old.now.connections in
    let new = c.args.new.now.connections in
    counted old new (search rules) (search rules)
    (count_from_yields_List c.filter.result _ c.count.ensures.ran
    (YieldsList-from_filter _ pair_moved (YieldsList-from_zip (YieldsList-from_slice old cc) (YieldsList-from_slice new cc)) c.filter.ensures.closure (λ x b q k. search (rules, tests))))
