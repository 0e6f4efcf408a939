use borrow.Author.Rules.{rules}
use Rattle.place.proofs.SearchLaws.{lengthened_row}
use Rattle.place.proofs.lengthen.Goals as goal

pub returns : goal.returns
returns c = lengthened_row c.args.k _ c.args.row.now c.stretches.new.room (λ A b l s. search rules) c.stretches.ensures
