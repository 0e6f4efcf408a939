use Rattle.basics.proofs.BytesLaws.{number_at_lt}
use Rattle.restore.proofs.field.Goals as goal

pub returns : goal.returns
returns c =
    let a = c.args in
    let small = number_at_lt a.payload.now a.start a.width (λ i. (c.type_inv.payload i).fits) in
    (c.number.ensures, rw c.number.ensures small)
