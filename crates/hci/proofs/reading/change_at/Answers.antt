use native.Mathlib.Omega.{arith}
use Rattle.basics.proofs.BytesLaws.{number_at_lt}
use Rattle.hci.proofs.Finding.{small}
use Rattle.hci.proofs.reading.change_at.Goals as goal

pub overflow_cast-result : goal.overflow_cast-result
overflow_cast-result c =
    let bytes = c.args.bytes.now in
    let below = number_at_lt bytes c.args.at 1 (small bytes c.type_inv.bytes) in
    omega (arith, c.number.ensures, below)
