use Rattle.std.proofs.Common.{arith, []}
use Rattle.order.proofs.Asked.{load_long, asks_load, asks_no_load}
use Rattle.order.proofs.load_of.Goals as goal

pub read_hex-requires : goal.read_hex-requires
read_hex-requires c = (load_long c.args.line.now c.requires.0 [], omega (arith, c.requires.1))

pub returns-in_err-count : goal.returns-in_err-count
returns-in_err-count c =
    rw c.from_residual.ensures (asks_no_load c.args.line.now c.requires.0 c.read_hex.new.bytes c.in_err-count.ensures)

pub returns : goal.returns
returns c = asks_load c.args.line.now c.requires.0 c.read_hex.new.bytes c.in_ok-count.count c.in_ok-count.ensures
