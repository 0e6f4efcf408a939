use Rattle.std.proofs.Common.{arith, refl, replicate}
use Rattle.order.proofs.Asked.{save_long, save_wrong, save_none, save_right, save_large}
use Rattle.order.proofs.save_of.Goals as goal

pub read_row-requires : goal.read_row-requires
read_row-requires c = save_long c.args.line.now c.requires

pub returns-in_err-count : goal.returns-in_err-count
returns-in_err-count c =
    rw c.from_residual.ensures (save_wrong c.args.line.now c.requires (replicate 1 0) c.read_row.new.numbers refl c.in_err-count.ensures)

pub returns-in-empty : goal.returns-in-empty
returns-in-empty c = save_none c.args.line.now c.requires _ c.in_ok-count.ensures.row c.in-empty.len_below

pub returns-in-len1 : goal.returns-in-len1
returns-in-len1 c = save_right c.args.line.now c.requires _ c.in_ok-count.ensures.row (omega (arith, c.in-len1)) c.if-size-le-MOST_BUFFER.true

pub returns-in_default : goal.returns-in_default
returns-in_default c = save_large c.args.line.now c.requires _ c.in_ok-count.ensures.row (omega (arith, c.in-len1)) c.if-size-le-MOST_BUFFER.false
