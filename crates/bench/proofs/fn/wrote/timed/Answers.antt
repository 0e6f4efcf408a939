use native.Mathlib.Omega.{arith}
use Rattle.hci.proofs.Calls.{wrote_few}
use Rattle.bench.proofs.Sizes.{if_size}
use Rattle.bench.proofs.fn.wrote.timed.Goals as goal

pub returns : goal.returns
returns c =
    let w = c.write_message in
    let m = c.captures.message in
    let before = c.captures.buffer.now in
    if_size w.result _
    (λ n e. omega (arith, wrote_few m before w.new.buffer w.result w.ensures n e))
