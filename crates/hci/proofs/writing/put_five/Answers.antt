use mathlib.Core.Path.{ap, ◌∙◌}
use lib.Seq.{sets}
use Rattle.hci.specs.declared.Five.{Five}
use Rattle.hci.specs.Promises.{five_bytes}
use Rattle.hci.proofs.Storing.{five_put}
use Rattle.hci.proofs.writing.put_five.Goals as goal

pub returns : goal.returns
returns c =
    let put : Five = record {
      first = c.from.result;
      top = c.from-2.result;
      latency = c.from-3.result;
      continuation = c.from-4.result;
      timeout = c.from-5.result;
    } in
    five_put c.args.buffer.now c.args.at put c.put_number.ensures c.put_number-2.ensures
    c.put_number-3.ensures c.put_number-4.ensures c.put_number-5.ensures
    ∙ ap (λ (f : Five). sets c.args.buffer.now c.args.at (five_bytes f)) (λ i. record {
      first = c.from.ensures i;
      top = c.from-2.ensures i;
      latency = c.from-3.ensures i;
      continuation = c.from-4.ensures i;
      timeout = c.from-5.ensures i;
    })
