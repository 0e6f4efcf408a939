use mathlib.Core.Path.{ap}
use native.Mathlib.Omega.{arith}
use Rattle.rules.specs.Words.{words_of}
use Rattle.text.proofs.Putting.{puts_after, puts_as}
use Rattle.talk.proofs.telling.put_read.Goals as goal

pub returns : goal.returns
returns c =
    let p = c.put_reading-a.ensures in
    record {
      puts = puts_after (puts_as (ap words_of c.read_message.ensures) p.puts) c.put_word.ensures;
      room = omega (arith, p.room, c.put_word.ensures.ends);
    }
