use borrow.Author.Rules.{rules}
use mathlib.Core.Path.{refl}
use native.Mathlib.Omega.{arith}
use Rattle.text.proofs.Putting.{puts_after}
use Rattle.answer.proofs.Words.{puts_number}
use Rattle.lists.proofs.lending.put_done.Goals as goal

pub returns : goal.returns
returns c =
    let p =
    puts_number c.args.word.now c.args.done.answer c.map.result _ (λ x r q. search rules)
    c.map.ensures.cases c.put_counted-at.ensures
    in
    let q = c.put_lent-count.ensures in
    record {
      puts = puts_after p.puts q.puts;
      leaves = refl;
      fits = omega (arith, p.room, q.room, c.requires.room);
    }
