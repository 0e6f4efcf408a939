use mathlib.Core.Path.{sym, ◌∙◌}
use native.Mathlib.Omega.{arith}
use Rattle.command.proofs.Carrying.{carried_bad, room_said, carried_said}
use Rattle.command.proofs.running.carry_out.Goals as goal

pub put_reply-requires : goal.put_reply-requires
put_reply-requires c =
    let e = c.says.ensures in
    omega (arith, c.requires.1, room_said c.args.line.now c.in-Some.command (sym e ∙ c.in-Some.is))

pub returns-in-None : goal.returns-in-None
returns-in-None c =
    carried_bad c.args.s.now c.args.line.now c.args.out.now c.put_word.new.out c.args.at c.put_word.result c.requires.0
    (sym c.says.ensures ∙ c.in-None.is) c.put_word.ensures

pub returns-in-Some : goal.returns-in-Some
returns-in-Some c =
    carried_said c.args.s.now c.args.line.now c.args.out.now c.put_reply.new.out c.args.at c.put_reply.result
    c.in-Some.command c.obey-done.result (sym c.says.ensures ∙ c.in-Some.is) c.obey-done.ensures c.put_reply.ensures
