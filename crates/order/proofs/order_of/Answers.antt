use Rattle.std.proofs.Common.{arith, refl, sym, []}
use Rattle.order.specs.Orders.{fresh, state, load, order_line, allowed}
use Rattle.order.proofs.Asked.{asks_word, asks_command, asks_nothing}
use Rattle.order.proofs.order_of.Goals as goal

pub returns-then-is_word : goal.returns-then-is_word
unfolding order_line allowed
returns-then-is_word c = record { is = sym (asks_word c.args.line.now fresh tt refl (sym c.if-is_word.ensures)); within = tt }

pub returns-then-is_word-2 : goal.returns-then-is_word-2
unfolding order_line allowed
returns-then-is_word-2 c = record { is = sym (asks_word c.args.line.now state tt refl (sym c.if-is_word-2.ensures)); within = tt }

pub returns-then-is_word-3 : goal.returns-then-is_word-3
unfolding order_line allowed
returns-then-is_word-3 c = record { is = sym (asks_word c.args.line.now (load []) tt refl (sym c.if-is_word-3.ensures)); within = omega arith }

pub returns-then-opens : goal.returns-then-opens
returns-then-opens c = c.save_of.ensures c.args.bytes.now

pub returns-in_err-command : goal.returns-in_err-command
returns-in_err-command c =
    rw c.from_residual.ensures
    (record {
      is =
          sym (asks_nothing c.args.line.now (sym c.if-is_word.ensures) (sym c.if-is_word-2.ensures) (sym c.if-is_word-3.ensures)
          (sym c.if-opens.ensures) (sym c.if-opens-2.ensures) (sym c.in_err-command.ensures));
      within = tt;
    })

pub returns : goal.returns
returns c = record { is = sym (asks_command c.args.line.now c.in_ok-command.command (sym c.in_ok-command.ensures)); within = tt }
