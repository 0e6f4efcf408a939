-- What is written at n, under 2n and under 2n + 1 is what lies under n.
use mathlib.Core.Path.{◌∙◌}
use native.Mathlib.Omega.{arith}
use Rattle.tree.proofs.UnderLaws.{room_below, under_step, under_none}
use Rattle.tree.proofs.+write_below.Goals as goal

pub write_below-requires : goal.write_below-requires
write_below-requires t c =
    (omega arith, (room_below c.args.n c.args.left (omega arith) c.requires).0)

pub write_below-requires-then-left-gt0 : goal.write_below-requires-then-left-gt0
write_below-requires-then-left-gt0 t c =
    (omega arith, (room_below c.args.n c.args.left (omega arith) c.requires).1)

pub returns-then-left-gt0 : goal.returns-then-left-gt0
returns-then-left-gt0 t c =
    record {
      sized = c.write_below-then-left-gt0.ensures.sized;
      bits = λ m.
          rw (c.write_below-then-left-gt0.ensures.bits m, c.write_below.ensures.bits m, c.write_node.ensures.bits m)
          (under_step c.args.left c.args.n m c.args.taken _ (omega arith));
    }

pub returns-else-left-gt0 : goal.returns-else-left-gt0
returns-else-left-gt0 t c =
    record {
      sized = c.write_node.ensures.sized;
      bits = λ m. c.write_node.ensures.bits m ∙ under_none c.args.left c.args.n m c.args.taken _ (omega arith);
    }
