use Prim.Native.Nat.{ℕ, ◌<◌}
use native.Mathlib.Omega.{arith}
use lib.Pow.{pow_pos}
use Rattle.blocks.specs.Children.{OrOfChildren}
use Rattle.blocks.proofs.TreeLaws.{tree_joined}
use Rattle.tree.proofs.Bits.{node_lt, node_room}
use Rattle.tree.proofs.JoinLaws.{below_missing, class_written}
use Rattle.tree.proofs.write_class.Goals as goal

pub write_below-requires : goal.write_below-requires
write_below-requires c = rw c.node-n.ensures (node_room c.args.k c.args.r c.requires.0)

pub join_above-requires : goal.join_above-requires
join_above-requires c =
    let w = c.write_below in
    let n = c.node-n in
    let f = c.requires.2.0 in
    let joined : (b : ℕ) → 0 < b → b < 512 → OrOfChildren c.args.tree.now b = rw c.requires.2.1 (tree_joined f) in (
      omega (arith, n.ensures, pow_pos c.args.k),
      rw n.ensures (node_lt c.args.k c.args.r c.requires.0),
      below_missing c.args.k n.result c.args.taken c.args.tree.now w.new.tree c.requires.0 (omega (arith, n.ensures)) w.ensures joined,
    )

pub returns : goal.returns
returns c =
    let j = c.join_above in
    let w = c.write_below in
    let n = c.node-n in
    class_written c.args.k c.args.r n.result c.args.taken c.args.tree.now w.new.tree j.new.tree
    c.requires.0 c.requires.1 n.ensures w.ensures j.ensures
