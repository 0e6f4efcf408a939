use mathlib.Core.Path.{sym, ap, ◌∙◌}
use mathlib.Core.Bool.{not}
use mathlib.Core.List.{List}
use Prim.Native.Nat.{ℕ, ◌+◌, ◌^◌}
use Rattle.rules.specs.Mirror.{mirrored}
use Rattle.rules.specs.TreeBytes.{bit_at}
use Rattle.blocks.proofs.TreeLaws.{free_bit}
use Rattle.tree.proofs.Bits.{node_lt}
use Rattle.tree.proofs.is_free.Goals as goal

pub is_set-requires : goal.is_set-requires
is_set-requires c = rw c.node.ensures (node_lt c.args.k _ c.requires.0)

pub returns : goal.returns
returns c taken e =
    ap not (c.is_set.ensures ∙ ap (λ (n : ℕ). bit_at c.args.tree.now n) c.node.ensures ∙ ap (λ (t : List ℕ). bit_at t (2 ^ c.args.k + mirrored c.args.k c.args.r)) e)
    ∙ sym (free_bit taken c.args.k c.args.r c.requires.0 c.requires.1)
