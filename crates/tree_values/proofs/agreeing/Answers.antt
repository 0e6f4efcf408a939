use Rattle.std.proofs.Common.{rules, ◌≤◌, ◌^◌}
use Rattle.std.proofs.Math.Pow.{pow_mono}
use Rattle.tree_values.proofs.agreeing.Goals as goal

-- A width of the tree has at most 512 numbers.
pub returns : goal.returns
returns g c =
    let most : 2 ^ c.args.k ≤ 512 = pow_mono c.requires.deep in
    search rules
