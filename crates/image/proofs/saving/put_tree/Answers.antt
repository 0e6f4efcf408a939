use Rattle.std.proofs.Common.{◌+◌, arith, ap, ◌∙◌, List, ℕ}
use lib.Seq.{sets}
use Rattle.basics.proofs.StoreLaws.{part_stored}
use Rattle.image.proofs.Puts.{tree_put}
use Rattle.image.proofs.saving.put_tree.Goals as goal

pub returns : goal.returns
returns c =
    let a = c.args in
    let copied = c.copy_from_slice.ensures in
    tree_put a.buffer.now a.at a.tree.now c.told-tree c.put_header.ensures
    (part_stored (a.at + 4) _ c.put_header.new.buffer c.copy_from_slice.new.self (omega (arith, copied.len)) (omega arith)
    ∙ ap (λ (x : List ℕ). sets c.put_header.new.buffer (a.at + 4) x) copied.after)
