use borrow.Author.Rules.{rules}
use mathlib.Core.Path.{◌≡◌, ap, ◌∙◌}
use Prim.Native.Nat.{◌+◌, ◌≤◌, ◌<◌, ◌^◌}
use native.Mathlib.Omega.{arith}
use lib.Pow.{pow_mono}
use lib.ListN.{get_or}
use Rattle.rules.specs.Mirror.{mirrored}
use Rattle.rules.specs.TreeBytes.{bit_at}
use Rattle.blocks.proofs.ClassLaws.{within_depth}
use Rattle.blocks.proofs.MirrorLaws.{mirror_lt}
use Rattle.place.specs.Promises.{row_classes}
use Rattle.place.proofs.SearchLaws.{measured_tree}
use Rattle.place.proofs.measure.Goals as goal

pub stretches-requires-clause-asked : goal.stretches-requires-clause-asked
stretches-requires-clause-asked c A l =
    let g : 2 ^ c.args.k ≤ row_classes = pow_mono c.requires.0 in
    let h : A < 256 = omega arith in
    let p : get_or c.args.anchors.now A 0 ≡ mirrored c.args.k A = c.requires.1 A l in
    let m : mirrored c.args.k A < 2 ^ c.args.k = mirror_lt c.args.k A in
    let f = c.factor.ensures in
    let b : c.factor.result + get_or c.args.anchors.now A 0 < 1024 = omega (arith, f.is) in
    search rules

pub returns : goal.returns
returns c =
    let a = c.args in
    measured_tree a.k _ a.tree.now c.stretches.new.room (within_depth c.requires.0)
    (λ A b l s.
    let q : c.factor.result + get_or a.anchors.now A 0 ≡ 2 ^ a.k + mirrored a.k A = omega (arith, c.factor.ensures.is, c.requires.1 A l) in
    let e : b ≡ bit_at a.tree.now (c.factor.result + get_or a.anchors.now A 0) = search rules in
    e ∙ ap (bit_at a.tree.now) q)
    c.stretches.ensures
