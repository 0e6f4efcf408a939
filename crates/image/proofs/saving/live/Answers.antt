use mathlib.Core.Path.{refl, sym, ap, ◌∙◌}
use mathlib.Core.List.{List}
use native.Mathlib.Omega.{arith}
use Prim.Native.Nat.{◌<◌}
use lib.ListN.{length}
use lib.Seq.{take_all}
use Rattle.rules.specs.declared.Connection.{Connection}
use Rattle.rules.specs.Handles.{each_live}
use Rattle.rules.specs.Image.{connection_piece, connection_pieces}
use Rattle.calls.proofs.EachLaws.{count_most, each_count, count_live, count_dead, count_room}
use Rattle.image.proofs.saving.live.Goals as goal
use Rattle.image.proofs.saving.live.Goals.{else-c, then-c}

pub loop-c-init : goal.loop-c-init
unfolding each_live
loop-c-init c = refl

pub overflow_add-n : goal.overflow_add-n
overflow_add-n c =
    let l = c.loop-c in
    let cs = c.args.connections.now in
    omega (arith, count_room connection_piece cs l.c-index (omega arith) c.if-c.true, each_count connection_piece 0 cs, count_most cs)

pub loop-c-preserved : goal.loop-c-preserved
loop-c-preserved c =
    let l = c.loop-c in
    let cs = c.args.connections.now in
    let here : l.c-index < length cs = omega arith in
    elim c.if-c.branch [
      | then-c w ↦ w.n-is ∙ omega (arith, count_live connection_piece cs l.c-index here w.if-c.true)
      | else-c w ↦ w.n-is ∙ l.invariant ∙ sym (count_dead connection_piece cs l.c-index here w.if-c.false)
    ]

pub returns : goal.returns
returns c =
    let l = c.loop-c in
    let cs = c.args.connections.now in
    l.invariant ∙ ap (λ (x : List Connection). length (connection_pieces 0 x)) (take_all l.c-index cs (omega arith))
