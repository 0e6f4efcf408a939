use mathlib.Core.Path.{refl}
use mathlib.Core.List.{flatten}
use Prim.Native.Nat.{◌<◌}
use native.Mathlib.Omega.{arith}
use lib.ListN.{length}
use Rattle.rules.specs.Handles.{each_live}
use Rattle.text.proofs.Putting.{puts_after, puts_moved, puts_as}
use Rattle.state.specs.State.{state_lines}
use Rattle.state.proofs.StateLaws.{state_live, state_dead}
use Rattle.state.proofs.put_state.Goals as goal
use Rattle.state.proofs.put_state.Goals.{then-c, else-c}

pub loop-h-init : goal.loop-h-init
unfolding state_lines each_live flatten
loop-h-init c = (record { stored = refl; ends = refl }, omega arith)

pub loop-h-preserved : goal.loop-h-preserved
loop-h-preserved c =
    let l = c.loop-h in
    let cs = c.args.connections.now in
    let here : l.h < length cs = omega arith in
    elim c.if-c.branch [
      | then-c w ↦
          let q = w.put_connection-next.ensures in
          let p = puts_as (state_live cs l.h here w.if-c.true) (puts_after l.invariant.0 q.puts) in
          (puts_moved w.out-is w.next-is p, omega (arith, w.next-is, q.room, l.invariant.1))
      | else-c w ↦
          let p = puts_as (state_dead cs l.h here w.if-c.false) l.invariant.0 in
          (puts_moved w.out-is w.next-is p, omega (arith, w.next-is, l.invariant.1))
    ]
