use mathlib.Core.Path.{◌≡◌, refl, ◌∙◌}
use Prim.Native.Nat.{◌+◌, ◌≤◌}
use native.Mathlib.Omega.{arith}
use lib.ListN.{length, take}
use lib.Seq.{take_all}
use Rattle.rules.specs.Handles.{each_live}
use Rattle.rules.specs.Records.{joined}
use Rattle.image.proofs.Puts.{live_room, live_put, dead_put}
use Rattle.image.proofs.saving.put_connections.Goals as goal
use Rattle.image.proofs.saving.put_connections.Goals.{Then-c, else-c, then-c}

pub loop-h-init : goal.loop-h-init
unfolding joined each_live
loop-h-init c = (refl, omega arith)

-- a live one more fits
room : (c : Then-c) → c.loop-h.next + 18 ≤ length c.args.buffer.now
room c =
    let l = c.loop-h in
    omega (arith, live_room c.args.connections.now l.h (omega (arith, c.told-connections)) c.if-c.true, c.requires, l.invariant.1)

pub put_connection-requires : goal.put_connection-requires
put_connection-requires c =
    let l = c.loop-h in
    (omega (arith, room (goal.at.put_connection-requires c).Then-c, c.loop-h.auto.buffer), omega arith)

pub overflow_add-next : goal.overflow_add-next
overflow_add-next c = omega (arith, room (goal.at.overflow_add-next c).Then-c)

pub loop-h-preserved : goal.loop-h-preserved
loop-h-preserved c =
    let l = c.loop-h in
    let cs = c.args.connections.now in
    let buffer = c.args.buffer.now in
    elim c.if-c.branch [
      | then-c w ↦ let t = live_put buffer c.args.at cs l.h (omega (arith, c.told-connections)) l.invariant.0 l.invariant.1 w.if-c.true w.put_connection.ensures in
          (w.buffer-is ∙ t.0, w.next-is ∙ t.1)
      | else-c w ↦ let t = dead_put buffer c.args.at cs l.h (omega (arith, c.told-connections)) l.invariant.0 l.invariant.1 w.if-c.false in
          (w.buffer-is ∙ t.0, w.next-is ∙ t.1)
    ]

pub returns : goal.returns
returns c =
    let l = c.loop-h in
    let cs = c.args.connections.now in
    let e : take l.h cs ≡ cs = take_all l.h cs (omega arith) in
    record { bytes = rw e at l.invariant.0; ends = rw e at l.invariant.1 }
