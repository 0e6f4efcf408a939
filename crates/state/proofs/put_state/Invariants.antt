use Prim.Native.Nat.{◌*◌, ◌≤◌}
use lib.ListN.{take}
use Rattle.text.specs.Promises.{Puts}
use Rattle.state.specs.State.{state_lines}
use Rattle.state.proofs.put_state.Given as goal

-- `state::put_state` meets its contract. The invariant: the lines of the handles below h are put.
abbrev pub invariant-loop-h : goal.invariant-loop-h
invariant-loop-h l =
    Puts l.initial.out 0 (state_lines 0 (take l.h l.connections)) l.out l.next
    × (l.next ≤ 48 * l.h)
