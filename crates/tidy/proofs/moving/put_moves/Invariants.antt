use mathlib.Core.Path.{◌≡◌}
use lib.ListN.{length}
use Rattle.rules.specs.Lent.{over}
use Rattle.tidy.proofs.Moves.{first_entries}
use Rattle.tidy.proofs.moving.put_moves.Given as goal

-- `moving::put_moves` meets its contract. The invariant: the entries of the first h handles' moves have been written.
abbrev pub invariant-loop-h : goal.invariant-loop-h
invariant-loop-h l =
    let written = first_entries l.old.connections l.new.connections l.h in
    (l.at ≡ length written) × (l.list ≡ over written l.initial.list)
