use mathlib.Core.Path.{◌≡◌}
use lib.ListN.{length, take}
use Rattle.reports.specs.Pairs.{reports_of}
use Rattle.reports.proofs.pairing.gather.Given as goal

-- `reports::pairing::gather` meets its contract. The invariant: there is
-- room for 65, and the first i are the first i that the numbers say.
abbrev pub invariant-loop-i : goal.invariant-loop-i
invariant-loop-i l = (length l.reports ≡ 65) × (take l.i l.reports ≡ take l.i (reports_of l.numbers))
