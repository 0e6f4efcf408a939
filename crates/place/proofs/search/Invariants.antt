use mathlib.Core.Path.{◌≡◌}
use mathlib.Core.Bool.{Bool, false}
use Prim.Native.Nat.{ℕ, ◌-◌, ◌<◌}
use Rattle.rules.specs.Mirror.{mirrored}
use Rattle.rules.specs.Admit.{is_open}
use Rattle.place.specs.Promises.{Stretches}
use Rattle.place.proofs.SearchLaws.{Clear}
use Rattle.place.proofs.search.Given as goal

-- `place::search` meets its contract. No node before that of a is open; the run at a is clear up to
-- its block j.
abbrev pub invariant-loop-j : goal.invariant-loop-j
invariant-loop-j l = (taken : ℕ → Bool) → Stretches l.k taken l.room → Clear taken l.k l.j l.a

abbrev pub decreases-loop-j : goal.decreases-loop-j
decreases-loop-j l = l.floor - l.j

abbrev pub invariant-nodes : goal.invariant-nodes
invariant-nodes l = (taken : ℕ → Bool) → Stretches l.k taken l.room → (q : ℕ) → q < l.a-index → is_open taken l.k l.floor (mirrored l.k q) ≡ false
