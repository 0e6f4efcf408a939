use mathlib.Core.Path.{◌≡◌}
use mathlib.Core.Bool.{Bool, false}
use Prim.Native.Nat.{ℕ, ◌<◌}
use Rattle.rules.specs.Mirror.{mirrored}
use Rattle.rules.specs.TreeBytes.{tree_of}
use Rattle.rules.specs.Admit.{is_open}
use Rattle.place.proofs.SearchLaws.{Clear}
use Rattle.place.proofs.first_by_blocks.Given as goal

-- `place::first_by_blocks` meets its contract. No node before p is open; the run at p is clear up to its block j.
abbrev pub invariant-loop-j : goal.invariant-loop-j
invariant-loop-j l = (taken : ℕ → Bool) → l.tree ≡ tree_of taken → Clear taken l.k l.j l.a

abbrev pub invariant-nodes : goal.invariant-nodes
invariant-nodes l = (taken : ℕ → Bool) → l.tree ≡ tree_of taken → (q : ℕ) → q < l.p → is_open taken l.k l.floor (mirrored l.k q) ≡ false
