-- Memory of zeros is a fresh schedule: proved of the fields. That a field's 0 is bytes of 0 is the layout's part, which c/example.c compares.
use mathlib.Core.Path.{◌≡◌, sym, ap, ◌∙◌, subst⁻¹}
use mathlib.Core.List.{List}
use Prim.Native.Nat.{ℕ}
use Rattle.rules.specs.Good.{Good, fresh}
use Rattle.blocks.proofs.TreeLaws.{tree_empty}
use Rattle.blocks.proofs.ScheduleLaws.{fresh_tree, fresh_is_good}
use Rattle.door.specs.Zeroed.{zeroed}

pub zeroed_is_fresh : zeroed ≡ fresh
unfolding fresh
zeroed_is_fresh = ap (λ (l : List ℕ). record { connections = zeroed.connections; tree = record { bytes = l } }) (sym tree_empty ∙ fresh_tree)

-- So it may be given to every call.
pub zeroed_is_good : Good zeroed
zeroed_is_good = subst⁻¹ Good zeroed_is_fresh fresh_is_good
