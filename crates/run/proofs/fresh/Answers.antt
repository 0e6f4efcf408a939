use mathlib.Core.Path.{◌≡◌, ◌∙◌, sym, ap₂, subst}
use mathlib.Core.List.{List}
use Prim.Native.Nat.{ℕ}
use lib.ListN.{replicate}
use Rattle.rules.specs.declared.Connection.{Connection}
use Rattle.rules.specs.declared.Schedule.{Schedule}
use Rattle.rules.specs.Good.{Good, fresh}
use Rattle.blocks.proofs.ScheduleLaws.{fresh_tree, fresh_is_good}
use Rattle.run.proofs.fresh.Goals as goal

abbrev made : Connection → List ℕ → Schedule
made c bytes = record { connections = replicate 64 c; tree = record { bytes = bytes } }

pub returns : goal.returns
unfolding fresh
returns c =
    let e : made c.nobody-connections.result c.empty-bytes.result ≡ fresh = ap₂ made c.nobody-connections.ensures (c.empty-bytes.ensures ∙ fresh_tree) in
    record { is = e; good = subst Good (sym e) fresh_is_good }
