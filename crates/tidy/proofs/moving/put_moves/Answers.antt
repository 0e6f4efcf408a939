use mathlib.Core.Path.{◌≡◌, refl, sym, ap, ◌∙◌}
use mathlib.Core.List.{List}
use Prim.Native.Nat.{ℕ, ◌≤◌}
use native.Mathlib.Omega.{arith}
use lib.ListN.{length}
use Rattle.rules.specs.Below.{in_turn, those}
use Rattle.rules.specs.Ownership.{handles}
use Rattle.rules.specs.Tidy.{entries}
use Rattle.rules.specs.Lent.{over}
use Rattle.basics.proofs.LentLaws.{over_length}
use Rattle.tidy.proofs.Moves.{first_entries, first_fit, first_few, entries_kept, move_fits, move_ends, move_put, written}
use Rattle.tidy.proofs.moving.put_moves.Goals as goal
use Rattle.tidy.proofs.moving.put_moves.Goals.{At-loop-h, else-has_moved, then-has_moved}

-- what is written fits, so the list keeps its length
room : (c : At-loop-h) → length (first_entries c.args.old.now.connections c.args.new.now.connections c.loop-h.h) ≤ length c.args.list.now
room c =
    omega (arith, first_fit c.args.old.now.connections c.args.new.now.connections c.loop-h.h (omega arith), c.requires)

kept : (c : At-loop-h) → length c.loop-h.list ≡ length c.args.list.now
kept c =
    let a = c.args in
    ap (λ (x : List ℕ). length x) c.loop-h.invariant.1 ∙ over_length (first_entries a.old.now.connections a.new.now.connections c.loop-h.h) a.list.now (room c)

pub loop-h-init : goal.loop-h-init
unfolding those in_turn entries
loop-h-init c = (refl, refl)

pub put_move-requires : goal.put_move-requires
put_move-requires c =
    let l = c.loop-h in
    move_fits c.args.old.now.connections c.args.new.now.connections l.h l.at c.args.list.now l.list (omega arith) c.requires
    (sym c.has_moved.ensures ∙ c.if-has_moved.true) l.invariant.0 l.invariant.1

pub overflow_add-at : goal.overflow_add-at
overflow_add-at c =
    let l = c.loop-h in
    let a = c.args in
    omega (arith, l.invariant.0, first_few a.old.now.connections a.new.now.connections l.h (omega arith))

pub loop-h-preserved : goal.loop-h-preserved
loop-h-preserved c =
    let l = c.loop-h in
    let a = c.args in
    let old = a.old.now.connections in
    let new = a.new.now.connections in
    let says = c.has_moved.ensures in
    elim c.if-has_moved.branch [
      | then-has_moved w ↦ let moved = sym says ∙ w.if-has_moved.true in (
        w.at-is ∙ move_ends old new l.h l.at a.list.now l.list (omega arith) c.requires moved l.invariant.0 l.invariant.1,
        w.list-is ∙ move_put old new l.h l.at a.list.now l.list (omega arith) c.requires moved l.invariant.0 l.invariant.1 _ w.put_move.ensures,
      )
      | else-has_moved w ↦ let e = entries_kept old new l.h (sym says ∙ w.if-has_moved.false) in
          (w.at-is ∙ l.invariant.0 ∙ ap (λ (x : List ℕ). length x) e, w.list-is ∙ l.invariant.1 ∙ ap (λ (x : List ℕ). over x a.list.now) e)
    ]

pub returns : goal.returns
returns c =
    let l = c.loop-h in
    let a = c.args in
    let e : l.h ≡ handles = omega arith in
    written a.old.now.connections a.new.now.connections a.list.now (rw e at l.invariant.1)
