use mathlib.Core.Path.{◌≡◌, refl, sym, ap, ◌∙◌, subst⁻¹}
use mathlib.Core.Bool.{true}
use Prim.Native.Nat.{ℕ, ◌+◌, ◌^◌, ◌<◌, ◌≤◌}
use native.Mathlib.Omega.{arith}
use Rattle.std.specs.Prelude.{Option, Some, None, Err}
use Rattle.std.specs.Option.{ok_or}
use Rattle.std.proofs.lemmas.Result.{err_from_is_err_and}
use Rattle.rules.specs.declared.Schedule.{Schedule}
use Rattle.rules.specs.declared.Refusal.{Refusal}
use Rattle.rules.specs.declared.Refusal.TheVariants.{NoAnchorForAll}
use Rattle.rules.specs.Ownership.{at, taken}
use Rattle.rules.specs.Steps.{gives}
use Rattle.rules.specs.Tidy.{at_depth}
use Rattle.place.specs.Steps.{of_place, place_step}
use Rattle.tidy.proofs.Placing.{PlacingTo, of_depth_fits, placing_begins, placing_skips, placing_stretches, placing_tree, placing_ends, placing_stops, placing_small, placing_takes}
use Rattle.tidy.proofs.arranging.arrange_depth.Goals as goal
use Rattle.tidy.proofs.arranging.arrange_depth.Goals.{After-search_row, In_ok-found, Then-is_of, else-is_of, then-is_of+in_ok-found}

pub list_anchors-requires : goal.list_anchors-requires
list_anchors-requires c = c.requires.1

pub widen-requires : goal.widen-requires
widen-requires c = c.requires.1

pub loop-h-init : goal.loop-h-init
loop-h-init c = placing_begins c.args.s.now.connections c.args.k c.args.new.now c.args.room.now c.widen.new.room c.requires.2 c.widen.ensures

-- it is one of the depth
is_one : (c : Then-is_of) → at_depth c.args.s.now.connections c.args.k c.loop-h.h ≡ true
is_one c = sym c.is_of.ensures ∙ c.if-is_of.true

fits : (c : Then-is_of)
    → (1 ≤ (at c.args.s.now.connections c.loop-h.h).length)
    × ((at c.args.s.now.connections c.loop-h.h).length ≤ 2 ^ c.args.k)
fits c =
    let l = c.loop-h in
    of_depth_fits c.args.s.now c.requires.0 c.args.k l.h (is_one c)

pub search_row-requires : goal.search_row-requires
search_row-requires c =
    let l = c.loop-h in
    let f = fits (goal.at.search_row-requires c).Then-is_of in
    let e = c.from-length.ensures in
    (c.requires.1, rw e f.0, rw e f.1, c.list_anchors.ensures, (_, placing_stretches c.args.s.now.connections c.args.k l.h c.args.new.now l.new l.room l.invariant c.requires.1))

-- what the search says, by the row
told : (c : After-search_row) → of_place c.search_row.result
    ≡ place_step (taken c.loop-h.new.connections) c.args.k (at c.args.s.now.connections c.loop-h.h).length
told c =
    let l = c.loop-h in
    rw c.from-length.ensures at (c.search_row.ensures (taken l.new.connections) (placing_stretches c.args.s.now.connections c.args.k l.h c.args.new.now l.new l.room l.invariant c.requires.1))

-- the anchor that it finds
found : (c : In_ok-found) → gives c.in_ok-found.found
    ≡ place_step (taken c.loop-h.new.connections) c.args.k (at c.args.s.now.connections c.loop-h.h).length
found c = sym (ap of_place c.in_ok-found.ensures.ok_part) ∙ told (goal.at.In_ok-found c).After-search_row

small : (c : In_ok-found) → c.in_ok-found.found < 2 ^ c.args.k
small c =
    let l = c.loop-h in
    placing_small c.args.s.now.connections c.args.k l.h c.args.new.now l.new l.room l.invariant (omega arith) (sym c.is_of.ensures ∙ c.if-is_of.true) _ (found c)

pub take_run-requires : goal.take_run-requires
take_run-requires c =
    let l = c.loop-h in
    (c.requires.1, rw c.from-anchor.ensures (small (goal.at.take_run-requires c).In_ok-found), rw c.from-length.ensures (fits (goal.at.take_run-requires c).Then-is_of).1)

pub set_run-requires : goal.set_run-requires
set_run-requires c =
    let l = c.loop-h in
    (omega (arith, c.requires.1), rw c.from-anchor.ensures (small (goal.at.set_run-requires c).In_ok-found), omega arith, rw c.from-length.ensures (fits (goal.at.set_run-requires c).Then-is_of).1, placing_tree c.args.s.now.connections c.args.k l.h c.args.new.now l.new l.room l.invariant)

pub loop-h-preserved : goal.loop-h-preserved
loop-h-preserved c =
    let l = c.loop-h in
    let to = PlacingTo c.args.s.now.connections c.args.k (l.h + 1) c.args.new.now in
    elim c.if-is_of.branch [
      | then-is_of+in_ok-found w ↦
          let one : at_depth c.args.s.now.connections c.args.k l.h ≡ true = sym c.is_of.ensures ∙ w.if-is_of.true in
          let here : gives w.from-anchor.result ≡ place_step (taken l.new.connections) c.args.k (at c.args.s.now.connections l.h).length =
          ap gives w.from-anchor.ensures
          ∙ sym (ap of_place w.in_ok-found.ensures.ok_part)
          ∙ rw w.from-length.ensures at (w.search_row.ensures (taken l.new.connections) (placing_stretches c.args.s.now.connections c.args.k l.h c.args.new.now l.new l.room l.invariant c.requires.1)) in
          let next = placing_takes c.args.s.now.connections c.args.k l.h c.args.new.now l.new l.room l.invariant (omega arith) one _ here _ w.take_run.new.room refl (rw w.from-length.ensures at w.set_run.ensures) (rw w.from-length.ensures at w.take_run.ensures) in
          subst⁻¹ (λ (x : Schedule). to x c.if-is_of.room) w.new-is (subst⁻¹ (to _) w.room-is next)
      | else-is_of w ↦
          let next = placing_skips c.args.s.now.connections c.args.k l.h c.args.new.now l.new l.room l.invariant (sym c.is_of.ensures ∙ w.if-is_of.false) in
          subst⁻¹ (λ (x : Schedule). to x c.if-is_of.room) w.new-is (subst⁻¹ (to l.new) w.room-is next)
    ]

pub returns : goal.returns
returns c =
    let l = c.loop-h in
    placing_ends c.args.s.now.connections c.args.k l.h c.args.new.now l.new l.room l.invariant (omega arith)

-- no anchor was found
none_found : (o : Option ℕ) {e : Refusal} → ok_or o NoAnchorForAll ≡ Err e → (o ≡ None) × (e ≡ NoAnchorForAll)
none_found None p = (refl, cc)
none_found (Some a) p = cc

pub returns-in_err-found : goal.returns-in_err-found
returns-in_err-found c =
    let l = c.loop-h in
    let n = none_found c.search_row.result (sym c.ok_or.ensures.value ∙ c.in_err-found.was) in
    let p = err_from_is_err_and c.from_residual.result c.from_residual.ensures.1 in
    rw (p.1, p.2, n.1)
    (placing_stops c.args.s.now.connections c.args.k l.h c.args.new.now l.new l.room l.invariant (omega arith) (is_one (goal.at.returns-in_err-found c).Then-is_of) l.new l.room (sym (ap of_place n.0) ∙ told (goal.at.returns-in_err-found c).After-search_row))
