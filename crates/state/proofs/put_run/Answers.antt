use mathlib.Core.List.{[], ◌∷◌}
use native.Mathlib.Omega.{arith}
use Rattle.rules.specs.Decimal.{decimal}
use Rattle.texts.proofs.DecimalLaws.{decimal_length}
use Rattle.text.proofs.Putting.{within_decimal, room_spaced, within_first, within_spaced}
use Rattle.state.proofs.put_run.Goals as goal

-- `state::put_run` meets its contract: the handle, then three numbers.
pub put_decimal-a-requires : goal.put_decimal-a-requires
put_decimal-a-requires c =
    omega (arith, c.requires, decimal_length 2 c.from.result (omega arith))

pub put_spaced-b-requires : goal.put_spaced-b-requires
put_spaced-b-requires c =
    let p = within_decimal 2 c.from.result (omega arith) c.put_decimal-a.ensures in
    room_spaced 2 c.from-2.result (omega arith) p (omega (arith, c.requires))

pub put_spaced-d-requires : goal.put_spaced-d-requires
put_spaced-d-requires c =
    let k = c.from-2.result in
    let a = within_decimal 2 c.from.result (omega arith) c.put_decimal-a.ensures in
    let p = within_first 2 k (omega arith) a c.put_spaced-b.ensures in
    room_spaced 9 c.args.c.anchor (omega arith) p (omega (arith, c.requires))

pub put_spaced-requires : goal.put_spaced-requires
put_spaced-requires c =
    let k = c.from-2.result in
    let h = c.from.result in
    let a = within_decimal 2 h (omega arith) c.put_decimal-a.ensures in
    let p = within_first 2 k (omega arith) a c.put_spaced-b.ensures in
    let q =
    within_spaced (decimal h) (k ∷ []) 9 c.args.c.anchor (omega arith) p c.put_spaced-d.ensures
    in
    room_spaced 4 c.from-3.result (omega arith) q (omega (arith, c.requires))

pub returns : goal.returns
returns c =
    let t = c.args.c in
    let h = c.args.handle in
    let a = within_decimal 2 h (omega arith) (rw c.from.ensures at c.put_decimal-a.ensures) in
    let b = rw c.from-2.ensures at c.put_spaced-b.ensures in
    let e = rw c.from-3.ensures at c.put_spaced.ensures in
    let p = within_first 2 t.k (omega arith) a b in
    let q =
    within_spaced (decimal h) (t.k ∷ []) 9 t.anchor (omega arith) p c.put_spaced-d.ensures
    in
    within_spaced (decimal h) (t.k ∷ t.anchor ∷ []) 4 t.length (omega arith) q e
