use mathlib.Core.List.{[], ◌∷◌}
use native.Mathlib.Omega.{arith}
use Rattle.text.proofs.Putting.{puts_after, puts_nothing, puts_length, within_all, room_spaced}
use Rattle.text.proofs.Putting.{within_first, within_spaced}
use Rattle.state.proofs.put_share.Goals as goal

pub put_spaced-a-requires : goal.put_spaced-a-requires
put_spaced-a-requires c =
    let n = within_all (puts_nothing c.args.out.now c.args.at) in
    room_spaced 4 c.from.result (omega arith) n (omega (arith, c.requires))

pub put_spaced-b-requires : goal.put_spaced-b-requires
put_spaced-b-requires c =
    let n = within_all (puts_nothing c.args.out.now c.args.at) in
    let p = within_first 4 c.from.result (omega arith) n c.put_spaced-a.ensures in
    room_spaced 4 c.from-2.result (omega arith) p (omega (arith, c.requires))

pub put_spaced-d-requires : goal.put_spaced-d-requires
put_spaced-d-requires c =
    let n = within_all (puts_nothing c.args.out.now c.args.at) in
    let f = c.from.result in
    let p = within_first 4 f (omega arith) n c.put_spaced-a.ensures in
    let g = c.from-2.result in
    let q = within_spaced [] (f ∷ []) 4 g (omega arith) p c.put_spaced-b.ensures in
    room_spaced 9 c.args.c.estimate (omega arith) q (omega (arith, c.requires))

pub put_word-requires : goal.put_word-requires
put_word-requires c =
    let n = within_all (puts_nothing c.args.out.now c.args.at) in
    let f = c.from.result in
    let p = within_first 4 f (omega arith) n c.put_spaced-a.ensures in
    let g = c.from-2.result in
    let q = within_spaced [] (f ∷ []) 4 g (omega arith) p c.put_spaced-b.ensures in
    let e = c.args.c.estimate in
    let r = within_spaced [] (f ∷ g ∷ []) 9 e (omega arith) q c.put_spaced-d.ensures in
    omega (arith, c.requires, r.room, puts_length r.puts)

pub returns : goal.returns
returns c =
    let t = c.args.c in
    let n = within_all (puts_nothing c.args.out.now c.args.at) in
    let a = rw c.from.ensures at c.put_spaced-a.ensures in
    let b = rw c.from-2.ensures at c.put_spaced-b.ensures in
    let d = c.put_spaced-d.ensures in
    let p = within_first 4 t.floor (omega arith) n a in
    let q = within_spaced [] (t.floor ∷ []) 4 t.ceiling (omega arith) p b in
    let r = within_spaced [] (t.floor ∷ t.ceiling ∷ []) 9 t.estimate (omega arith) q d in
    let w = c.put_word.ensures in
    record { puts = puts_after r.puts w; room = omega (arith, r.room, w.ends) }
