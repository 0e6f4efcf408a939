use mathlib.Core.List.{[], ◌∷◌}
use native.Mathlib.Omega.{arith}
use Rattle.rules.specs.Text.{text}
use Rattle.rules.specs.Words.{words_of}
use Rattle.text.proofs.Putting.{within_all, room_spaced, within_first, within_spaced}
use Rattle.answer.proofs.put_placed.Goals as goal

pub put_spaced-b-requires : goal.put_spaced-b-requires
put_spaced-b-requires c =
    let p = within_all c.put_word-a.ensures in
    room_spaced 4 c.from.result (omega arith) p (omega (arith, c.requires))

pub put_spaced-c-requires : goal.put_spaced-c-requires
put_spaced-c-requires c =
    let f = c.args.p.factor in
    let b = rw c.from.ensures at c.put_spaced-b.ensures in
    let p = within_first 4 f (omega arith) (within_all c.put_word-a.ensures) b in
    room_spaced 4 c.from-2.result (omega arith) p (omega (arith, c.requires))

pub put_spaced-requires : goal.put_spaced-requires
put_spaced-requires c =
    let f = c.args.p.factor in
    let a = c.args.p.anchor in
    let b = rw c.from.ensures at c.put_spaced-b.ensures in
    let d = rw c.from-2.ensures at c.put_spaced-c.ensures in
    let p = within_first 4 f (omega arith) (within_all c.put_word-a.ensures) b in
    let q = within_spaced (text "ok") (f ∷ []) 4 a (omega arith) p d in
    room_spaced 4 c.from-3.result (omega arith) q (omega (arith, c.requires))

pub returns : goal.returns
unfolding words_of
returns c =
    let f = c.args.p.factor in
    let a = c.args.p.anchor in
    let l = c.args.p.length in
    let b = rw c.from.ensures at c.put_spaced-b.ensures in
    let d = rw c.from-2.ensures at c.put_spaced-c.ensures in
    let e = rw c.from-3.ensures at c.put_spaced.ensures in
    let p = within_first 4 f (omega arith) (within_all c.put_word-a.ensures) b in
    let q = within_spaced (text "ok") (f ∷ []) 4 a (omega arith) p d in
    let w = within_spaced (text "ok") (f ∷ a ∷ []) 4 l (omega arith) q e in
    record { puts = w.puts; room = omega (arith, w.room) }
