use Rattle.std.proofs.Common.{◌<◌, ◌≡◌, arith, [], length, slice_index, take}
use native.Mathlib.Numerals.{add-one}
use lib.Seq.{take-suc, take_all}
use Rattle.rules.specs.Words.{spaced}
use Rattle.text.proofs.Putting.{puts_nothing, puts_length, number_room, within_spaced}
use Rattle.text.proofs.writing.put_row.Goals as goal

pub loop-n-init : goal.loop-n-init
unfolding spaced
loop-n-init c = record { puts = puts_nothing c.args.out.now c.args.at; room = omega arith }

pub put_spaced-next-requires : goal.put_spaced-next-requires
put_spaced-next-requires c =
    let p = c.loop-n.invariant in
    let n = slice_index c.args.numbers.now c.loop-n.n-index in
    omega (arith, p.room, puts_length p.puts, number_room 9 n (omega arith))

pub loop-n-preserved : goal.loop-n-preserved
loop-n-preserved c =
    let l = c.loop-n in
    let i = l.n-index in
    let ns = c.args.numbers.now in
    let h : i < length ns = omega arith in
    let p = within_spaced [] (take i ns) 9 (slice_index ns i) (omega (arith, c.type_inv.numbers i)) l.invariant c.put_spaced-next.ensures in
    record { puts = rw (add-one i, take-suc ns i 0 h) p.puts; room = omega (arith, p.room) }

pub returns : goal.returns
returns c =
    let l = c.loop-n in
    let ns = c.args.numbers.now in
    let t : take l.n-index ns ≡ ns = take_all l.n-index ns (omega arith) in
    record { puts = rw t at l.invariant.puts; room = omega (arith, l.invariant.room) }
