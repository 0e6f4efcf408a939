use Rattle.std.proofs.Common.{◌+◌, ◌<◌, arith, refl, length}
use lib.Seq.{take_all}
use lib.ListN.{length-set}
use Rattle.text.proofs.Putting.{puts_length}
use Rattle.hexadecimal.specs.Hex.{hex}
use Rattle.hexadecimal.proofs.HexLaws.{put_turn, hex_taken}
use Rattle.hexadecimal.proofs.put_hex.Goals as goal
use Rattle.hexadecimal.proofs.put_hex.Goals.{In-loop-b}

pub loop-b-init : goal.loop-b-init
unfolding hex
loop-b-init c = record { stored = refl; ends = omega arith }

-- two bytes more fit
room : (c : In-loop-b) → c.loop-b.next + 1 < length c.loop-b.out
room c =
    let p = c.loop-b.invariant in
    omega (arith, c.requires, p.ends, puts_length p, hex_taken c.args.bytes.now c.loop-b.b-index (omega arith))

pub bounds-out-next : goal.bounds-out-next
bounds-out-next c = let r = room (goal.at.bounds-out-next c).In-loop-b in omega arith

pub overflow_add-out : goal.overflow_add-out
overflow_add-out c = let r = room (goal.at.overflow_add-out c).In-loop-b in omega arith

pub bounds-out-next-in-loop-b : goal.bounds-out-next-in-loop-b
bounds-out-next-in-loop-b c = let r = room (goal.at.bounds-out-next-in-loop-b c).In-loop-b in simp length-set r

pub overflow_add-next : goal.overflow_add-next
overflow_add-next c = let r = room (goal.at.overflow_add-next c).In-loop-b in omega arith

pub loop-b-preserved : goal.loop-b-preserved
loop-b-preserved c =
    let l = c.loop-b in
    let a = c.args in
    let t = put_turn a.out.now l.out a.bytes.now a.at l.next l.b-index (omega arith) l.invariant in
    rw (c.hex_digit.ensures, c.hex_digit-in-loop-b.ensures) t

pub returns : goal.returns
returns c =
    let l = c.loop-b in
    let bs = c.args.bytes.now in
    rw (take_all l.b-index bs (omega arith)) at l.invariant
