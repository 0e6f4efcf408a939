use mathlib.Core.Path.{sym}
use native.Mathlib.Omega.{arith}
use Rattle.text.proofs.Putting.{puts_length}
use Rattle.script.proofs.Saved.{Holds, holds, holds_digits, never_refused, image_line_lem}
use Rattle.script.proofs.performing.put_image.Goals as goal
use Rattle.script.proofs.performing.put_image.Goals.{In-Ok}

-- The buffer is large enough, and then holds the image.
pub returns-in_default : goal.returns-in_default
returns-in_default c =
    let e = c.in_default in
    absurd (never_refused c.args.s c.requires.0 c.args.bytes.now c.save.new.buffer c.requires.2
    e.field-0 e.ensures)

held : (c : In-Ok) → Holds c.args.s c.save.new.buffer c.in-Ok.size
held c =
    holds c.args.s c.requires.0 c.args.bytes.now c.save.new.buffer c.requires.2 c.in-Ok.size
    c.in-Ok.ensures

pub slice_bounds-put_hex-end : goal.slice_bounds-put_hex-end
slice_bounds-put_hex-end c = (held (goal.at.slice_bounds-put_hex-end c).In-Ok).within

pub slice_bounds-put_hex-end-2 : goal.slice_bounds-put_hex-end-2
slice_bounds-put_hex-end-2 c = sym (held (goal.at.slice_bounds-put_hex-end-2 c).In-Ok).long

pub put_hex-b-requires : goal.put_hex-b-requires
put_hex-b-requires c =
    let h = held (goal.at.put_hex-b-requires c).In-Ok in
    let w = c.put_word-a.ensures in
    omega (arith, h.long, h.small, w.ends, puts_length w, c.requires.1)

pub put_word-requires : goal.put_word-requires
put_word-requires c =
    let h = held (goal.at.put_word-requires c).In-Ok in
    let w = c.put_word-a.ensures in
    let q = c.put_hex-b.ensures in
    omega (
      arith,
      h.long,
      h.small,
      w.ends,
      puts_length w,
      q.ends,
      puts_length q,
      holds_digits h,
      c.requires.1,
    )

pub returns : goal.returns
returns c =
    let h = held (goal.at.returns c).In-Ok in
    let w = c.put_word-a.ensures in
    let q = c.put_hex-b.ensures in
    let e = c.put_word.ensures in
    record {
      puts = image_line_lem c.args.s h.is w q e;
      room = omega (arith, h.small, holds_digits h, w.ends, q.ends, e.ends);
    }
