use borrow.Author.Rules.{rules}
use Rattle.std.proofs.Common.{◌≡◌, arith, refl, sym, ap, ◌∙◌, List, ℕ}
use native.Mathlib.Nat.{div-one}
use lib.ListN.{length-set}
use lib.Seq.{sets, take_all}
use Rattle.rules.specs.Bytes.{little}
use Rattle.basics.proofs.StoreLaws.{part_stored}
use Rattle.codec.proofs.Stores.{put_turn}
use Rattle.codec.proofs.put_number.Goals as goal

pub loop-byte-init : goal.loop-byte-init
unfolding little
loop-byte-init c = record { written = refl; left = sym (div-one _); sized = search rules }

pub loop-byte-preserved : goal.loop-byte-preserved
loop-byte-preserved c =
    let l = c.loop-byte in
    let t = put_turn l.byte-items l.byte-index c.args.n l.rest (omega arith) l.invariant.written l.invariant.left in
    record { written = t.0; left = t.1; sized = length-set _ _ _ ∙ l.invariant.sized }

pub returns : goal.returns
returns c =
    let l = c.loop-byte in
    let a = c.args in
    let e : l.byte-index ≡ a.width = omega arith in
    let items : l.byte-items ≡ little a.width a.n = sym (take_all l.byte-index l.byte-items (omega arith)) ∙ l.invariant.written ∙ ap (λ (i : ℕ). little i a.n) e in
    part_stored a.at _ a.buffer.now l.byte-items (omega arith) (omega arith) ∙ ap (λ (x : List ℕ). sets a.buffer.now a.at x) items
