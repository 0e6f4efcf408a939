use Rattle.std.proofs.Common.{arith, refl, ap, ◌∙◌, List, ℕ}
use lib.Seq.{sets}
use Rattle.basics.proofs.StoreLaws.{part_stored}
use Rattle.text.proofs.writing.put_word.Goals as goal

pub returns : goal.returns
returns c =
    let a = c.args in
    let copied = c.copy_from_slice.ensures in
    record {
      stored = part_stored a.at _ a.out.now c.copy_from_slice.new.self (omega (arith, copied.len)) (omega arith)
          ∙ ap (λ (x : List ℕ). sets a.out.now a.at x) copied.after;
      ends = refl;
    }
