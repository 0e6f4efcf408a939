use mathlib.Core.Path.{refl}
use native.Mathlib.Omega.{arith}
use mathlib.Core.Path.{◌≡◌, sym, ◌∙◌}
use mathlib.Core.Bool.{false≢true}
use lib.ListN.{length}
use borrow.Author.Tests.{eqb-true, eq-eqb}
use Rattle.text.proofs.Putting.{puts_after, puts_length}
use Rattle.hexadecimal.proofs.HexLaws.{hex_length}
use Rattle.hexadecimal.proofs.Printing.{no_words, buffer_words_lem}
use Rattle.hexadecimal.proofs.lending.put_buffer.Goals as goal

-- `hexadecimal::lending::put_buffer` meets its contract: nothing, or a space and the bytes.
pub returns-then-is_empty : goal.returns-then-is_empty
returns-then-is_empty c =
    let a = c.args in
    record { puts = rw (no_words a.bytes.now (eqb-true _ 0 (sym c.if-is_empty.ensures))) (record { stored = refl; ends = omega arith }); room = omega arith }

pub put_hex-requires : goal.put_hex-requires
put_hex-requires c =
    let w = c.put_word-a.ensures in
    omega (arith, c.requires, w.ends, puts_length w)

pub returns : goal.returns
returns c =
    let a = c.args in
    let w = c.put_word-a.ensures in
    let q = c.put_hex.ensures in
    let z : length a.bytes.now ≡ 0 → ⊥ = λ e. false≢true (c.if-is_empty.ensures ∙ eq-eqb _ 0 e) in
    record {
      puts = rw (← buffer_words_lem a.bytes.now (omega arith)) (puts_after w q);
      room = omega (arith, w.ends, q.ends, hex_length a.bytes.now);
    }
