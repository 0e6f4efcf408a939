use Rattle.std.proofs.Common.{◌≡◌, ◌+◌, ◌∙◌, arith, refl, sym, []}
use Rattle.std.proofs.lemmas.List.{nil_from_length}
use Rattle.rules.specs.Decimal.{value}
use Rattle.texts.proofs.DecimalLaws.{number_empty, number_leading, number_not_digit, number_large}
use Rattle.text.proofs.Digits.{value_turn, digits_turn, value_all}
use Rattle.text.proofs.reading.number.Goals as goal
use Rattle.text.proofs.reading.number.Goals.{in_default, in_default-2, in-empty, in-empty-2}

pub returns-then-matches : goal.returns-then-matches
returns-then-matches c =
    let ds = c.args.digits.now in
    elim c.if-matches-2.branch [
      | in_default w ↦ cc
      | in_default-2 w ↦ cc
      | in-empty w ↦ (let e : ds ≡ [] = nil_from_length ds (omega arith) in sym (rw e number_empty))
      | in-empty-2 w ↦ sym (number_leading ds (omega arith) (omega arith))
    ]

pub loop-byte-init : goal.loop-byte-init
unfolding value
loop-byte-init c = record { says = refl; small = omega arith; digits = λ j h. absurd (omega arith) }

pub returns-then-not-is_ascii_digit : goal.returns-then-not-is_ascii_digit
returns-then-not-is_ascii_digit c =
    let n = c.if-not-is_ascii_digit.ensures.cases in
    sym (number_not_digit c.args.digits.now c.loop-byte.byte-index (omega arith) (λ d. omega (arith, d, n)))

pub returns-in_err-checked_mul : goal.returns-in_err-checked_mul
returns-in_err-checked_mul c =
    let l = c.loop-byte in
    let ds = c.args.digits.now in
    let v = value_turn ds l.byte-index l.value (omega arith) l.invariant.says in
    c.from_residual.ensures ∙ sym (number_large ds (l.byte-index + 1) (omega (arith, v, c.in_err-checked_mul.ensures)))

pub returns-in_err-value : goal.returns-in_err-value
returns-in_err-value c =
    let l = c.loop-byte in
    let ds = c.args.digits.now in
    let v = value_turn ds l.byte-index l.value (omega arith) l.invariant.says in
    c.from_residual-in_err-value.ensures
    ∙ sym (number_large ds (l.byte-index + 1) (omega (arith, v, c.in_err-value.ensures, c.from.ensures, c.in_ok-checked_mul.ensures)))

pub loop-byte-preserved : goal.loop-byte-preserved
loop-byte-preserved c =
    let l = c.loop-byte in
    let ds = c.args.digits.now in
    let v = value_turn ds l.byte-index l.value (omega arith) l.invariant.says in
    let d = c.if-not-is_ascii_digit.ensures.cases in
    record {
      says = omega (arith, v, c.in_ok-value.ensures, c.from.ensures, c.in_ok-checked_mul.ensures);
      small = omega (arith, c.in_ok-value.ensures);
      digits = digits_turn ds l.byte-index l.value l.invariant.digits (omega (arith, d), omega (arith, d));
    }

pub returns : goal.returns
returns c =
    let l = c.loop-byte in
    let ds = c.args.digits.now in
    elim c.if-matches-2.branch [
      | in_default w ↦ value_all ds l.byte-index l.value (omega arith) (omega arith) (λ h. omega arith) l.invariant.digits l.invariant.says (omega arith)
      | in_default-2 w ↦ value_all ds l.byte-index l.value (omega arith) (omega arith) (λ h e. omega arith) l.invariant.digits l.invariant.says (omega arith)
      | in-empty w ↦ cc
      | in-empty-2 w ↦ cc
    ]
