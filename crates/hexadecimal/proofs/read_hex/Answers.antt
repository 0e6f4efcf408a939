use Rattle.std.proofs.Common.{◌≡◌, ◌+◌, ◌*◌, ◌/◌, ◌<◌, ◌≤◌, ◌-◌, arith, refl, sym, ap, ◌∙◌, length, take, drop, List, [], ℕ}
use lib.ListN.{get_or, length-drop}
use lib.Seq.{take_all}
use native.Mathlib.Nat.{add-zero}
use borrow.Author.Tests.{eqb-true, eq-eqb}
use mathlib.Core.Bool.{false≢true}
use Rattle.std.specs.Simd.{first_chunks}
use Rattle.hexadecimal.proofs.HexReading.{wrong_size, digit_at, read_none, wrong_first, wrong_second, read_more}
use Rattle.hexadecimal.proofs.read_hex.Goals as goal
use Rattle.hexadecimal.proofs.read_hex.Goals.{In-loop-i, then-is_empty-via-then-is_empty, then-is_empty-via-else-is_empty+then-not-is_empty}

-- what is cut into pairs
whole : (line : List ℕ) (start : ℕ) → start ≤ length line → take (length line - start) (drop start line) ≡ drop start line
whole line start h = take_all _ _ (omega (arith, length-drop start line))

-- as many pairs as the digits have room for
room : (c : In-loop-i) → c.args.at + 2 * c.loop-i.i + 1 < length c.args.line.now
room c = omega (arith, c.as_chunks.ensures.front_len, ap (λ (x : List ℕ). length x) (whole c.args.line.now c.args.at c.requires.0), length-drop c.args.at c.args.line.now)

-- a digit of the pair at hand
digit : (c : In-loop-i) (j next : ℕ) → j < 2 → next ≡ c.args.at + 2 * c.loop-i.i + j
    → get_or (get_or c.as_chunks.result.0.now c.loop-i.i []) j 0 ≡ get_or c.args.line.now next 0
digit c j next h e =
    let w = whole c.args.line.now c.args.at c.requires.0 in
    ap (λ p. get_or (get_or p c.loop-i.i []) j 0) (c.as_chunks.ensures.front ∙ ap (λ (x : List ℕ). first_chunks 2 (length x / 2) x) w)
    ∙ digit_at c.args.line.now c.args.at _ c.loop-i.i j next (omega (arith, room c, length-drop c.args.at c.args.line.now)) h e

pub returns-then-is_empty : goal.returns-then-is_empty
returns-then-is_empty c =
    let w = ap (λ (x : List ℕ). length x) (whole c.args.line.now c.args.at c.requires.0) in
    wrong_size c.args.line.now c.args.at (λ n h e.
    elim c.then-is_empty.branch [
      | then-is_empty-via-then-is_empty b ↦ omega (arith, w, c.as_chunks.ensures.front_len, eqb-true _ 0 (sym b.if-is_empty.ensures))
      | then-is_empty-via-else-is_empty+then-not-is_empty b ↦
          false≢true (b.if-not-is_empty.ensures ∙ eq-eqb _ 0 (omega (arith, w, c.as_chunks.ensures.back_len)))
    ])

pub loop-i-init : goal.loop-i-init
loop-i-init c = rw add-zero (read_none c.args.line.now c.args.bytes.now c.args.at c.requires.0)

pub returns-in_err-nibble_of : goal.returns-in_err-nibble_of
returns-in_err-nibble_of c =
    let s = (goal.at.returns-in_err-nibble_of c).In-loop-i in
    rw c.from_residual.ensures
    (wrong_first c.loop-i.invariant (omega (arith, room s)) (λ d h e. c.in_err-nibble_of.ensures d h (digit s 0 _ (omega arith) (omega arith) ∙ e)))

pub returns-in_err-bytes : goal.returns-in_err-bytes
returns-in_err-bytes c =
    let s = (goal.at.returns-in_err-bytes c).In-loop-i in
    rw c.from_residual-in_err-bytes.ensures
    (wrong_second c.loop-i.invariant (omega (arith, room s)) (λ d h e. c.in_err-bytes.ensures d h (digit s 1 _ (omega arith) refl ∙ e)))

pub loop-i-preserved : goal.loop-i-preserved
loop-i-preserved c =
    let s = (goal.at.loop-i-preserved c).In-loop-i in
    let i = c.loop-i.i in
    let high = c.in_ok-nibble_of.ensures in
    let low = c.in_ok-bytes.ensures in
    let e : c.args.at + 2 * (i + 1) ≡ c.args.at + 2 * i + 2 = omega arith in
    rw e
    (read_more c.loop-i.invariant (omega (arith, room s)) (room s) (omega (arith, room s, c.loop-i.invariant.sized)) c.in_ok-nibble_of.field-0 c.in_ok-bytes.field-0 high.0 low.0
    (sym (digit s 0 _ (omega arith) (omega arith)) ∙ high.1) (sym (digit s 1 _ (omega arith) refl) ∙ low.1))
