use mathlib.Core.Path.{sym, ap, ◌∙◌}
use mathlib.Core.Logic.{inl, inr}
use Prim.Native.Nat.{ℕ, ◌*◌, ◌^◌, ◌≤◌}
use native.Mathlib.Omega.{arith}
use lib.Pow.{pow_mono}
use Rattle.std.specs.Prelude.{Err}
use Rattle.std.proofs.lemmas.Result.{err_from_is_err_and}
use Rattle.rules.specs.declared.Schedule.{Schedule}
use Rattle.rules.specs.declared.Refusal.{Refusal}
use Rattle.rules.specs.Answers.{slots}
use Rattle.rules.specs.Anchor.{slots_to_anchor}
use Rattle.rules.specs.Sound.{Numbers}
use Rattle.blocks.proofs.ScheduleLaws.{good_sound}
use Rattle.blocks.proofs.ClassLaws.{within_depth}
use Rattle.calls.proofs.QuestionLaws.{anchor_1, anchor_3, anchor_ok}
use Rattle.run.specs.Finding.{Refuses}
use Rattle.questions.specs.Promises.{AnchorSays}
use Rattle.questions.proofs.anchor.Goals as goal
use Rattle.questions.proofs.anchor.Goals.{In_ok-c}

-- `questions::anchor` meets its contract.
refused : (s : Schedule) (h block : ℕ) (r : Refusal) → Refuses s h r → AnchorSays s h block (Err r)
refused s h block r (inl p) = rw p.1 (sym (anchor_1 s h block p.0))
refused s h block r (inr p) = rw p.2 (sym (anchor_3 s h block p.0 p.1))

pub returns-in_err-c : goal.returns-in_err-c
returns-in_err-c c =
    let p = err_from_is_err_and c.from_residual.result c.from_residual.ensures.1 in
    rw (p.1, p.2) (refused c.args.s c.args.handle c.args.block _ c.in_err-c.ensures)

-- the numbers of the live connection
numbers : (c : In_ok-c) → Numbers c.in_ok-c.c
numbers c =
    let l = c.in_ok-c.ensures in
    rw l.is ((good_sound c.args.s c.requires).numbers _ l.live)

pub minus_mod-requires : goal.minus_mod-requires
minus_mod-requires c =
    rw c.from.ensures (within_depth (numbers (goal.at.minus_mod-requires c).In_ok-c).deep)

pub overflow_mul-result : goal.overflow_mul-result
overflow_mul-result c =
    let n = numbers (goal.at.overflow_mul-result c).In_ok-c in
    let g : 2 ^ c.in_ok-c.c.k ≤ 512 = pow_mono (within_depth n.deep) in
    omega (arith, rw c.from.ensures at c.minus_mod.ensures.below)

pub returns : goal.returns
unfolding slots_to_anchor
returns c =
    let l = c.in_ok-c.ensures in
    let m = rw (c.from.ensures, l.is) at c.minus_mod.ensures in
    ap (λ (n : ℕ). slots (6 * n)) m.is
    ∙ sym (anchor_ok c.args.s _ _ l.bounded l.live)
