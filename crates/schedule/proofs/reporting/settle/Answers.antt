use mathlib.Core.Path.{◌≡◌, sym, ap, ap₂, ◌∙◌}
use mathlib.Core.Bool.{Bool}
use Prim.Native.Nat.{ℕ, ◌<◌}
use native.Mathlib.Nat.{le_trans}
use native.Mathlib.Omega.{arith}
use Rattle.rules.specs.Answers.{Answer}
use Rattle.rules.specs.Classes.{free}
use Rattle.rules.specs.TreeBytes.{tree_of}
use Rattle.rules.specs.Report.{room_to_grow}
use Rattle.calls.proofs.MeterLaws.{change_kept, change_shrunk, change_grown, change_tight}
use Rattle.blocks.proofs.ClassLaws.{within_depth}
use Rattle.schedule.proofs.reporting.settle.Goals as goal
use Rattle.schedule.proofs.reporting.settle.Goals.{After-is_free}

pub returns-then-aim-c : goal.returns-then-aim-c
returns-then-aim-c c =
    let a = c.args in
    let same = c.if-aim-c.true in
    let kept = ap (Answer.kept) same in
    record {
      answer = λ f e. kept ∙ sym (change_kept a.c.length a.aim (room_to_grow f a.c) same);
      tree = λ f e. e;
    }

pub returns-then-aim-c-2 : goal.returns-then-aim-c-2
returns-then-aim-c-2 c =
    let a = c.args in
    record {
      answer = λ f e. sym (change_shrunk a.c.length a.aim (room_to_grow f a.c) c.if-aim-c-2.true);
      tree = rw (c.from-k.ensures, c.from.ensures, c.from-length.ensures) at c.set_run.ensures;
    }

-- whether there is room, as the tree was asked
room : (c : After-is_free) (f : ℕ → Bool) → c.args.tree.now ≡ tree_of f → c.is_free.result ≡ room_to_grow f c.args.c
unfolding room_to_grow
room c f e =
    let a = c.args in
    let node = rw (c.from-k.ensures, c.from-length.ensures) at c.class_at.ensures.is in
    c.is_free.ensures f e ∙ ap₂ (free f) c.from-k.ensures node

pub set_run-requires-then-is_free : goal.set_run-requires-then-is_free
set_run-requires-then-is_free c =
    let n = c.requires.0 in
    let above : c.args.c.length < c.args.aim = omega arith in
    rw (c.from-k.ensures, c.from-length.ensures)
    (within_depth n.deep, n.anchored, omega arith, le_trans (omega (arith, c.requires.1)) n.whole, c.requires.2)

pub returns-then-is_free : goal.returns-then-is_free
returns-then-is_free c =
    let a = c.args in
    record {
      answer = λ f e. sym (change_grown a.c.length a.aim (room_to_grow f a.c) (omega arith) (sym (room (goal.at.returns-then-is_free c).After-is_free f e) ∙ c.if-is_free.true));
      tree = rw (c.from-k.ensures, c.from-length.ensures) at c.set_run-then-is_free.ensures;
    }

pub returns : goal.returns
returns c =
    let a = c.args in
    record {
      answer = λ f e. sym (change_tight a.c.length a.aim (room_to_grow f a.c) (omega arith) (sym (room (goal.at.returns c).After-is_free f e) ∙ c.if-is_free.false));
      tree = λ f e. e;
    }
