use Rattle.std.proofs.Common.{arith, ◌≡◌, ◌+◌, List, ℕ}
use mathlib.Core.Path.{subst}
use Rattle.std.specs.Prelude.{Result}
use Rattle.rules.specs.declared.Schedule.{Schedule}
use Rattle.restore.specs.Promises.{Restores}
use Rattle.std.proofs.lemmas.Result.{err_from_is_err_and}
use lib.ListN.{length}
use Rattle.rules.specs.TreeBytes.{tree_bytes}
use Rattle.images.proofs.LoadLaws.{load_9}
use Rattle.restore.proofs.Calls.{checked_sound}
use Rattle.image.proofs.Loads.{refused_records, owned_twice_lem, tree_last, differs, accepted}
use Rattle.image.proofs.loading.read_image.Goals as goal
use Rattle.image.proofs.loading.read_image.Goals.{In-Ok}

-- `image::read_image` meets its contract: each exit is one check, after those before it.
pub returns-in_err-n : goal.returns-in_err-n
returns-in_err-n c s =
    let p = err_from_is_err_and c.from_residual.result c.from_residual.ensures.1 in
    let wrong = c.in_err-n.ensures in
    rw (p.1, p.2, wrong.0) (load_9 s c.args.bytes.now wrong.1)

pub returns-in_err-check_records : goal.returns-in_err-check_records
returns-in_err-check_records c s =
    let q = c.from_residual-in_err-check_records in
    let p = err_from_is_err_and q.result q.ensures.1 in
    rw (p.1, p.2)
    (refused_records _ c.type_inv.bytes _ c.in_ok-n.ensures _ c.in_err-check_records.ensures s)

-- checks 10 and 18 are passed
pub restore-restored-requires : goal.restore-restored-requires
restore-restored-requires c =
    rw c.from-2.ensures (c.in_ok-n.ensures, checked_sound _ c.in_ok-check_records.ensures)

-- by the answer that it is
restored_as : {bytes : List ℕ} {new : Schedule} {a b : Result ℕ ℕ} → a ≡ b → Restores bytes new a → Restores bytes new b
restored_as {bytes} {new} e p = subst (Restores bytes new) e p

pub returns-in_default : goal.returns-in_default
returns-in_default c s =
    let sound = checked_sound _ c.in_ok-check_records.ensures in
    owned_twice_lem _ c.type_inv.bytes _ c.in_ok-n.ensures sound (restored_as c.in_default.is c.restore-restored.ensures).says.0 s

-- where the tree's bytes are
place : (c : In-Ok) → c.in-Ok.end + 4 + tree_bytes ≡ length c.args.bytes.now
place c =
    let sound = checked_sound _ c.in_ok-check_records.ensures in
    tree_last _ c.type_inv.bytes _ c.in_ok-n.ensures sound _ _ (restored_as c.in-Ok.is c.restore-restored.ensures)

pub overflow_add-end : goal.overflow_add-end
overflow_add-end c = omega (arith, place c)

pub slice_bounds-ne-count : goal.slice_bounds-ne-count
slice_bounds-ne-count c = omega (arith, place c)

pub slice_bounds-ne-start : goal.slice_bounds-ne-start
slice_bounds-ne-start c = omega (arith, place c)

pub returns-then-ne : goal.returns-then-ne
returns-then-ne c =
    let sound = checked_sound _ c.in_ok-check_records.ensures in
    differs _ c.type_inv.bytes _ c.in_ok-n.ensures sound _ _ (restored_as c.in-Ok.is c.restore-restored.ensures) c.if-ne.ensures

pub returns : goal.returns
returns c =
    let sound = checked_sound _ c.in_ok-check_records.ensures in
    accepted _ c.type_inv.bytes _ c.in_ok-n.ensures sound _ _ (restored_as c.in-Ok.is c.restore-restored.ensures) c.if-ne.ensures
