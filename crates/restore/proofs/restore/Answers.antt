use Rattle.std.proofs.Common.{arith}
use mathlib.Core.Path.{◌≡◌, sym, ap, ◌∙◌}
use Prim.Native.Nat.{ℕ, suc, ◌+◌, ◌*◌, ◌<◌, ◌≤◌}
use Rattle.rules.specs.Records.{begin, pieces_of}
use lib.ListN.{length}
use Rattle.blocks.proofs.ClassLaws.{within_depth}
use Rattle.rules.specs.Sound.{Numbers}
use Rattle.rules.specs.Fields.{handle_in, connection_in}
use Rattle.images.proofs.PieceLaws.{nth}
use Rattle.tree.specs.Promises.{IsTree}
use Rattle.restore.specs.Promises.{records}
use Rattle.restore.proofs.Records.{long, as_many, listed, payload_is, ends_at, end_room}
use Rattle.restore.proofs.Turns.{taken_none, taken_tree, turn_numbers, turn_handle, turn_clash, turn_takes, restores_all, restores_not}
use Rattle.restore.proofs.restore.Goals as goal
use Rattle.restore.proofs.restore.Goals.{After-connection_in-c, After-from-h, In-loop-i}

pub loop-i-init : goal.loop-i-init
loop-i-init c = taken_none _ c.fresh-new.result c.fresh-new.ensures.is

-- record i is one of them
here : (c : In-loop-i) → c.loop-i.i < length (records c.args.bytes.now)
here c =
    let all = c.connection_records-record-items in
    listed _ _ c.requires.0 c.type_inv.bytes all.result.now all.ensures _ c.loop-i-test.true

-- its connection, with sound numbers, and the tree so far
connection_read : (c : After-connection_in-c)
    → c.connection_in-c.result
    ≡ connection_in (nth (records c.args.bytes.now) c.loop-i.i)
connection_read c =
    let all = c.connection_records-record-items in
    c.connection_in-c.ensures _
    (sym (payload_is _ _ c.requires.0 c.type_inv.bytes _ all.ensures _ c.loop-i-test.true _))

numbers_read : (c : After-connection_in-c)
    → c.loop-i.i < length (records c.args.bytes.now)
    → Numbers c.connection_in-c.result
numbers_read c l = turn_numbers _ c.loop-i.i l c.requires.1 _ (connection_read c)

treed : (c : After-connection_in-c) → IsTree c.loop-i.new.tree.bytes
treed c = taken_tree _ c.loop-i.i _ _ c.loop-i.invariant

pub run_free-requires : goal.run_free-requires
run_free-requires c =
    let at = goal.at.run_free-requires c in
    let read = at.After-connection_in-c in
    let n = numbers_read read (here at.In-loop-i) in
    rw (c.from-k.ensures, c.from-length.ensures)
    (within_depth n.deep, omega arith, omega arith, treed read)

pub set_run-requires : goal.set_run-requires
set_run-requires c =
    let at = goal.at.set_run-requires c in
    let read = at.After-connection_in-c in
    let n = numbers_read read (here at.In-loop-i) in
    rw (c.from-k.ensures, c.from-length.ensures)
    (within_depth n.deep, omega arith, omega arith, omega arith, treed read)

-- its handle
handle_read : (c : After-from-h)
    → c.from-h.result ≡ handle_in (nth (records c.args.bytes.now) c.loop-i.i)
handle_read c =
    let all = c.connection_records-record-items in
    c.from-h.ensures
    ∙ c.handle_in.ensures _
    (sym (payload_is _ _ c.requires.0 c.type_inv.bytes _ all.ensures _ c.loop-i-test.true _))

pub bounds-new-h : goal.bounds-new-h
bounds-new-h c =
    let at = goal.at.bounds-new-h c in
    let read = connection_read at.After-connection_in-c in
    let one = here at.In-loop-i in
    let small = turn_handle _ c.loop-i.i one c.requires.1 _ read in
    omega (arith, handle_read at.After-from-h, small)

pub loop-i-preserved : goal.loop-i-preserved
loop-i-preserved c =
    let l = c.loop-i in
    let at = goal.at.loop-i-preserved c in
    let free = rw (c.from-k.ensures, c.from-length.ensures) at c.run_free.ensures in
    let set = rw (c.from-k.ensures, c.from-length.ensures) at c.set_run.ensures in
    turn_takes _ l.i (here at.In-loop-i) c.requires.1
    _ (connection_read at.After-connection_in-c) _ _ l.invariant _ _ (handle_read at.After-from-h)
    (λ g e. sym c.if-not-run_free.false ∙ free g e) set

pub returns-then-not-run_free : goal.returns-then-not-run_free
returns-then-not-run_free c =
    let l = c.loop-i in
    let at = goal.at.returns-then-not-run_free c in
    let one = here at.In-loop-i in
    let read = connection_read at.After-connection_in-c in
    let free = rw (c.from-k.ensures, c.from-length.ensures) at c.run_free.ensures in
    let frame = c.requires.0 in
    let bytes = c.type_inv.bytes in
    let ends = ends_at _ _ frame bytes l.i (omega (arith, one, long _ _ frame bytes)) in
    restores_not _ l.i l.new l.invariant one c.requires.1
    (turn_clash _ l.i one c.requires.1 _ read
    _ _ l.invariant (λ g e. sym c.if-not-run_free.true ∙ free g e)) _ (sym ends)

-- record i is within the bytes, and so is where it begins
within : (c : In-loop-i) → 6 + c.loop-i.i * 18 ≤ length c.args.bytes.now
within c =
    let frame = c.requires.0 in
    let bytes = c.type_inv.bytes in
    omega (arith, here c, long _ _ frame bytes, end_room _ _ frame bytes)

pub overflow_mul-result : goal.overflow_mul-result
overflow_mul-result c =
    omega (arith, within (goal.at.overflow_mul-result c).In-loop-i)

pub overflow_add-result : goal.overflow_add-result
overflow_add-result c =
    omega (arith, within (goal.at.overflow_add-result c).In-loop-i)

pub overflow_mul-result-2 : goal.overflow_mul-result-2
overflow_mul-result-2 c = omega (arith, end_room _ _ c.requires.0 c.type_inv.bytes)

pub overflow_add-result-2 : goal.overflow_add-result-2
overflow_add-result-2 c = omega (arith, end_room _ _ c.requires.0 c.type_inv.bytes)

pub returns : goal.returns
returns c =
    let l = c.loop-i in
    let frame = c.requires.0 in
    let bytes = c.type_inv.bytes in
    let all = long _ _ frame bytes in
    let listed = as_many _ _ frame bytes _ c.connection_records-record-items.ensures in
    let e : l.i ≡ c.args.n = omega (arith, all, listed, c.loop-i-test.false) in
    let ends = ends_at _ _ frame bytes c.args.n (omega arith) in
    restores_all _ l.i l.new l.invariant _
    (sym (ap (λ (k : ℕ). begin (pieces_of c.args.bytes.now) (suc k)) e ∙ ends)) (e ∙ sym all)
