use Rattle.std.proofs.Common.{arith}
use mathlib.Core.Path.{◌≡◌, refl, sym, ap, ◌∙◌}
use mathlib.Core.Bool.{false, ◌||◌}
use Prim.Native.Nat.{◌<◌}
use lib.Dec.{ltb}
use lib.ListN.{length}
use Rattle.rules.specs.declared.Connection.{Connection}
use Rattle.rules.specs.Ownership.{largest_k}
use Rattle.rules.specs.Sound.{numbers_within}
use Rattle.rules.specs.Load.{largest_record_k}
use Rattle.rules.specs.Fields.{handle_in, connection_in}
use Rattle.images.proofs.PieceLaws.{nth}
use Rattle.restore.specs.LoadSteps.{of_soundness}
use Rattle.restore.specs.Promises.{records}
use Rattle.restore.proofs.Records.{as_many, listed, payload_is, tested_none, tested_above, tested_falls, tested_fails, tested_more, tested_all, said_above, said_within}
use Rattle.restore.proofs.check_records.Goals as goal
use Rattle.restore.proofs.check_records.Goals.{In-loop-record, After-connection_in-c, then-h-via-then-h, then-h-via-else-h+then-h-least, then-h-via-else-h+else-h-least+then-not-numbers_within, then-c-gt-LARGEST_K, else-c-gt-LARGEST_K}

pub loop-record-init : goal.loop-record-init
loop-record-init c = (false, refl, tested_none (records c.args.bytes.now))

-- the record is one of them; its handle and its connection
one : (c : In-loop-record) → c.loop-record.record-index < length (records c.args.bytes.now)
one c =
    let all = c.connection_records-record-items in
    listed _ _ c.requires c.type_inv.bytes all.result.now all.ensures _ c.loop-record-test.true

handle_read : (c : After-connection_in-c)
    → c.handle_in-h.result ≡ handle_in (nth (records c.args.bytes.now) c.loop-record.record-index)
handle_read c =
    let all = c.connection_records-record-items in
    c.handle_in-h.ensures _
    (sym (payload_is _ _ c.requires c.type_inv.bytes _ all.ensures _ c.loop-record-test.true _))

connection_read : (c : After-connection_in-c)
    → c.connection_in-c.result
    ≡ connection_in (nth (records c.args.bytes.now) c.loop-record.record-index)
connection_read c =
    let all = c.connection_records-record-items in
    c.connection_in-c.ensures _
    (sym (payload_is _ _ c.requires c.type_inv.bytes _ all.ensures _ c.loop-record-test.true _))

pub returns-then-h : goal.returns-then-h
returns-then-h c =
    let l = c.loop-record in
    let rs = records c.args.bytes.now in
    let seen = l.invariant in
    let at = goal.at.returns-then-h c in
    let here = one at.In-loop-record in
    let after = at.After-connection_in-c in
    let h = handle_read after in
    let read = ap (numbers_within largest_record_k) (connection_read after) in
    elim c.then-h.branch [
      | then-h-via-then-h w ↦
          tested_above rs l.record-index l.least _ seen.0 here seen.2 h w.if-h.true
      | then-h-via-else-h+then-h-least w ↦
          tested_falls rs l.record-index l.least _ seen.0 here seen.2 h w.if-h-least.true
      | then-h-via-else-h+else-h-least+then-not-numbers_within w ↦
          let said = sym (w.numbers_within.ensures ∙ read) ∙ w.if-not-numbers_within.true in
          tested_fails rs l.record-index l.least _ seen.0 here seen.2 h said
    ]

pub loop-record-preserved : goal.loop-record-preserved
loop-record-preserved c =
    let l = c.loop-record in
    let rs = records c.args.bytes.now in
    let seen = l.invariant in
    let k = c.connection_in-c.result.k in
    let at = goal.at.loop-record-preserved c in
    let here = one at.In-loop-record in
    let after = at.After-connection_in-c in
    let h = handle_read after in
    let read = connection_read after in
    let number = sym (c.numbers_within.ensures ∙ ap (numbers_within largest_record_k) read) in
    let said = number ∙ c.if-not-numbers_within.false in (
      seen.0 || ltb largest_k k,
      elim c.if-c-gt-LARGEST_K.branch [
        | then-c-gt-LARGEST_K w ↦
            w.answer-is ∙ said_above seen.0 k w.if-c-gt-LARGEST_K.true
        | else-c-gt-LARGEST_K w ↦
            w.answer-is ∙ seen.1 ∙ said_within seen.0 k (omega (arith, w.if-c-gt-LARGEST_K.false))
      ],
      tested_more rs l.record-index l.least _ seen.0 here seen.2 h (omega arith) (omega arith) said
          k (ap (λ (x : Connection). x.k) read),
    )

pub returns : goal.returns
returns c =
    let l = c.loop-record in
    let seen = l.invariant in
    let all = c.connection_records-record-items in
    let long = as_many _ _ c.requires c.type_inv.bytes _ all.ensures in
    ap of_soundness seen.1
    ∙ tested_all _ l.record-index l.least seen.0
    (omega (arith, long, c.loop-record-test.false)) seen.2
