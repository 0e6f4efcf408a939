use Rattle.std.proofs.Common.{arith}
use Rattle.std.proofs.lemmas.Result.{err_from_is_err_and}
use mathlib.Core.Path.{refl}
use Rattle.frame.proofs.ReadLaws.{wrong_first, wrong_count, wrong_connections, wrong_last, wrong_end, right}
use Rattle.frame.proofs.framed.Goals as goal

-- `frame::framed` meets its contract: each exit is one reason, or the frame is whole.
pub returns-in_err-start : goal.returns-in_err-start
returns-in_err-start c =
    let p = err_from_is_err_and c.from_residual.result c.from_residual.ensures.1 in
    let none = c.in_err-start.ensures in
    rw (p.1, p.2, none.0) (refl, wrong_first _ c.type_inv.bytes none.1)

pub returns-then-n : goal.returns-then-n
returns-then-n c =
    let first = c.in_ok-start.ensures in
    (refl, wrong_count _ c.type_inv.bytes _ _ first c.number-n.ensures c.if-n.true)

pub returns-in_err-end : goal.returns-in_err-end
returns-in_err-end c =
    let q = c.from_residual-in_err-end in
    let p = err_from_is_err_and q.result q.ensures.1 in
    let first = c.in_ok-start.ensures in
    let none = c.in_err-end.ensures in
    rw (p.1, p.2, none.0)
    (refl, wrong_connections _ c.type_inv.bytes _ _ first c.number-n.ensures none.1)

pub returns-in_err-over : goal.returns-in_err-over
returns-in_err-over c =
    let q = c.from_residual-in_err-over in
    let p = err_from_is_err_and q.result q.ensures.1 in
    let first = c.in_ok-start.ensures in
    let each = c.in_ok-end.ensures.0 in
    let none = c.in_err-over.ensures in
    rw (p.1, p.2, none.0)
    (refl, wrong_last _ c.type_inv.bytes _ _ first c.number-n.ensures _ each none.1)

pub returns-then-over-bytes : goal.returns-then-over-bytes
returns-then-over-bytes c =
    let first = c.in_ok-start.ensures in
    let each = c.in_ok-end.ensures.0 in
    let last = c.in_ok-over.ensures in
    let more = c.if-over-bytes.true in
    (refl, wrong_end _ c.type_inv.bytes _ _ first c.number-n.ensures _ each _ last more)

pub returns : goal.returns
returns c =
    let first = c.in_ok-start.ensures in
    let each = c.in_ok-end.ensures.0 in
    let last = c.in_ok-over.ensures in
    let whole = c.if-over-bytes.false in
    right _ c.type_inv.bytes _ _ first c.number-n.ensures _ each _ last (omega arith) whole
