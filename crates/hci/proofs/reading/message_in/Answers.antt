use mathlib.Core.Path.{sym, ap, ap₂, ◌∙◌}
use mathlib.Core.Option.{Option, some}
use native.Mathlib.Omega.{arith}
use Rattle.rules.specs.declared.Message.{Message}
use Rattle.rules.specs.declared.Subrates.{Subrates}
use Rattle.rules.specs.declared.SubrateChange.{SubrateChange}
use Rattle.rules.specs.declared.Message.TheVariants.{Default, Request, Change}
use Rattle.hci.proofs.Finding.{default_found, request_found, change_found}
use Rattle.hci.proofs.Finding.{default_missing, request_missing, change_missing, size_missing}
use Rattle.hci.proofs.reading.message_in.Goals as goal

pub returns-then-bytes-lt-HEAD_SIZE : goal.returns-then-bytes-lt-HEAD_SIZE
returns-then-bytes-lt-HEAD_SIZE c =
    size_missing _ c.type_inv.bytes (λ e. omega arith) (λ e. omega arith) (λ e. omega arith)

pub returns-in-13-eq663677 : goal.returns-in-13-eq663677
returns-in-13-eq663677 c =
    let n = c.in-13-eq663677 in
    ap (λ (v : Subrates). some (Default v)) c.subrates_at.ensures
    ∙ default_found _ c.type_inv.bytes n.is-0
    (sym c.number.ensures ∙ n.is-1)

pub returns-in-15-eq794750 : goal.returns-in-15-eq794750
returns-in-15-eq794750 c =
    let n = c.in-15-eq794750 in
    ap₂ {C = Option Message} (λ h v. some (Request h v))
    c.two_at.ensures c.subrates_at-in-15-eq794750.ensures
    ∙ request_found _ c.type_inv.bytes n.is-0
    (sym c.number.ensures ∙ n.is-1)

pub returns-in-14-eq2296894 : goal.returns-in-14-eq2296894
returns-in-14-eq2296894 c =
    let n = c.in-14-eq2296894 in
    ap (λ (e : SubrateChange). some (Change e)) c.change_at.ensures
    ∙ change_found _ c.type_inv.bytes n.is-0
    (sym c.number.ensures ∙ n.is-1)

pub returns-in_default : goal.returns-in_default
returns-in_default c =
    default_missing _ c.type_inv.bytes c.in_default.is-0
    (λ e. c.in_default.is-1.1 (c.number.ensures ∙ e))

pub returns-in_default-2 : goal.returns-in_default-2
returns-in_default-2 c =
    request_missing _ c.type_inv.bytes c.in_default.is-0
    (λ e. c.in_default.is-1.1 (c.number.ensures ∙ e))

pub returns-in_default-3 : goal.returns-in_default-3
returns-in_default-3 c =
    change_missing _ c.type_inv.bytes c.in_default.is-0
    (λ e. c.in_default.is-1.1 (c.number.ensures ∙ e))

pub returns-in_default-4 : goal.returns-in_default-4
returns-in_default-4 c =
    let f = c.in_default.is-0 in
    size_missing _ c.type_inv.bytes f.0.0.1 f.0.1 f.1
