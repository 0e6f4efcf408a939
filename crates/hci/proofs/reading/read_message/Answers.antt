use mathlib.Core.Path.{sym, ap, ◌∙◌}
use Rattle.messages.proofs.ReadLaws.{read_wrong, read_allowed, read_forbidden}
use Rattle.std.specs.Prelude.{Option, Some, None, Result, Ok, Err}
use Rattle.std.specs.Option.{ok_or}
use Rattle.std.specs.Result.{IsErrAnd}
use mathlib.Core.Path.{◌≡◌, refl}
use mathlib.Core.Option.{none}
use Rattle.rules.specs.declared.Message.{Message}
use Rattle.rules.specs.declared.Refusal.{Refusal}
use Rattle.rules.specs.declared.Refusal.TheVariants.{MessageWrong}
use Rattle.rules.specs.Answers.{refused, of_reading}
use Rattle.rules.specs.Refusals.{number}
use Rattle.hci.specs.Promises.{of_found}
use Rattle.hci.proofs.reading.read_message.Goals as goal

-- Where no message was found, 16 goes back.
none_found : (o : Option Message) (r : Result Message Refusal) {e : Refusal}
    → ok_or o MessageWrong ≡ Err e → IsErrAnd r (λ x. x ≡ e)
    → (of_found o ≡ none) × (of_reading r ≡ refused 16)
none_found None (Err x) p q =
    let same : x ≡ MessageWrong = cc in
    (refl, ap (λ (w : Refusal). refused (number w)) same)
none_found None (Ok m) p q = absurd q
none_found (Some m) r p q = cc

pub returns-in_err-message : goal.returns-in_err-message
returns-in_err-message c =
    let found = none_found c.message_in.result c.from_residual.result
    (sym c.ok_or.ensures.value ∙ c.in_err-message.was) c.from_residual.ensures.1 in
    found.1 ∙ sym (read_wrong _ (sym c.message_in.ensures ∙ found.0))

pub returns-then-not-is_allowed : goal.returns-then-not-is_allowed
returns-then-not-is_allowed c =
    sym (read_forbidden _ c.in_ok-message.message
    (sym c.message_in.ensures ∙ ap of_found c.in_ok-message.ensures.ok_part)
    (sym c.is_allowed.ensures ∙ c.if-not-is_allowed.true))

pub returns : goal.returns
returns c =
    sym (read_allowed _ c.in_ok-message.message
    (sym c.message_in.ensures ∙ ap of_found c.in_ok-message.ensures.ok_part)
    (sym c.is_allowed.ensures ∙ c.if-not-is_allowed.false))
