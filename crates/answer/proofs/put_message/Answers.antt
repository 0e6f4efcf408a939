use mathlib.Core.Path.{refl}
use mathlib.Core.List.{[], ◌∷◌}
use native.Mathlib.Omega.{arith}
use Rattle.rules.specs.declared.Message.TheVariants.{Default, Request, Change}
use Rattle.rules.specs.Text.{text}
use Rattle.rules.specs.Words.{spaced, words_of}
use Rattle.rules.specs.Messages.{subrate_values, change_values}
use Rattle.text.proofs.Putting.{within_all}
use Rattle.answer.proofs.Words.{row_words}
use Rattle.answer.proofs.put_message.Goals as goal

pub returns-in-Default : goal.returns-in-Default
unfolding words_of spaced
returns-in-Default c =
    let v = c.in-Default.v in
    row_words (text "default") [] (subrate_values v) _ c.args.message (Default v) c.in-Default.is
    refl c.subrate_values.ensures (within_all c.put_word-a.ensures) c.put_row.ensures (omega arith)

pub returns-in-Request : goal.returns-in-Request
unfolding words_of spaced
returns-in-Request c =
    let h = c.in-Request.handle in
    let v = c.in-Request.v in
    let p = rw c.from.ensures at c.put_count-a.ensures in
    row_words (text "request") (h ∷ []) (subrate_values v) _ c.args.message (Request h v)
    c.in-Request.is refl c.subrate_values-in-Request.ensures p c.put_row-in-Request.ensures
    (omega arith)

pub returns-in-Change : goal.returns-in-Change
unfolding words_of spaced
returns-in-Change c =
    let e = c.in-Change.e in
    let p = rw c.from-in-Change.ensures at c.put_count-a-in-Change.ensures in
    row_words (text "change") (e.status ∷ []) (change_values e) _ c.args.message (Change e)
    c.in-Change.is refl c.change_values.ensures p c.put_row-in-Change.ensures (omega arith)
