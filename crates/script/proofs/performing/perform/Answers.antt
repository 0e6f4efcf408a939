use borrow.Author.Rules.{rules}
use mathlib.Core.Path.{sym, ap}
use native.Mathlib.Omega.{arith}
use lib.ListN.{take}
use lib.Seq.{length-take-le}
use Rattle.rules.specs.Text.{text}
use Rattle.rules.specs.Answers.{loaded}
use Rattle.rules.specs.Words.{words_of}
use Rattle.text.proofs.Putting.{within_as}
use Rattle.answer.proofs.Words.{counts_loaded, puts_converted}
use Rattle.order.proofs.Asked.{asked, inside}
use Rattle.script.specs.Performing.{saved_line, performed}
use Rattle.script.proofs.Acting.{acts_command, acts_fresh, acts_image, acts_save, acts_load}
use Rattle.script.proofs.Acting.{acts_state, acts_bad}
use Rattle.script.proofs.performing.perform.Goals as goal

pub returns-in-Some-Command : goal.returns-in-Some-Command
returns-in-Some-Command c =
    let w = c.in-Some-Command in
    acts_command w.command c.obey-done.result (asked w.ensures w.field-0-is) c.obey-done.ensures
    c.put_reply-count.ensures

pub returns-in-Some-Fresh : goal.returns-in-Some-Fresh
unfolding performed
returns-in-Some-Fresh c =
    acts_fresh c.fresh-schedule.result (asked c.in-Some-Fresh.ensures c.in-Some-Fresh.field-0-is)
    c.fresh-schedule.ensures c.put_word-count.ensures

pub returns-in-Some-Save : goal.returns-in-Some-Save
returns-in-Some-Save c =
    acts_image (asked c.in-Some-Save.ensures c.in-Some-Save.field-0-is) c.requires.0 c.put_image-count.ensures

pub returns-in-Some-SaveInto : goal.returns-in-Some-SaveInto
returns-in-Some-SaveInto c =
    let w = c.in-Some-SaveInto in
    let i = inside w.ensures w.field-0-is in
    let t = length-take-le w.size c.order_of.new.bytes (omega (arith, i, c.requires.2)) in
    acts_save w.size (asked w.ensures w.field-0-is) c.requires.0
    (within_as (ap (saved_line c.args.s) t) c.put_saved-count.ensures)

pub returns-in-Some-Load : goal.returns-in-Some-Load
unfolding words_of
returns-in-Some-Load c =
    let w = c.in-Some-Load in
    let d = c.load-done in
    let p =
    puts_converted loaded (text "loaded") counts_loaded d.result.answer c.map.result _
    (λ x r q. search rules) c.map.ensures.cases c.put_counted-a.ensures
    in
    acts_load (take w.n c.order_of.new.bytes) d.result (asked w.ensures w.field-0-is) d.ensures p
    c.put_word-count-in-Some-Load.ensures

pub returns-in-Some-State : goal.returns-in-Some-State
returns-in-Some-State c =
    acts_state (asked c.in-Some-State.ensures c.in-Some-State.field-0-is) c.requires.0 c.put_state-a.ensures
    c.put_word-count-in-Some-State.ensures

pub returns-in-None : goal.returns-in-None
returns-in-None c =
    acts_bad (sym c.in-None.ensures.is) c.requires.0
    c.put_word-count-in-None.ensures
