use mathlib.Core.Path.{sym, ◌∙◌}
use native.Mathlib.Omega.{arith}
use Rattle.rules.specs.Text.{text}
use Rattle.text.proofs.Opening.{opens_long}
use Rattle.talk.proofs.asking.asked_of.Goals as goal

pub bytes_of-requires : goal.bytes_of-requires
bytes_of-requires c =
    let o = sym c.opens.ensures ∙ c.if-opens.true in
    (opens_long c.args.line.now (text "message ") o, omega (arith, c.requires))

pub default_of-requires : goal.default_of-requires
default_of-requires c =
    opens_long c.args.line.now (text "default") (sym c.opens-2.ensures ∙ c.if-opens-2.true)

pub request_of-requires : goal.request_of-requires
request_of-requires c =
    opens_long c.args.line.now (text "request") (sym c.opens-3.ensures ∙ c.if-opens-3.true)

pub change_of-requires : goal.change_of-requires
change_of-requires c =
    opens_long c.args.line.now (text "change") (sym c.opens-4.ensures ∙ c.if-opens-4.true)
