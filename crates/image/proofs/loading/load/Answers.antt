use mathlib.Core.Path.{sym, ◌∙◌}
use Rattle.image.proofs.Loads.{loads_read}
use Rattle.image.proofs.loading.load.Goals as goal

pub returns-then-is_ok : goal.returns-then-is_ok
returns-then-is_ok c =
    let read = c.read_image-answer in
    rw (sym c.is_ok.ensures.value ∙ c.if-is_ok.true) at
    (loads_read c.args.s c.requires c.args.bytes.now c.type_inv.bytes read.new.new read.result read.ensures)

pub returns-else-is_ok : goal.returns-else-is_ok
returns-else-is_ok c =
    let read = c.read_image-answer in
    rw (sym c.is_ok.ensures.value ∙ c.if-is_ok.false) at
    (loads_read c.args.s c.requires c.args.bytes.now c.type_inv.bytes read.new.new read.result read.ensures)
