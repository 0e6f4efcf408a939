use Rattle.rules.specs.Text.{text}
use Rattle.text.proofs.Opening.{opens_long}
use Rattle.bench.proofs.perform_singly.Goals as goal

pub read_row-requires : goal.read_row-requires
read_row-requires g c = opens_long c.args.line.now (text "singly") c.requires.1
