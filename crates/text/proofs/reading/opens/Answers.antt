use Rattle.std.proofs.Common.{◌∙◌, length, take}
use Rattle.text.proofs.Opening.{same_turned}
use Rattle.text.proofs.reading.opens.Goals as goal

pub returns : goal.returns
returns c = let w = c.args.word.now in c.starts_with.ensures.value ∙ same_turned (take (length w) c.args.line.now) w
