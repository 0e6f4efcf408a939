use Rattle.std.proofs.Common.{◌∙◌}
use Rattle.text.proofs.Opening.{same_tested}
use Rattle.text.proofs.reading.is_word.Goals as goal

pub returns : goal.returns
returns c = c.eq.ensures ∙ same_tested c.args.line.now c.args.word.now
