use Rattle.rules.specs.Words.{words_of}
use Rattle.text.proofs.writing.put_refused.Goals as goal

pub returns : goal.returns
unfolding words_of
returns c = rw c.refusal_number.ensures at c.put_count.ensures
