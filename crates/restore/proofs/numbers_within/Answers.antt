use Rattle.std.proofs.Common.{arith}
use Rattle.std.proofs.lemmas.Bool.Decides.{nat_tests}
use Rattle.rules.specs.Sound.{numbers_within}
use Rattle.restore.proofs.numbers_within.Goals as goal

pub returns-then-from-factor : goal.returns-then-from-factor
unfolding numbers_within
returns-then-from-factor c = grind (arith, nat_tests)

pub returns-else-from-factor : goal.returns-else-from-factor
unfolding numbers_within
returns-else-from-factor c = grind (arith, nat_tests)
