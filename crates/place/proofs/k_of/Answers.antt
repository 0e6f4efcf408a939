use native.Mathlib.Omega.{arith}
use Rattle.place.proofs.StepLaws.{interval_gives, interval_most, interval_below, interval_above}
use Rattle.place.proofs.k_of.Goals as goal

-- `place::k_of` meets its contract: one law over k, a line for each arm, and the largest k to the end.
pub returns-in-6-to-11 : goal.returns-in-6-to-11
returns-in-6-to-11 c = interval_gives 0 _ (omega arith) (omega arith) (omega arith) (omega arith)

pub returns-in-12-to-23 : goal.returns-in-12-to-23
returns-in-12-to-23 c = interval_gives 1 _ (omega arith) (omega arith) (omega arith) (omega arith)

pub returns-in-24-to-47 : goal.returns-in-24-to-47
returns-in-24-to-47 c = interval_gives 2 _ (omega arith) (omega arith) (omega arith) (omega arith)

pub returns-in-48-to-95 : goal.returns-in-48-to-95
returns-in-48-to-95 c = interval_gives 3 _ (omega arith) (omega arith) (omega arith) (omega arith)

pub returns-in-96-to-191 : goal.returns-in-96-to-191
returns-in-96-to-191 c = interval_gives 4 _ (omega arith) (omega arith) (omega arith) (omega arith)

pub returns-in-192-to-383 : goal.returns-in-192-to-383
returns-in-192-to-383 c = interval_gives 5 _ (omega arith) (omega arith) (omega arith) (omega arith)

pub returns-in-384-to-767 : goal.returns-in-384-to-767
returns-in-384-to-767 c = interval_gives 6 _ (omega arith) (omega arith) (omega arith) (omega arith)

pub returns-in-768-to-1535 : goal.returns-in-768-to-1535
returns-in-768-to-1535 c = interval_gives 7 _ (omega arith) (omega arith) (omega arith) (omega arith)

pub returns-in-1536-to-3200 : goal.returns-in-1536-to-3200
returns-in-1536-to-3200 c = interval_most _ (omega arith) (omega arith)

pub returns-in_default : goal.returns-in_default
returns-in_default c = interval_below _ (omega arith)

pub returns-in_default-2 : goal.returns-in_default-2
returns-in_default-2 c = interval_above _ (omega arith)
