use mathlib.Core.Path.{◌≡◌}
use mathlib.Core.Bool.{Bool}
use Rattle.restore.specs.Promises.{records}
use Rattle.restore.proofs.Records.{Tested, answer_of}
use Rattle.restore.proofs.check_records.Given as goal

-- The invariant: what the checks say is what they say of the records that are left, above `least`,
-- with what was seen of k, which is the answer so far.
abbrev pub invariant-loop-record : goal.invariant-loop-record
invariant-loop-record l =
    (illegal : Bool)
    × (l.answer ≡ answer_of illegal)
    × Tested (records l.bytes) l.record-index l.least illegal
