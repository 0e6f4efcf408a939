use Rattle.std.proofs.Common.{◌*◌, take}
use Rattle.rules.specs.Words.{spaced}
use Rattle.text.specs.Promises.{PutsWithin}
use Rattle.text.proofs.writing.put_row.Given as goal

-- The numbers before n are put.
abbrev pub invariant-loop-n : goal.invariant-loop-n
invariant-loop-n l = PutsWithin (11 * l.n-index) l.initial.out l.at (spaced (take l.n-index l.numbers)) l.out l.next
