use native.Mathlib.Omega.{arith}
use Rattle.rules.specs.Text.{text}
use Rattle.text.proofs.Opening.{opens_long}
use Rattle.lists.proofs.AskedLaws.{says_read, asks_right}
use Rattle.lists.proofs.reporting.asked_of.Goals as goal

-- A row within the bounds is read, or a reason is found that there is none.
pub read_row-requires : goal.read_row-requires
read_row-requires c = opens_long c.args.line.now (text "reports") c.requires.0

pub returns-then-count-eq0 : goal.returns-then-count-eq0
returns-then-count-eq0 c entries numbers a =
    let r = says_read (text "reports") c.args.line.now c.in_ok-count.ensures a.says in
    omega (arith, r, a.paired, c.if-count-eq0.true)

pub returns-then-count-gt-LONGEST_ROW : goal.returns-then-count-gt-LONGEST_ROW
returns-then-count-gt-LONGEST_ROW c entries numbers a =
    let r = says_read (text "reports") c.args.line.now c.in_ok-count.ensures a.says in
    omega (arith, r, a.listed, c.if-count-gt-LONGEST_ROW.true)

pub returns-then-entries-gt-MOST_ENTRIES : goal.returns-then-entries-gt-MOST_ENTRIES
returns-then-entries-gt-MOST_ENTRIES c entries numbers a =
    let r = says_read (text "reports") c.args.line.now c.in_ok-count.ensures a.says in
    omega (arith, r, a.few, c.if-entries-gt-MOST_ENTRIES.true)

pub returns : goal.returns
returns c =
    asks_right c.args.line.now c.args.numbers.now c.read_row.new.numbers c.in_ok-count.count
    c.requires.0 c.in_ok-count.ensures c.if-count-eq0.false c.if-count-gt-LONGEST_ROW.false
    c.if-entries-gt-MOST_ENTRIES.false
