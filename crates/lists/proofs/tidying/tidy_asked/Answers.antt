use borrow.Author.Rules.{rules}
use native.Mathlib.Omega.{arith}
use lib.ListN.{replicate}
use Rattle.rules.specs.Text.{text}
use Rattle.text.proofs.Opening.{opens_long}
use Rattle.lists.proofs.AskedLaws.{says_read, tidy_right}
use Rattle.lists.proofs.tidying.tidy_asked.Goals as goal
use Rattle.lists.proofs.tidying.tidy_asked.Goals.{then-count-eq0-via-then-count-eq0}
use Rattle.lists.proofs.tidying.tidy_asked.Goals.{then-count-eq0-via-else-count-eq0+then-n-gt-MOST_MOVES}

-- A number within the bound is read, or a reason is found that there is none.
pub read_row-requires : goal.read_row-requires
read_row-requires c = opens_long c.args.line.now (text "tidy") c.requires

pub returns-then-count-eq0 : goal.returns-then-count-eq0
returns-then-count-eq0 c n a =
    let r = says_read (text "tidy") c.args.line.now c.in_ok-count.ensures a.says in
    elim c.then-count-eq0.branch [
      | then-count-eq0-via-then-count-eq0 w ↦ omega (arith, r, w.if-count-eq0.true)
      | then-count-eq0-via-else-count-eq0+then-n-gt-MOST_MOVES w ↦
          omega (arith, r, a.few, w.if-n-gt-MOST_MOVES.true)
    ]

pub returns : goal.returns
returns c =
    tidy_right c.args.line.now (replicate 1 0) c.read_row.new.numbers c.in_ok-count.count
    c.requires (search rules) c.in_ok-count.ensures c.if-count-eq0.false c.if-n-gt-MOST_MOVES.false
