use Rattle.std.proofs.Common.{arith, refl, sym, ◌∙◌, ◌≤◌, length, replicate}
use lib.Seq.{length-take-le}
use Rattle.texts.specs.Row.{most_numbers}
use Rattle.text.proofs.Rows.{found_within}
use Rattle.line.proofs.Spoken.{says_named, says_wrong}
use Rattle.line.proofs.says.Goals as goal
use Rattle.line.proofs.says.Goals.{After-find-end}

-- the word lies within the line
within : (c : After-find-end) → c.find-end.result ≤ length c.args.line.now
within c = omega (arith, c.find-end.ensures, found_within 32 c.args.line.now 0 (omega arith))

pub read_row-requires : goal.read_row-requires
read_row-requires c = within (goal.at.read_row-requires c).After-find-end

pub returns-in_err-count : goal.returns-in_err-count
returns-in_err-count c =
    let f = c.find-end in
    let r = c.read_row in
    c.from_residual.ensures ∙ says_wrong c.args.line.now f.result (omega (arith, f.ensures)) (replicate most_numbers 0) r.new.numbers refl c.in_err-count.ensures

pub slice_bounds-named-end : goal.slice_bounds-named-end
slice_bounds-named-end c = sym (length-take-le _ _ (within (goal.at.slice_bounds-named-end c).After-find-end))

pub returns : goal.returns
returns c =
    let f = c.find-end in
    c.named.ensures
    ∙ says_named c.args.line.now f.result (omega (arith, f.ensures)) (replicate most_numbers 0) c.read_row.new.numbers c.in_ok-count.count c.in_ok-count.ensures
