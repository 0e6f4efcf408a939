-- What `report_all` does with the reports that are gathered is what it does with all.
use Rattle.std.proofs.Common.{ℕ, take, ap, ◌∙◌}
use Rattle.reports.specs.Pairs.{reports_of}
use Rattle.reports.proofs.PairLaws.{gathered_all}
use Rattle.reports.proofs.pairing.report_pairs.Goals as goal

pub returns : goal.returns
returns c =
    gathered_all c.args.s c.args.numbers.now c.args.answers.now c.report_all.new.answers _ c.report_all.result
    (c.gather-reports.ensures ∙ ap (λ (n : ℕ). take n (reports_of c.args.numbers.now)) c.gathered-n.ensures) c.report_all.ensures
