use Rattle.command.proofs.Whole.{runs}
use Rattle.command.proofs.running.run.Goals as goal

pub returns : goal.returns
returns c =
    let p = c.answer_all-count in
    runs c.args.input.now p.new.out p.result p.ensures
