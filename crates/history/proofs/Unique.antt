-- Each public call has one outcome.
use Rattle.run.proofs.Calls.{starts_unique}
use Rattle.schedule.proofs.Calls.{admit_unique, drop_unique, report_unique}
use Rattle.reports.proofs.Calls.{report_all_unique}
use Rattle.questions.proofs.Asked.{owner_unique, anchor_unique}
use Rattle.image.proofs.Calls.{save_unique, load_unique}
use Rattle.tidy.proofs.Calls.{tidy_unique}
use Rattle.hci.proofs.Calls.{read_unique, write_unique}
use Rattle.command.proofs.Calls.{run_unique, obey_unique}
use Rattle.history.specs.OneOutcome.{OneOutcome}

pub one_outcome : OneOutcome
one_outcome =
    record {
      fresh = starts_unique;
      admit = admit_unique;
      drop = drop_unique;
      report = report_unique;
      report_all = report_all_unique;
      owner = owner_unique;
      anchor = anchor_unique;
      save = save_unique;
      load = load_unique;
      tidy = tidy_unique;
      read_message = read_unique;
      write_message = write_unique;
      run = λ input. run_unique;
      obey = obey_unique;
    }
