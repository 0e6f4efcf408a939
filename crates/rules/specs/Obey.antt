-- The call of each command.
use Rattle.std.specs.Prelude.{ℕ}
use Rattle.rules.specs.declared.Schedule.{Schedule}
use Rattle.rules.specs.declared.Command.{Command}
use Rattle.rules.specs.declared.Command.TheVariants.{Admit, AdmitRange, Drop, Report, Owner, Anchor}
use Rattle.rules.specs.Core.{least_interval}
use Rattle.rules.specs.Answers.{Outcome}
use Rattle.rules.specs.Admit.{admit}
use Rattle.rules.specs.Drop.{drop_handle}
use Rattle.rules.specs.Report.{report}
use Rattle.rules.specs.Owner.{owner_of}
use Rattle.rules.specs.Anchor.{anchor}

-- "The four-number command stays and means a smallest interval of 6".
abbrev pub single_from : ℕ
single_from = least_interval

-- A question leaves the schedule as it is.
unfoldable pub obey : Schedule → Command → Outcome
unfolding admit drop_handle report owner_of anchor
obey s (Admit handle interval floor ceiling) = admit s handle single_from interval floor ceiling
obey s (AdmitRange handle smallest largest floor ceiling) = admit s handle smallest largest floor ceiling
obey s (Drop handle) = drop_handle s handle
obey s (Report handle sample) = report s handle sample
obey s (Owner block) = record { answer = owner_of s block; schedule = s }
obey s (Anchor handle block) = record { answer = anchor s handle block; schedule = s }
