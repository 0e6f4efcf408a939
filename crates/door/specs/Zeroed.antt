-- A schedule of zeros: every number of it is 0, and no connection is live.
use Rattle.std.specs.Prelude.{false, replicate}
use Rattle.rules.specs.declared.Connection.{Connection}
use Rattle.rules.specs.declared.Schedule.{Schedule}
use Rattle.rules.specs.Ownership.{handles}
use Rattle.rules.specs.TreeBytes.{tree_bytes}

abbrev pub zeroed : Schedule
zeroed =
    let none : Connection = record { live = false; k = 0; length = 0; floor = 0; ceiling = 0; anchor = 0; estimate = 0 } in
    record { connections = replicate handles none; tree = record { bytes = replicate tree_bytes 0 } }
