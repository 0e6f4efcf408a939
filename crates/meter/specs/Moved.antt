-- What a moved meter is, and the most µs of a run.
use Rattle.std.specs.Prelude.{ℕ, ◌*◌}
use Rattle.rules.specs.declared.Meter.{Meter}
use Rattle.rules.specs.Time.{block_micros, list_blocks}
use Rattle.rules.specs.Meter.{moved, aimed}

-- No run has more µs: that of the whole list.
abbrev pub list_micros : ℕ
list_micros = list_blocks * block_micros

-- The meter moved by a sample: the new estimate, with the length that it aims at.
unfoldable pub moved_meter : Meter → ℕ → ℕ → ℕ → Meter
unfolding moved
moved_meter m sample floor ceiling =
    record { estimate = moved m.estimate sample; length = aimed m.estimate sample floor ceiling }
