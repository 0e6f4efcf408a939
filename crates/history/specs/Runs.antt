-- Histories of calls, runs with what each call left, and systems: which runs can come of something.
use Rattle.std.specs.Prelude.{◌≡◌, List, [], ◌∷◌}
use Rattle.rules.specs.declared.Schedule.{Schedule}
use Rattle.rules.specs.Good.{fresh}
use Rattle.history.specs.Calls.{Request, Result, ruled_call, ruled}

-- "Start fresh": how a history begins, and the schedule that it begins with.
pub data Start : Type 0 where
  Fresh : Start

unfoldable pub start_of : Start → Schedule
unfolding fresh
start_of Fresh = fresh

-- ---- what was asked
-- "and make calls in whichever order, restores too"
pub data History : Type 0 where
  begin : Start → History
  next : History → Request → History

-- The schedule after a history, by the rule sheet's own step.
unfoldable pub after : History → Schedule
unfolding start_of ruled_call
after (begin start) = start_of start
after (next h r) = (ruled (after h) r).schedule

-- ---- what was asked, and what came of it
-- A call that was made: what was asked, and what it left.
pub record Made : Type 0 where
  pub request : Request
  pub result : Result

-- A run: a start with its schedule, then calls that were made.
pub data Run : Type 0 where
  begun : Start → Schedule → Run
  more : Run → Made → Run

-- "the schedule as it then stands"
abbrev pub now : Run → Schedule
now (begun start s) = s
now (more run m) = m.result.schedule

-- What was asked in a run.
abbrev pub history_of : Run → History
history_of (begun start s) = begin start
history_of (more run m) = next (history_of run) m.request

-- A run with calls made after it, the latest first.
abbrev pub followed : Run → List Made → Run
followed run [] = run
followed run (m ∷ later) = more (followed run later) m

-- ---- systems
-- Whatever makes calls, by the runs that can come of it.
abbrev pub System : Type 1
System = Run → Type 0

-- A function that takes every request in every schedule and gives a result;
abbrev pub StepFunction : Type 0
StepFunction = Schedule → Request → Result

-- its runs begin as named, and each result is its own.
abbrev pub By : StepFunction → System
By step (begun start s) = s ≡ start_of start
By step (more run m) = By step run × (m.result ≡ step (now run) m.request)
