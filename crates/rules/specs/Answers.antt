-- What the rule sheet answers, and what each case of an answer's enum stands for.
use Rattle.std.specs.Prelude.{ℕ, List, Option, Some, None, Result, Ok, Err}
use Rattle.rules.specs.declared.Schedule.{Schedule}
use Rattle.rules.specs.declared.Refusal.{Refusal}
use Rattle.rules.specs.declared.Placed.{Placed}
use Rattle.rules.specs.declared.Adjusted.{Adjusted}
use Rattle.rules.specs.declared.Adjusted.TheVariants.{Kept, Grown, Shrunk, Tight}
use Rattle.rules.specs.declared.Message.{Message}
use Rattle.rules.specs.declared.Reply.{Reply}
use Rattle.rules.specs.declared.Reply.TheVariants.{Admission as ReplyAdmission, Dropping as ReplyDropping, Reporting as ReplyReporting, Ownership as ReplyOwnership, Distance as ReplyDistance}
use Rattle.rules.specs.declared.Done.{Done}
use Rattle.rules.specs.Refusals.{number}

-- The sheet's answers, with their numbers and values.
pub data Answer : Type 0 where
  refused : ℕ → Answer
  ok : ℕ → ℕ → ℕ → Answer
  dropped : Answer
  kept grown shrunk tight : ℕ → Answer
  owner : ℕ → Answer
  idle : Answer
  slots : ℕ → Answer
  saved : ℕ → Answer
  loaded : ℕ → Answer
  reported : ℕ → Answer
  message : Message → Answer
  wrote : ℕ → Answer
  tidied : ℕ → Answer

-- What a call leaves: its answer and the schedule afterwards.
pub record Outcome : Type 0 where
  pub answer : Answer
  pub schedule : Schedule

-- What a call leaves that fills a lent list of numbers: its answer, the schedule afterwards and every entry of the list.
pub record Listed : Type 0 where
  pub answer : Answer
  pub schedule : Schedule
  pub list : List ℕ

-- Its answer and the schedule, without the list.
abbrev pub without_list : Listed → Outcome
without_list o = record { answer = o.answer; schedule = o.schedule }

-- What a call leaves that writes into a lent buffer: its answer and every byte of the buffer. No schedule is touched.
pub record Written : Type 0 where
  pub answer : Answer
  pub buffer : List ℕ

-- "A refusal returns its number only; the schedule and the buffers are as they were before the call."
abbrev pub refusing : Schedule → ℕ → Outcome
refusing s n = record { answer = refused n; schedule = s }

-- A lent list is as it was, too.
abbrev pub refusing_list : Schedule → List ℕ → ℕ → Listed
refusing_list s list n = record { answer = refused n; schedule = s; list = list }

-- So is a lent buffer.
abbrev pub refusing_buffer : List ℕ → ℕ → Written
refusing_buffer buffer n = record { answer = refused n; buffer = buffer }

-- ---- the sheet's number and values for every case of every answer of the code
-- Of a call that may be refused: what its value says, or the refusal's number.
abbrev pub answered : {V : Type 0} → (V → Answer) → Result V Refusal → Answer
answered says (Ok v) = says v
answered says (Err r) = refused (number r)

abbrev pub placed : Placed → Answer
placed p = ok p.factor p.anchor p.length

abbrev pub adjusted : Adjusted → Answer
adjusted (Kept L) = kept L
adjusted (Grown L) = grown L
adjusted (Shrunk L) = shrunk L
adjusted (Tight L) = tight L

abbrev pub of_admission : Result Placed Refusal → Answer
of_admission = answered placed

abbrev pub of_dropping : Result Unit Refusal → Answer
of_dropping = answered (λ _. dropped)

abbrev pub of_reporting : Result Adjusted Refusal → Answer
of_reporting = answered adjusted

abbrev pub of_reporting_all : Result ℕ Refusal → Answer
of_reporting_all = answered reported

abbrev pub of_ownership : Option ℕ → Answer
of_ownership (Some h) = owner h
of_ownership None = idle

abbrev pub of_distance : Result ℕ Refusal → Answer
of_distance = answered slots

abbrev pub of_saving : Result ℕ Refusal → Answer
of_saving = answered saved

abbrev pub of_loading : Result ℕ Refusal → Answer
of_loading = answered loaded

abbrev pub of_reading : Result Message Refusal → Answer
of_reading = answered message

abbrev pub of_writing : Result ℕ Refusal → Answer
of_writing = answered wrote

abbrev pub of_tidying : Result ℕ Refusal → Answer
of_tidying = answered tidied

abbrev pub of_reply : Reply → Answer
of_reply (ReplyAdmission a) = of_admission a
of_reply (ReplyDropping a) = of_dropping a
of_reply (ReplyReporting a) = of_reporting a
of_reply (ReplyOwnership a) = of_ownership a
of_reply (ReplyDistance a) = of_distance a

-- ---- and with the schedule beside the answer, and with the lent list
abbrev pub outcome : {A : Type 0} → (A → Answer) → Done A → Outcome
outcome says r = record { answer = says r.answer; schedule = r.schedule }

abbrev pub listed : {A : Type 0} → (A → Answer) → Done A → List ℕ → Listed
listed says r list = record { answer = says r.answer; schedule = r.schedule; list = list }
