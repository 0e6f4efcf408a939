-- Calls: what is asked, what is lent, and what is left.
use Rattle.std.specs.Prelude.{ℕ, ◌<◌, List, [], get_or}
use Rattle.rules.specs.declared.Schedule.{Schedule}
use Rattle.rules.specs.declared.Report.{Report as ReportOfList}
use Rattle.rules.specs.Answers.{Answer, Outcome, Listed, Written}
use Rattle.rules.specs.Admit.{admit}
use Rattle.rules.specs.Drop.{drop_handle}
use Rattle.rules.specs.Report.{report}
use Rattle.rules.specs.Reports.{report_all}
use Rattle.rules.specs.Tidy.{tidy}
use Rattle.rules.specs.Owner.{owner_of}
use Rattle.rules.specs.Anchor.{anchor}
use Rattle.rules.specs.Save.{save}
use Rattle.rules.specs.Load.{load}

-- Bytes: numbers below 256.
pub record Bytes : Type 0 where
  pub list : List ℕ
  pub small : (i : ℕ) → get_or list i 0 < 256

-- A call with any numbers, any list of reports, or any image bytes.
pub data Call : Type 0 where
  Admit : ℕ → ℕ → ℕ → ℕ → ℕ → Call
  Drop : ℕ → Call
  Report : ℕ → ℕ → Call
  Reports : List ReportOfList → Call
  Owner : ℕ → Call
  Anchor : ℕ → ℕ → Call
  Save : Call
  Load : Bytes → Call
  Tidy : Call

-- All that is lent to a call, for it to write: a buffer of bytes, and a list of numbers.
pub record Lent : Type 0 where
  pub buffer : List ℕ
  pub list : List ℕ

abbrev pub nothing : Lent
nothing = record { buffer = []; list = [] }

-- What is asked of the library.
pub record Request : Type 0 where
  pub call : Call
  pub lent : Lent

-- What a call leaves: the answer, the schedule, and every byte and every number of what was lent.
pub record Result : Type 0 where
  pub answer : Answer
  pub schedule : Schedule
  pub lent : Lent

-- An outcome, beside what was lent and not written; and an answer, beside the schedule too.
abbrev pub beside : Lent → Outcome → Result
beside lent o = record { answer = o.answer; schedule = o.schedule; lent = lent }

abbrev pub asked : Lent → Schedule → Answer → Result
asked lent s a = record { answer = a; schedule = s; lent = lent }

-- What fills the list, and what writes the buffer.
abbrev pub filled : Lent → Listed → Result
filled lent o = record { answer = o.answer; schedule = o.schedule; lent = record { buffer = lent.buffer; list = o.list } }

abbrev pub written : Lent → Schedule → Written → Result
written lent s w = record { answer = w.answer; schedule = s; lent = record { buffer = w.buffer; list = lent.list } }

-- The rule sheet's own step: what its definitions give for a call.
unfoldable pub ruled_call : Schedule → Call → Lent → Result
unfolding admit drop_handle report report_all owner_of anchor save load tidy
ruled_call s (Admit handle smallest largest floor ceiling) lent = beside lent (admit s handle smallest largest floor ceiling)
ruled_call s (Drop handle) lent = beside lent (drop_handle s handle)
ruled_call s (Report handle sample) lent = beside lent (report s handle sample)
ruled_call s (Reports reports) lent = filled lent (report_all s reports lent.list)
ruled_call s (Owner block) lent = asked lent s (owner_of s block)
ruled_call s (Anchor handle block) lent = asked lent s (anchor s handle block)
ruled_call s Save lent = written lent s (save s lent.buffer)
ruled_call s (Load bytes) lent = beside lent (load s bytes.list)
ruled_call s Tidy lent = filled lent (tidy s lent.list)

abbrev pub ruled : Schedule → Request → Result
ruled s r = ruled_call s r.call r.lent
