-- Reports of a whole cycle at once: "a list of reports, each a handle and a sample, and a list that receives one answer for each".
use Rattle.std.specs.Prelude.{ℕ, ◌+◌, ◌≡◌, List, [], ◌∷◌, map, ltb, length}
use Rattle.rules.specs.declared.Schedule.{Schedule}
use Rattle.rules.specs.declared.Report.{Report}
use Rattle.rules.specs.declared.Refusal.TheVariants.{ReportsMany, ListShort}
use Rattle.rules.specs.Refusals.{Check, check, decided}
use Rattle.rules.specs.Answers.{Answer, Outcome, Listed, refusing_list, refused, ok, dropped, kept, grown, shrunk, tight, owner, idle, slots, saved, loaded, reported, message, wrote, tidied}
use Rattle.rules.specs.Report.{report}
use Rattle.rules.specs.Lent.{over}

-- A report of the list: the single one.
abbrev pub single : Schedule → Report → Outcome
single s r = report s r.handle r.sample

-- "The outcome equals making the reports singly in list order": each in the schedule that the one before it left. "A handle may come twice;
-- after a refused report the next goes on." The schedule after them all,
unfoldable pub after_reports : Schedule → List Report → Schedule
unfolding report
after_reports s [] = s
after_reports s (r ∷ rs) = after_reports (single s r).schedule rs

-- and the answer of each.
unfoldable pub answers_to : Schedule → List Report → List Answer
unfolding report
answers_to s [] = []
answers_to s (r ∷ rs) =
    let o = single s r in
    o.answer ∷ answers_to o.schedule rs

-- A report of handle x is in the list.
pub data Among (x : ℕ) : List Report → Type 0 where
  here : {r : Report} {rs : List Report} → r.handle ≡ x → Among x (r ∷ rs)
  later : {r : Report} {rs : List Report} → Among x rs → Among x (r ∷ rs)

-- An answer of a report as one number, an entry of the lent list: a refusal is its number; kept, grown, shrunk and tight are 65,536, 131,072,
-- 196,608 and 262,144, each plus the length. No report has another answer.
abbrev pub coded : Answer → ℕ
coded (refused n) = n
coded (kept L) = 65536 + L
coded (grown L) = 131072 + L
coded (shrunk L) = 196608 + L
coded (tight L) = 262144 + L
coded (ok F A L) = 0
coded dropped = 0
coded (owner h) = 0
coded idle = 0
coded (slots n) = 0
coded (saved n) = 0
coded (loaded n) = 0
coded (reported n) = 0
coded (message m) = 0
coded (wrote n) = 0
coded (tidied n) = 0

-- "The radio core wakes us .. with up to 64 reports."
abbrev pub most_reports : ℕ
most_reports = 64

-- "13, more than 64 reports; 14, the answer list is shorter than the reports; 13 first, both before any report": by how many reports and
-- how many entries there are.
abbrev pub reports_checks : ℕ → ℕ → List Check
reports_checks reports entries = check ReportsMany (ltb most_reports reports) ∷ check ListShort (ltb entries reports) ∷ []

-- The answer says how many reports were made. "Answers beyond the number of reports stay untouched."
unfoldable pub reports_done : Schedule → List Report → List ℕ → Listed
unfolding after_reports answers_to
reports_done s reports list =
    record { answer = reported (length reports); schedule = after_reports s reports; list = over (map coded (answers_to s reports)) list }

unfoldable pub report_all : Schedule → List Report → List ℕ → Listed
unfolding reports_done decided
report_all s reports list = decided (reports_checks (length reports) (length list)) (refusing_list s list) (reports_done s reports list)
