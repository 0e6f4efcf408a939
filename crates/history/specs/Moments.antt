-- What begins, ends and reports on a connection, and two moments of a run with the calls between them.
use Rattle.std.specs.Prelude.{ℕ, ◌≡◌, true, List, [], ◌∷◌, length}
use Rattle.rules.specs.declared.Schedule.{Schedule}
use Rattle.rules.specs.declared.Report.{Report as ReportOfList}
use Rattle.rules.specs.Ownership.{handles}
use Rattle.rules.specs.Sound.{sound}
use Rattle.rules.specs.Handles.{connection}
use Rattle.rules.specs.Reports.{Among}
use Rattle.rules.specs.Image.{IsImage}
use Rattle.rules.specs.Answers.{Answer, ok, dropped, loaded, tidied}
use Rattle.history.specs.Calls.{Bytes, Call, Admit, Drop, Report, Reports, Load, Tidy}
use Rattle.history.specs.Runs.{Made, Run, more, followed}

-- ---- what a call asks for
-- The admission of handle x by a smallest and a largest interval, a floor and a ceiling,
abbrev pub AdmissionOf : Call → ℕ → ℕ → ℕ → ℕ → ℕ → Type 0
AdmissionOf call x smallest largest floor ceiling = call ≡ Admit x smallest largest floor ceiling

-- its drop,
abbrev pub DropOf : Call → ℕ → Type 0
DropOf call x = call ≡ Drop x

-- "its own report": a single one, or one in a list,
pub data ReportOf (call : Call) (x : ℕ) : Type 0 where
  single : (sample : ℕ) → call ≡ Report x sample → ReportOf call x
  listed : (reports : List ReportOfList) → call ≡ Reports reports → Among x reports → ReportOf call x

-- a restore of bytes.
abbrev pub RestoreOf : Call → Bytes → Type 0
RestoreOf call bytes = call ≡ Load bytes

-- ---- what a call that was made does
-- An accepted admission's answer,
abbrev pub Placed : Answer → Type 0
Placed answer = (F : ℕ) × (A : ℕ) × (L : ℕ) × (answer ≡ ok F A L)

-- an accepted restore,
abbrev pub Restores : Made → Bytes → Type 0
Restores m bytes = RestoreOf m.request.call bytes × ((n : ℕ) × (m.result.answer ≡ loaded n))

-- and an accepted tidy.
abbrev pub Tidies : Made → Type 0
Tidies m = (m.request.call ≡ Tidy) × ((n : ℕ) × (m.result.answer ≡ tidied n))

-- The connection of handle x begins, with a floor and a ceiling: "its accepted admission, or the accepted restore of an image
-- that holds it".
pub data Begins (m : Made) (x floor ceiling : ℕ) : Type 0 where
  admitted : (smallest largest : ℕ) → AdmissionOf m.request.call x smallest largest floor ceiling → Placed m.result.answer → Begins m x floor ceiling
  restored : (bytes : Bytes) → Restores m bytes → (t : Schedule) → length t.connections ≡ handles → sound t ≡ true → IsImage bytes.list t
      → (connection t x).live ≡ true → (connection t x).floor ≡ floor → (connection t x).ceiling ≡ ceiling → Begins m x floor ceiling

-- It ends: "its own drop or the next accepted restore".
pub data Ends (m : Made) (x : ℕ) : Type 0 where
  drops : DropOf m.request.call x → m.result.answer ≡ dropped → Ends m x
  replaced : (bytes : Bytes) → Restores m bytes → Ends m x

-- ---- two moments
-- Of none of the calls between.
abbrev pub Never : (Made → Type 0) → List Made → Type 0
Never Happens [] = Unit {0}
Never Happens (m ∷ between) = (Happens m → ⊥) × Never Happens between

-- No call between ends x.
abbrev pub Lasts : ℕ → List Made → Type 0
Lasts x between = Never (λ m. Ends m x) between

-- No call between is a report of x.
abbrev pub Unreported : ℕ → List Made → Type 0
Unreported x between = Never (λ m. ReportOf m.request.call x) between

-- No call between is an accepted tidy.
abbrev pub Untidied : List Made → Type 0
Untidied between = Never Tidies between

-- A call begins x, and none ends it up to the end of the run.
pub record Alive (x floor ceiling : ℕ) (run : Run) : Type 0 where
  pub earlier : Run
  pub first : Made
  pub between : List Made
  pub whole : run ≡ followed (more earlier first) between
  pub begins : Begins first x floor ceiling
  pub lasts : Lasts x between
