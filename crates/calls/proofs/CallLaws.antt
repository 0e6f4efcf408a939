-- The laws of every call on a schedule that answers with one: admit, drop, report, tidy.
use mathlib.Core.Path.{◌≡◌, refl, sym, subst⁻¹}
use mathlib.Core.Bool.{Bool}
use mathlib.Core.List.{List}
use Prim.Native.Nat.{ℕ}
use native.Mathlib.Omega.{arith}
use Rattle.rules.specs.declared.Schedule.{Schedule}
use Rattle.rules.specs.declared.Connection.{Connection}
use Rattle.rules.specs.Ownership.{taken}
use Rattle.rules.specs.Handles.{connection}
use Rattle.rules.specs.Good.{Good, FreeSlotsZero}
use Rattle.rules.specs.Answers.{Answer, Outcome, Written, without_list, refused, refusing, refusing_buffer}
use Rattle.rules.specs.Refusals.{Check, decided}
use Rattle.rules.specs.Admit.{k_for, admit_checks, admit_done, admit}
use Rattle.rules.specs.Drop.{drop_checks, drop_done, drop_handle}
use Rattle.rules.specs.Tidy.{tidy}
use Rattle.rules.specs.Report.{room_to_grow, aim, report_answer, report_checks, report_done, report}
use Rattle.calls.proofs.RefusalLaws.{InTable, decided_cases, decided_map, refused_same}
use Rattle.calls.proofs.MeterLaws.{change_cases}
use Rattle.calls.proofs.AdmitLaws.{admit_cases, admit_good, admit_zero}
use Rattle.calls.proofs.DropLaws.{drop_cases, drop_good, drop_zero}
use Rattle.calls.proofs.ReportLaws.{report_cases, report_good, report_zero}
use Rattle.calls.proofs.TidyLaws.{tidy_good, tidy_zero, tidy_refusal_listed}

-- What each of these calls leaves of a schedule.
pub data Leaves (s : Schedule) : Outcome → Type 0 where
  admits : (h lo hi f c : ℕ) → Leaves s (admit s h lo hi f c)
  drops : (h : ℕ) → Leaves s (drop_handle s h)
  reports : (h sample : ℕ) → Leaves s (report s h sample)
  tidies : (list : List ℕ) → Leaves s (without_list (tidy s list))

-- A rule that keeps the schedule where its answer is a refusal.
abbrev Keeps : Schedule → Outcome → Type 0
Keeps s o = (n : ℕ) → o.answer ≡ refused n → o.schedule ≡ s

-- A report that is carried out answers with a word.
pub answered : (f : ℕ → Bool) (c : Connection) (sample n : ℕ) → report_answer f c sample ≡ refused n → ⊥
unfolding report_answer
answered f c sample n =
    change_cases c.length (aim c sample) (room_to_grow f c) (λ a M. a ≡ refused n → ⊥)
    (λ q e. let z : ◌≡◌ {A = ℕ} 0 1 = cc in omega arith)
    (λ l e. let z : ◌≡◌ {A = ℕ} 0 1 = cc in omega arith)
    (λ l q e. let z : ◌≡◌ {A = ℕ} 0 1 = cc in omega arith)
    (λ l q e. let z : ◌≡◌ {A = ℕ} 0 1 = cc in omega arith)

-- What answers with a number of the table, where it refuses.
abbrev pub Tabled : Answer → Type 0
Tabled a = (n : ℕ) → a ≡ refused n → InTable n

-- Any checks before something that is no refusal: each check gives a named refusal.
pub tabled : (cs : List Check) (done : Answer) → Tabled done → Tabled (decided cs refused done)
tabled cs done t = decided_cases Tabled cs refused done (λ why n e. (why, sym (refused_same e))) (λ p. t)

pub tabled_outcome : (cs : List Check) (s : Schedule) (done : Outcome) → Tabled done.answer → Tabled (decided cs (refusing s) done).answer
tabled_outcome cs s done t = subst⁻¹ Tabled (decided_map (λ (o : Outcome). o.answer) cs (refusing s) done) (tabled cs done.answer t)

-- Where a call writes into a lent buffer, a refusal has a number of the table, and no byte of the buffer has changed.
pub refusal_keeps_buffer : (cs : List Check) (buffer : List ℕ) (done : Written) → ((n : ℕ) → done.answer ≡ refused n → ⊥)
    → (n : ℕ) → (decided cs (refusing_buffer buffer) done).answer ≡ refused n → InTable n × ((decided cs (refusing_buffer buffer) done).buffer ≡ buffer)
refusal_keeps_buffer cs buffer done never n =
    decided_cases (λ (w : Written). w.answer ≡ refused n → InTable n × (w.buffer ≡ buffer)) cs (refusing_buffer buffer) done
    (λ why e. ((why, sym (refused_same e)), refl)) (λ p e. absurd (never n e))

-- What is done once the checks pass is no refusal.
pub refusal_in_table : (s : Schedule) {o : Outcome} → Leaves s o → Tabled o.answer
unfolding admit admit_done drop_handle drop_done report report_done
refusal_in_table s (admits h lo hi f c) =
    tabled_outcome (admit_checks s h lo hi f c) s (admit_done s h (k_for lo hi) f c) (λ n e. let z : ◌≡◌ {A = ℕ} 0 1 = cc in absurd (omega arith))
refusal_in_table s (drops h) =
    tabled_outcome (drop_checks s h) s (drop_done s h) (λ n e. let z : ◌≡◌ {A = ℕ} 0 1 = cc in absurd (omega arith))
refusal_in_table s (reports h sample) =
    tabled_outcome (report_checks s h sample) s (report_done s h sample) (λ n e. absurd (answered (taken s.connections) (connection s h) sample n e))
refusal_in_table s (tidies list) = λ n e. (tidy_refusal_listed s list n e).0

-- "A refusal returns its number only; the schedule .. as .. before the call."
pub refusal_keeps_schedule : (s : Schedule) {o : Outcome} → Leaves s o → (n : ℕ) → o.answer ≡ refused n → o.schedule ≡ s
unfolding admit_done drop_done report_done
refusal_keeps_schedule s (admits h lo hi f c) =
    admit_cases s h lo hi f c (Keeps s) (λ m n e. refl) (λ a n e. let z : ◌≡◌ {A = ℕ} 0 1 = cc in absurd (omega arith))
refusal_keeps_schedule s (drops h) =
    drop_cases s h (Keeps s) (λ m n e. refl) (λ p q n e. let z : ◌≡◌ {A = ℕ} 0 1 = cc in absurd (omega arith))
refusal_keeps_schedule s (reports h sample) = report_cases s h sample (Keeps s) (λ m n e. refl) (λ r n e. absurd (answered (taken s.connections) (connection s h) sample n e))
refusal_keeps_schedule s (tidies list) = λ n e. (tidy_refusal_listed s list n e).1

-- "what each call leaves [is] shown to be so": good.
pub call_good : (s : Schedule) → Good s → {o : Outcome} → Leaves s o → Good o.schedule
call_good s good (admits h lo hi f c) = admit_good s good h lo hi f c
call_good s good (drops h) = drop_good s good h
call_good s good (reports h sample) = report_good s good h sample
call_good s good (tidies list) = tidy_good s good list

-- Free slots stay zeros.
pub call_zero : (s : Schedule) → Good s → FreeSlotsZero s → {o : Outcome} → Leaves s o → FreeSlotsZero o.schedule
call_zero s good z (admits h lo hi f c) = admit_zero s good h lo hi f c z
call_zero s good z (drops h) = drop_zero s good h z
call_zero s good z (reports h sample) = report_zero s good h sample z
call_zero s good z (tidies list) = tidy_zero s good list z
