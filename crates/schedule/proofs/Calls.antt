-- The laws of the calls: what follows from a promise, whatever the code.
use mathlib.Core.Path.{◌≡◌, sym, ap, ◌∙◌}
use mathlib.Core.Bool.{true, false}
use mathlib.Core.Logic.{◌≢◌}
use Rattle.std.specs.Prelude.{Result}
use Prim.Native.Nat.{ℕ}
use Rattle.rules.specs.declared.Schedule.{Schedule}
use Rattle.rules.specs.declared.Refusal.{Refusal}
use Rattle.rules.specs.declared.Placed.{Placed}
use Rattle.rules.specs.declared.Adjusted.{Adjusted}
use Rattle.rules.specs.declared.Done.{Done}
use Rattle.rules.specs.Good.{Good}
use Rattle.rules.specs.Answers.{Outcome, refused, ok, dropped, of_admission, of_dropping, of_reporting, outcome}
use Rattle.rules.specs.Handles.{connection, is_live}
use Rattle.calls.proofs.AnswerLaws.{admission_injective, dropping_injective, reporting_injective, done_injective}
use Rattle.calls.proofs.AdmitLaws.{admit_others}
use Rattle.calls.proofs.DropLaws.{drop_others}
use Rattle.calls.proofs.ReportLaws.{report_others}
use Rattle.calls.proofs.LiveLaws.{admit_lives, drop_lives, report_lives}
use Rattle.calls.proofs.CallLaws.{Leaves, refusal_keeps_schedule}
use Rattle.schedule.specs.Promises.{Admits, Drops, Reports}

-- ---- two outcomes that meet a call's statement are equal
pub admit_unique : (s : Schedule) (h lo hi f c : ℕ) (a b : Done (Result Placed Refusal)) → Admits s h lo hi f c a → Admits s h lo hi f c b → a ≡ b
admit_unique s h lo hi f c a b p q = done_injective of_admission admission_injective a b (p.is ∙ sym q.is)

pub drop_unique : (s : Schedule) (h : ℕ) (a b : Done (Result Unit Refusal)) → Drops s h a → Drops s h b → a ≡ b
drop_unique s h a b p q = done_injective of_dropping dropping_injective a b (p.is ∙ sym q.is)

pub report_unique : (s : Schedule) (h sample : ℕ) (a b : Done (Result Adjusted Refusal)) → Reports s h sample a → Reports s h sample b → a ≡ b
report_unique s h sample a b p q = done_injective of_reporting reporting_injective a b (p.is ∙ sym q.is)

-- ---- what a result is, is said of its schedule
-- A result whose outcome is a rule's: what holds of the schedule that the rule leaves holds of its own.
module _ (o rule : Outcome) (is : o ≡ rule) where
  there : (P : Schedule → Type 0) → P rule.schedule → P o.schedule
  there P p = rw is p

module _ (s : Schedule) (good : Good s) (h : ℕ) where
  -- A refused call leaves the schedule as it was.
  pub admit_refusal : (lo hi f c : ℕ) (r : Done (Result Placed Refusal)) → Admits s h lo hi f c r → (n : ℕ) → (outcome of_admission r).answer ≡ refused n → r.schedule ≡ s
  admit_refusal lo hi f c r p n e =
      there (outcome of_admission r) _ p.is (λ t. t ≡ s) (refusal_keeps_schedule s (Leaves.admits h lo hi f c) n (ap (λ (o : Outcome). o.answer) (sym p.is) ∙ e))

  pub drop_refusal : (r : Done (Result Unit Refusal)) → Drops s h r → (n : ℕ) → (outcome of_dropping r).answer ≡ refused n → r.schedule ≡ s
  drop_refusal r p n e =
      there (outcome of_dropping r) _ p.is (λ t. t ≡ s) (refusal_keeps_schedule s (Leaves.drops h) n (ap (λ (o : Outcome). o.answer) (sym p.is) ∙ e))

  pub report_refusal : (sample : ℕ) (r : Done (Result Adjusted Refusal)) → Reports s h sample r → (n : ℕ) → (outcome of_reporting r).answer ≡ refused n → r.schedule ≡ s
  report_refusal sample r p n e =
      there (outcome of_reporting r) _ p.is (λ t. t ≡ s) (refusal_keeps_schedule s (Leaves.reports h sample) n (ap (λ (o : Outcome). o.answer) (sym p.is) ∙ e))

  -- Every other connection is as it was, and so is whether it is live.
  pub admit_keeps : (lo hi f c : ℕ) (r : Done (Result Placed Refusal)) → Admits s h lo hi f c r → (j : ℕ) → j ≢ h → connection r.schedule j ≡ connection s j
  admit_keeps lo hi f c r p j n = there (outcome of_admission r) _ p.is (λ t. connection t j ≡ connection s j) (admit_others s good h lo hi f c j n)

  pub drop_keeps : (r : Done (Result Unit Refusal)) → Drops s h r → (j : ℕ) → j ≢ h → connection r.schedule j ≡ connection s j
  drop_keeps r p j n = there (outcome of_dropping r) _ p.is (λ t. connection t j ≡ connection s j) (drop_others s good h j n)

  pub report_keeps : (sample : ℕ) (r : Done (Result Adjusted Refusal)) → Reports s h sample r → (j : ℕ) → j ≢ h → connection r.schedule j ≡ connection s j
  report_keeps sample r p j n = there (outcome of_reporting r) _ p.is (λ t. connection t j ≡ connection s j) (report_others s good h sample j n)

  -- Which handles are live afterwards: an accepted admission begins its own, an accepted drop ends its own, a report neither.
  pub admit_begins : (lo hi f c : ℕ) (r : Done (Result Placed Refusal)) → Admits s h lo hi f c r → (F A L : ℕ) → (outcome of_admission r).answer ≡ ok F A L → is_live r.schedule h ≡ true
  admit_begins lo hi f c r p F A L e =
      there (outcome of_admission r) _ p.is (λ t. is_live t h ≡ true) (admit_lives s good h lo hi f c F A L (ap (λ (o : Outcome). o.answer) (sym p.is) ∙ e))

  pub drop_ends_own : (r : Done (Result Unit Refusal)) → Drops s h r → (outcome of_dropping r).answer ≡ dropped → is_live r.schedule h ≡ false
  drop_ends_own r p e = there (outcome of_dropping r) _ p.is (λ t. is_live t h ≡ false) (drop_lives s good h (ap (λ (o : Outcome). o.answer) (sym p.is) ∙ e))

  pub report_live : (sample : ℕ) (r : Done (Result Adjusted Refusal)) → Reports s h sample r → (j : ℕ) → is_live r.schedule j ≡ is_live s j
  report_live sample r p j = there (outcome of_reporting r) _ p.is (λ t. is_live t j ≡ is_live s j) (report_lives s good h sample j)
