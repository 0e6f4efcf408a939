-- Demand 1: a refusal has the number of a named refusal, and leaves the schedule and what was lent.
use mathlib.Core.Path.{◌≡◌, refl, sym, ap, ◌∙◌}
use Prim.Native.Nat.{ℕ}
use native.Mathlib.Omega.{arith}
use mathlib.Core.List.{List}
use mathlib.Core.Option.{Option, none, some}
use Rattle.rules.specs.declared.Schedule.{Schedule}
use Rattle.rules.specs.Handles.{connection}
use Rattle.rules.specs.Ownership.{handles, owns}
use Rattle.rules.specs.Below.{least}
use Rattle.rules.specs.Answers.{Outcome, Listed, refused, slots}
use Rattle.rules.specs.Owner.{owner_or, owner_of}
use Rattle.rules.specs.Anchor.{slots_to_anchor, anchor_checks, anchor}
use Rattle.rules.specs.Save.{save_checks, save_done, save}
use Rattle.rules.specs.Reports.{report_all}
use Rattle.rules.specs.Tidy.{tidy}
use Rattle.calls.proofs.RefusalLaws.{InTable}
use Rattle.calls.proofs.CallLaws.{Leaves, tabled, refusal_in_table, refusal_keeps_schedule, refusal_keeps_buffer}
use Rattle.calls.proofs.ReportsLaws.{refusal_listed}
use Rattle.calls.proofs.TidyLaws.{tidy_refusal_listed}
use Rattle.images.proofs.LoadLaws.{load_in_table, load_keeps}
use Rattle.history.specs.Calls.{Call, Admit, Drop, Report, Reports, Owner, Anchor, Save, Load, Tidy, Lent, Result, beside, filled, ruled_call, ruled}
use Rattle.history.specs.Runs.{Made, Run, more, now, By}
use Rattle.history.specs.Demands.{Refusal}

-- What a refusal leaves.
abbrev Left : Schedule → Lent → Result → ℕ → Type 0
Left s lent t n = InTable n × (t.schedule ≡ s) × (t.lent ≡ lent)

-- ---- of a question
-- "Never refused."
pub owner_answers : (o : Option ℕ) (n : ℕ) → owner_or o ≡ refused n → ⊥
owner_answers none n e = let z : ◌≡◌ {A = ℕ} 0 1 = cc in omega arith
owner_answers (some x) n e = let z : ◌≡◌ {A = ℕ} 0 1 = cc in omega arith

-- ---- of a save
save_left : (s : Schedule) (buffer : List ℕ) (n : ℕ) → (save s buffer).answer ≡ refused n → InTable n × ((save s buffer).buffer ≡ buffer)
unfolding save save_done
save_left s buffer n = refusal_keeps_buffer (save_checks s buffer) buffer (save_done s buffer) (λ m e. let z : ◌≡◌ {A = ℕ} 0 1 = cc in omega arith) n

-- ---- of any call
outcome_left : (s : Schedule) (lent : Lent) {o : Outcome} → Leaves s o → (n : ℕ) → o.answer ≡ refused n → Left s lent (beside lent o) n
outcome_left s lent l n e = (refusal_in_table s l n e, refusal_keeps_schedule s l n e, refl)

listed_left : (s : Schedule) (lent : Lent) (o : Listed) {n : ℕ} → InTable n × (o.schedule ≡ s) × (o.list ≡ lent.list) → Left s lent (filled lent o) n
listed_left s lent o w = (w.0, w.1, ap (λ (l : List ℕ). record { buffer = lent.buffer; list = l }) w.2)

call_left : (s : Schedule) (call : Call) (lent : Lent) (n : ℕ) → (ruled_call s call lent).answer ≡ refused n → Left s lent (ruled_call s call lent) n
unfolding ruled_call owner_of anchor
call_left s (Admit x lo hi f c) lent n e = outcome_left s lent (Leaves.admits x lo hi f c) n e
call_left s (Drop x) lent n e = outcome_left s lent (Leaves.drops x) n e
call_left s (Report x sample) lent n e = outcome_left s lent (Leaves.reports x sample) n e
call_left s (Reports reports) lent n e = listed_left s lent (report_all s reports lent.list) (refusal_listed s reports lent.list n e)
call_left s (Owner b) lent n e = absurd (owner_answers (least handles (λ x. owns (connection s x) b)) n e)
call_left s (Anchor x b) lent n e =
    (tabled (anchor_checks s x) (slots (slots_to_anchor (connection s x) b)) (λ m q. let z : ◌≡◌ {A = ℕ} 0 1 = cc in absurd (omega arith)) n e, refl, refl)
call_left s Save lent n e = let w = save_left s lent.buffer n e in (w.0, refl, ap (λ (b : List ℕ). record { buffer = b; list = lent.list }) w.1)
call_left s (Load bytes) lent n e = (load_in_table s bytes.list n e, load_keeps s bytes.list n e, refl)
call_left s Tidy lent n e = listed_left s lent (tidy s lent.list) (tidy_refusal_listed s lent.list n e)

pub refusals : (run : Run) (m : Made) (n : ℕ) → By ruled (more run m) → m.result.answer ≡ refused n → Refusal run m n
refusals run m n by e =
    let q = by.1 in
    let w = call_left (now run) m.request.call m.request.lent n (sym (ap (λ (t : Result). t.answer) q) ∙ e) in
    record { in_table = w.0; schedule = ap (λ (t : Result). t.schedule) q ∙ w.1; lent = ap (λ (t : Result). t.lent) q ∙ w.2 }
