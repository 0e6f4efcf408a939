-- Demand 1: each request has a result. Of the code: for every input some value of each call's type meets the call's promise.
use mathlib.Core.Path.{◌≡◌, refl, sym, ap, ◌∙◌}
use mathlib.Core.Bool.{Bool}
use mathlib.Core.List.{List}
use mathlib.Core.Option as maybe
use Rattle.std.specs.Prelude.{Option, Some, None, Ok, Err, Result as OkOrErr}
use Prim.Native.Nat.{ℕ, ◌+◌}
use Rattle.rules.specs.declared.Refusal.{Refusal}
use Rattle.rules.specs.declared.Schedule.{Schedule}
use Rattle.rules.specs.declared.Connection.{Connection}
use Rattle.rules.specs.declared.Adjusted.{Adjusted}
use Rattle.rules.specs.declared.Adjusted.TheVariants.{Kept, Grown, Shrunk, Tight}
use Rattle.rules.specs.Refusals.{Check, decided}
use Rattle.rules.specs.Answers.{Answer, Outcome, Listed, refused, refusing, refusing_list, dropped, slots, saved, loaded, reported, tidied, answered, placed, adjusted, of_ownership}
use Rattle.rules.specs.Handles.{connection}
use lib.ListN.{length}
use Rattle.rules.specs.Ownership.{handles, owns, taken}
use Rattle.rules.specs.Below.{least}
use Rattle.rules.specs.Good.{Good}
use Rattle.rules.specs.Admit.{k_for, admit_checks, admit_done, admit}
use Rattle.rules.specs.Drop.{drop_checks, drop_done, drop_handle}
use Rattle.rules.specs.Meter.{change}
use Rattle.rules.specs.Report.{room_to_grow, aim, report_answer, report_checks, report_done, report}
use Rattle.rules.specs.Reports.{reports_checks, reports_done, report_all}
use Rattle.rules.specs.Owner.{owner_or, owner_of}
use Rattle.rules.specs.Anchor.{slots_to_anchor, anchor_checks, anchor}
use Rattle.rules.specs.Save.{save_checks, save_done, save}
use Rattle.rules.specs.Load.{load_checks, load_done, load}
use Rattle.rules.specs.Tidy.{tidy_checks, tidy_done, tidy}
use Rattle.calls.proofs.RefusalLaws.{decided_cases, decided_map}
use Rattle.calls.proofs.MeterLaws.{change_cases}
use Rattle.calls.proofs.CallLaws.{admits, drops, reports, tidies, call_good}
use Rattle.calls.proofs.ReportsLaws.{report_all_good}
use Rattle.images.proofs.ImageLaws.{load_good}
use Rattle.blocks.proofs.ScheduleLaws.{fresh_is_good}
use Rattle.history.specs.Calls.{Call, Admit, Drop, Report, Reports, Owner, Anchor, Save, Load, Tidy, Lent, Result}
use Rattle.history.specs.Runs.{Start, Fresh, start_of, now, StepFunction, By}
use Rattle.history.specs.Demands.{Takes}
use Rattle.history.specs.Code.{StartsAs, Meets, Coded}
use Rattle.history.proofs.Following.{coded_ruled, now_good}

-- ---- a step function
pub takes_by : (step : StepFunction) → Takes (By step)
takes_by step =
    record { begins = λ start. (start_of start, refl); goes_on = λ run by r. (step (now run) r, (by, refl)); earlier = λ run m by. by.0 }

-- ---- the code
-- Some value of an answer's type stands for what is decided: for each named refusal, and for what is done.
module _ {V : Type 0} (says : V → Answer) where
  abbrev Stands : Answer → Type 0
  Stands a = (e : OkOrErr V Refusal) × (answered says e ≡ a)

  stands : (cs : List Check) (done : Answer) → Stands done → Stands (decided cs refused done)
  stands cs done w = decided_cases Stands cs refused done (λ why. (Err why, refl)) (λ p. w)

  stands_outcome : (cs : List Check) (s : Schedule) (done : Outcome) → Stands done.answer → Stands (decided cs (refusing s) done).answer
  stands_outcome cs s done w =
      let e = decided_map (λ (o : Outcome). o.answer) cs (refusing s) done in
      let v = stands cs done.answer w in
      (v.0, v.1 ∙ sym e)

  stands_listed : (cs : List Check) (s : Schedule) (list : List ℕ) (done : Listed) → Stands done.answer → Stands (decided cs (refusing_list s list) done).answer
  stands_listed cs s list done w =
      let e = decided_map (λ (o : Listed). o.answer) cs (refusing_list s list) done in
      let v = stands cs done.answer w in
      (v.0, v.1 ∙ sym e)

-- What stands for an outcome, and for one with a list.
abbrev whole : Outcome → Answer → Outcome
whole o a = record { answer = a; schedule = o.schedule }

abbrev with_list : Listed → Answer → Listed
with_list o a = record { answer = a; schedule = o.schedule; list = o.list }

changing : (L goal : ℕ) (room : Bool) → (e : OkOrErr Adjusted Refusal) × (answered adjusted e ≡ change L goal room)
changing L goal room =
    change_cases L goal room (λ a M. (e : OkOrErr Adjusted Refusal) × (answered adjusted e ≡ a))
    (λ q. (Ok (Kept L), refl)) (λ l. (Ok (Shrunk goal), refl)) (λ l q. (Ok (Grown (L + 1)), refl)) (λ l q. (Ok (Tight L), refl))

reporting : (f : ℕ → Bool) (c : Connection) (sample : ℕ) → (e : OkOrErr Adjusted Refusal) × (answered adjusted e ≡ report_answer f c sample)
unfolding report_answer
reporting f c sample = changing c.length (aim c sample) (room_to_grow f c)

owning : (o : maybe.Option ℕ) → (e : Option ℕ) × (of_ownership e ≡ owner_or o)
owning maybe.none = (None, refl)
owning (maybe.some h) = (Some h, refl)

saving : (s : Schedule) (buffer : List ℕ) → (e : OkOrErr ℕ Refusal) × (answered saved e ≡ (save s buffer).answer)
unfolding save save_done
saving s buffer =
    decided_cases (λ w. (e : OkOrErr ℕ Refusal) × (answered saved e ≡ w.answer)) (save_checks s buffer) (λ n. record { answer = refused n; buffer = buffer }) (save_done s buffer)
    (λ why. (Err why, refl)) (λ p. (Ok _, refl))

-- So each call has a result that meets its promise.
meets_some : (s : Schedule) → Good s → (call : Call) (lent : Lent) → (t : Result) × Meets s call lent t
unfolding admit admit_done drop_handle drop_done report report_done report_all reports_done owner_of anchor load load_done tidy tidy_done
meets_some s good (Admit h lo hi f c) lent =
    let w = stands_outcome placed (admit_checks s h lo hi f c) s (admit_done s h (k_for lo hi) f c) (Ok (record { factor = _; anchor = _; length = _ }), refl) in
    let o = admit s h lo hi f c in
    (_, (record { answer = w.0; schedule = o.schedule }, record { is = ap (whole o) w.1; good = call_good s good (admits h lo hi f c) }, refl))
meets_some s good (Drop h) lent =
    let w = stands_outcome {V = Unit} (λ u. dropped) (drop_checks s h) s (drop_done s h) (Ok tt, refl) in
    let o = drop_handle s h in
    (_, (record { answer = w.0; schedule = o.schedule }, record { is = ap (whole o) w.1; good = call_good s good (drops h) }, refl))
meets_some s good (Report h sample) lent =
    let w =
    stands_outcome adjusted (report_checks s h sample) s (report_done s h sample)
    (reporting (taken s.connections) (connection s h) sample) in
    let o = report s h sample in
    (_, (record { answer = w.0; schedule = o.schedule }, record { is = ap (whole o) w.1; good = call_good s good (reports h sample) }, refl))
meets_some s good (Reports xs) lent =
    let checks = reports_checks (length xs) (length lent.list) in
    let w = stands_listed reported checks s lent.list (reports_done s xs lent.list) (Ok _, refl) in
    let o = report_all s xs lent.list in
    (_, (record { answer = w.0; schedule = o.schedule }, o.list, record { is = ap (with_list o) w.1; good = report_all_good s xs lent.list good }, refl))
meets_some s good (Owner b) lent = let w = owning (least handles (λ h. owns (connection s h) b)) in (_, (w.0, w.1, refl))
meets_some s good (Anchor h b) lent =
    let w = stands slots (anchor_checks s h) (slots (slots_to_anchor (connection s h) b)) (Ok _, refl) in
    (_, (w.0, w.1, refl))
meets_some s good Save lent =
    let w = saving s lent.buffer in
    let v = save s lent.buffer in
    (_, (w.0, v.buffer, ap (λ (a : Answer). record { answer = a; buffer = v.buffer }) w.1, refl))
meets_some s good (Load bytes) lent =
    let w = stands_outcome loaded (load_checks bytes.list) s (load_done bytes.list) (Ok _, refl) in
    let o = load s bytes.list in
    (_, (record { answer = w.0; schedule = o.schedule }, record { is = ap (whole o) w.1; good = load_good s good bytes.list bytes.small }, refl))
meets_some s good Tidy lent =
    let w = stands_listed tidied (tidy_checks s.connections lent.list) s lent.list (tidy_done s lent.list) (Ok _, refl) in
    let o = tidy s lent.list in
    (_, (record { answer = w.0; schedule = o.schedule }, o.list, record { is = ap (with_list o) w.1; good = call_good s good (tidies lent.list) }, refl))

starts_some : (start : Start) → (s : Schedule) × StartsAs start s
unfolding start_of
starts_some Fresh = (start_of Fresh, record { is = refl; good = fresh_is_good })

pub takes_coded : Takes Coded
takes_coded =
    record {
      begins = starts_some;
      goes_on = λ run c r.
          let w = meets_some (now run) (now_good run (coded_ruled run c)) r.call r.lent in
          (w.0, (c, w.1));
      earlier = λ run m c. c.0;
    }
