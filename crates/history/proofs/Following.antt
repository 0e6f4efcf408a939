-- Runs of the rule sheet's step: the schedule is the one after the history, and is good; and every run of the code is one.
use mathlib.Core.Path.{◌≡◌, ap, ◌∙◌, subst⁻¹}
use mathlib.Core.Bool.{true}
use mathlib.Core.List.{List, [], ◌∷◌}
use Prim.Native.Nat.{ℕ}
use lib.ListN.{length}
use Rattle.rules.specs.declared.Schedule.{Schedule}
use Rattle.rules.specs.Ownership.{handles}
use Rattle.rules.specs.Sound.{sound}
use Rattle.rules.specs.Good.{Good}
use Rattle.rules.specs.Handles.{connection}
use Rattle.rules.specs.Image.{IsImage}
use Rattle.rules.specs.Load.{load}
use Rattle.blocks.proofs.SoundLaws.{Sound}
use Rattle.blocks.proofs.ScheduleLaws.{fresh_is_good, good_sound}
use Rattle.calls.proofs.CallLaws.{admits, drops, reports, tidies, call_good}
use Rattle.calls.proofs.ReportsLaws.{report_all_good}
use Rattle.images.proofs.ImageLaws.{load_good}
use Rattle.images.proofs.RoundTrip.{round_connection}
use Rattle.history.specs.Calls.{Call, Admit, Drop, Report, Reports, Owner, Anchor, Save, Load, Tidy, Lent, Result, beside, asked, filled, written, ruled_call, ruled}
use Rattle.history.specs.Runs.{Start, Fresh, start_of, History, begin, next, after, Made, Run, begun, more, now, history_of, followed, StepFunction, By}
use Rattle.history.specs.Code.{StartsAs, Meets, Coded}

-- ---- good
start_good : (start : Start) → Good (start_of start)
unfolding start_of
start_good Fresh = fresh_is_good

step_good : (s : Schedule) → Good s → (call : Call) (lent : Lent) → Good (ruled_call s call lent).schedule
unfolding ruled_call
step_good s good (Admit h lo hi f c) lent = call_good s good (admits h lo hi f c)
step_good s good (Drop h) lent = call_good s good (drops h)
step_good s good (Report h sample) lent = call_good s good (reports h sample)
step_good s good (Reports xs) lent = report_all_good s xs lent.list good
step_good s good (Owner b) lent = good
step_good s good (Anchor h b) lent = good
step_good s good Save lent = good
step_good s good (Load bytes) lent = load_good s good bytes.list bytes.small
step_good s good Tidy lent = call_good s good (tidies lent.list)

-- Every history leaves a good schedule.
pub after_good : (h : History) → Good (after h)
unfolding after
after_good (begin start) = start_good start
after_good (next h r) = step_good (after h) (after_good h) r.call r.lent

-- ---- the rule sheet's runs
pub now_after : (run : Run) → By ruled run → now run ≡ after (history_of run)
unfolding after
now_after (begun start s) b = b
now_after (more run m) b = ap (λ (t : Result). t.schedule) b.1 ∙ ap (λ (s : Schedule). (ruled s m.request).schedule) (now_after run b.0)

pub result_after : (run : Run) (m : Made) → By ruled (more run m) → m.result ≡ ruled (after (history_of run)) m.request
result_after run m b = b.1 ∙ ap (λ (s : Schedule). ruled s m.request) (now_after run b.0)

-- A result, by the call that was made.
pub result_is : (run : Run) (m : Made) → By ruled (more run m) → (call : Call) → m.request.call ≡ call → m.result ≡ ruled_call (now run) call m.request.lent
result_is run m b call p = b.1 ∙ ap (λ (c : Call). ruled_call (now run) c m.request.lent) p

pub now_good : (run : Run) → By ruled run → Good (now run)
now_good run b = subst⁻¹ Good (now_after run b) (after_good (history_of run))

-- What soundness means, after any run.
pub now_sound : (run : Run) → By ruled run → Sound (now run).connections
now_sound run b = good_sound (now run) (now_good run b)

-- What a restore of an image brings.
pub restored_connection : (s t : Schedule) (list : List ℕ) → length t.connections ≡ handles → sound t ≡ true → IsImage list t
    → (x : ℕ) → (connection t x).live ≡ true → connection (load s list).schedule x ≡ connection t x
restored_connection s t list long is_sound image x live = ap (λ (l : List ℕ). connection (load s l).schedule x) image ∙ round_connection s t long is_sound x live

-- A part of a run is one.
pub earlier_by : (step : StepFunction) (run : Run) (later : List Made) → By step (followed run later) → By step run
earlier_by step run [] b = b
earlier_by step run (m ∷ later) b = earlier_by step run later b.0

-- ---- those of the code
starts_as : (start : Start) (s : Schedule) → StartsAs start s → s ≡ start_of start
unfolding start_of
starts_as Fresh s p = p.is

-- Each promise gives the whole result.
meets_ruled : (s : Schedule) (call : Call) (lent : Lent) (t : Result) → Meets s call lent t → t ≡ ruled_call s call lent
unfolding ruled_call
meets_ruled s (Admit h lo hi f c) lent t (r, p, e) = e ∙ ap (beside lent) p.is
meets_ruled s (Drop h) lent t (r, p, e) = e ∙ ap (beside lent) p.is
meets_ruled s (Report h sample) lent t (r, p, e) = e ∙ ap (beside lent) p.is
meets_ruled s (Reports xs) lent t (r, exit, p, e) = e ∙ ap (filled lent) p.is
meets_ruled s (Owner b) lent t (r, p, e) = e ∙ ap (asked lent s) p
meets_ruled s (Anchor h b) lent t (r, p, e) = e ∙ ap (asked lent s) p
meets_ruled s Save lent t (r, exit, p, e) = e ∙ ap (written lent s) p
meets_ruled s (Load bytes) lent t (r, p, e) = e ∙ ap (beside lent) p.is
meets_ruled s Tidy lent t (r, exit, p, e) = e ∙ ap (filled lent) p.is

-- A run of the code is a run of the rule sheet's step.
pub coded_ruled : (run : Run) → Coded run → By ruled run
coded_ruled (begun start s) c = starts_as start s c
coded_ruled (more run m) (c, p) = (coded_ruled run c, meets_ruled (now run) m.request.call m.request.lent m.result p)
