-- "One logger must not take the house": whoever meets the demands, and admits within half, lets none; and the rule sheet's step admits within half.
use mathlib.Core.Path.{◌≡◌, refl, sym, ap, subst, ◌∙◌}
use mathlib.Core.Bool.{true}
use mathlib.Core.List.{List, [], ◌∷◌}
use Prim.Native.Nat.{ℕ, ◌*◌, ◌^◌, ◌≤◌}
use native.Mathlib.Omega.{arith}
use lib.ListN.{length}
use Rattle.rules.specs.declared.Connection.{Connection}
use Rattle.rules.specs.declared.Schedule.{Schedule}
use Rattle.rules.specs.declared.Refusal.TheVariants.{CeilingAboveHalf}
use Rattle.rules.specs.Below.{least}
use Rattle.rules.specs.Ownership.{handles, factor, owns, taken}
use Rattle.rules.specs.Refusals.{number, Check, decided}
use Rattle.rules.specs.Handles.{connection, is_live}
use Rattle.rules.specs.Answers.{Outcome, Listed, Written, refused, refusing, refusing_list, refusing_buffer, ok, slots}
use Rattle.rules.specs.Drop.{drop_checks, drop_done, drop_handle}
use Rattle.rules.specs.Report.{report_checks, report_done, report}
use Rattle.rules.specs.Reports.{reports_checks, reports_done, report_all}
use Rattle.rules.specs.Owner.{owner_of}
use Rattle.rules.specs.Anchor.{slots_to_anchor, anchor_checks, anchor}
use Rattle.rules.specs.Save.{save_checks, save_done, save}
use Rattle.rules.specs.Load.{load_checks, load_done, load}
use Rattle.rules.specs.Tidy.{tidy_checks, tidy_done, tidy}
use Rattle.calls.proofs.RefusalLaws.{decided_map, without, refused_without}
use Rattle.calls.proofs.CallLaws.{answered}
use Rattle.calls.proofs.HalfLaws.{HalfStored, admit_half}
use Rattle.history.specs.Calls.{Call, Admit, Drop, Report, Reports, Owner, Anchor, Save, Load, Tidy, Lent, Result, ruled_call, ruled}
use Rattle.history.specs.Runs.{Made, Run, more, now, after, history_of, followed, System, By}
use Rattle.history.specs.Moments.{AdmissionOf, Begins, admitted, restored}
use Rattle.history.specs.Demands.{Demand1, Demand2, Demand3}
use Rattle.history.specs.AtMostHalf.{AdmittedWithin, AdmissionsAlone, BeginsWithin, LastsWithin, RestoredWithin, NoneTakesHouse, AtMostHalf}
use Rattle.history.proofs.Following.{now_good, result_is, restored_connection}
use Rattle.history.proofs.Refusing.{owner_answers}

-- ---- 20 is an admission's
-- Who answers by checks without it, and else with no refusal, does not give it.
module _ (cs : List Check) (without_20 : without (number CeilingAboveHalf) cs ≡ true) where
  outcome_never : (s : Schedule) (done : Outcome) → ((n : ℕ) → done.answer ≡ refused n → ⊥) → (decided cs (refusing s) done).answer ≡ refused (number CeilingAboveHalf) → ⊥
  outcome_never s done never = refused_without cs _ done.answer (decided_map (λ (o : Outcome). o.answer) cs (refusing s) done) never (number CeilingAboveHalf) without_20

  listed_never : (s : Schedule) (list : List ℕ) (done : Listed) → ((n : ℕ) → done.answer ≡ refused n → ⊥)
      → (decided cs (refusing_list s list) done).answer ≡ refused (number CeilingAboveHalf) → ⊥
  listed_never s list done never = refused_without cs _ done.answer (decided_map (λ (o : Listed). o.answer) cs (refusing_list s list) done) never (number CeilingAboveHalf) without_20

abbrev Asks : Call → Type 0
Asks call = (x : ℕ) × (lo : ℕ) × (hi : ℕ) × (floor : ℕ) × (ceiling : ℕ) × AdmissionOf call x lo hi floor ceiling

asks_alone : (s : Schedule) (call : Call) (lent : Lent) → (ruled_call s call lent).answer ≡ refused (number CeilingAboveHalf) → Asks call
unfolding ruled_call drop_handle drop_done report report_done report_all reports_done owner_of anchor save save_checks save_done load load_checks load_done tidy tidy_checks tidy_done
asks_alone s (Admit x lo hi f c) lent e = (x, lo, hi, f, c, refl)
asks_alone s (Drop x) lent e = absurd (outcome_never (drop_checks s x) refl s (drop_done s x) (λ n q. let z : ◌≡◌ {A = ℕ} 0 1 = cc in omega arith) e)
asks_alone s (Report x sample) lent e =
    absurd (outcome_never (report_checks s x sample) refl s (report_done s x sample) (λ n q. answered (taken s.connections) (connection s x) sample n q) e)
asks_alone s (Reports reports) lent e =
    absurd
    (listed_never (reports_checks (length reports) (length lent.list)) refl s lent.list (reports_done s reports lent.list) (λ n q. let z : ◌≡◌ {A = ℕ} 0 1 = cc in omega arith) e)
asks_alone s (Owner b) lent e = absurd (owner_answers (least handles (λ x. owns (connection s x) b)) (number CeilingAboveHalf) e)
asks_alone s (Anchor x b) lent e =
    absurd
    (refused_without (anchor_checks s x) _ (slots (slots_to_anchor (connection s x) b)) refl (λ n q. let z : ◌≡◌ {A = ℕ} 0 1 = cc in omega arith) (number CeilingAboveHalf) refl e)
asks_alone s Save lent e =
    absurd
    (refused_without (save_checks s lent.buffer) _ (save_done s lent.buffer).answer
    (decided_map (λ (w : Written). w.answer) (save_checks s lent.buffer) (refusing_buffer lent.buffer) (save_done s lent.buffer))
    (λ n q. let z : ◌≡◌ {A = ℕ} 0 1 = cc in omega arith) (number CeilingAboveHalf) refl e)
asks_alone s (Load bytes) lent e =
    absurd (outcome_never (load_checks bytes.list) refl s (load_done bytes.list) (λ n q. let z : ◌≡◌ {A = ℕ} 0 1 = cc in omega arith) e)
asks_alone s Tidy lent e =
    absurd (listed_never (tidy_checks s.connections lent.list) refl s lent.list (tidy_done s lent.list) (λ n q. let z : ◌≡◌ {A = ℕ} 0 1 = cc in omega arith) e)

-- ---- whoever meets the demands
module _ (S : System) (one : Demand1 S) (two : Demand2 S) (three : Demand3 S) (cap : AdmittedWithin S) where
  -- What was made before is itself a run.
  before : (run : Run) (later : List Made) → S (followed run later) → S run
  before run [] s = s
  before run (m ∷ later) s = before run later (one.takes.earlier (followed run later) m s)

  -- Right after it began, twice its ceiling is at most its factor: an admission is held to that, and a restored connection is the image's.
  begun_within : (run : Run) (m : Made) (x floor ceiling : ℕ) → S (more run m) → (b : Begins m x floor ceiling) → BeginsWithin m x floor ceiling b
      → 2 * ceiling ≤ factor (connection (now (more run m)) x)
  unfolding after ruled_call
  begun_within run m x floor ceiling s (admitted lo hi p (F, A, L, a)) w =
      let h = cap run m x lo hi floor ceiling F A L s p a in
      omega (arith, h.0, h.2)
  begun_within run m x floor ceiling s (restored bytes (p, a) t long is_sound image live f c) w =
      let was = after (history_of run) in
      let e : connection (after (history_of (more run m))) x ≡ connection t x =
      ap (λ (call : Call). connection (ruled_call was call m.request.lent).schedule x) p
      ∙ restored_connection was t bytes.list long is_sound image x live in
      let mine = (two.connections (more run m) x s).numbers (ap (λ (c : Connection). c.live) e ∙ live) ∙ e in
      rw mine w

  -- Its factor and its ceiling stay, and its length is at most its ceiling.
  lasts_within : LastsWithin S
  lasts_within run x floor ceiling s a begins =
      let first = more a.earlier a.first in
      let whole : S (followed first a.between) = subst S a.whole s in
      let s₁ = before first a.between whole in
      let live₁ : is_live (now first) x ≡ true =
      (three.lives first x s₁).1 (floor, ceiling, record { earlier = a.earlier; first = a.first; between = []; whole = refl; begins = a.begins; lasts = tt }) in
      let same : (connection (now run) x).k ≡ (connection (now first) x).k =
      ap (λ (r : Run). (connection (now r) x).k) a.whole ∙ (three.steady first a.between x whole live₁ a.lasts).0 in
      let f : factor (connection (now run) x) ≡ factor (connection (now first) x) = ap (λ (k : ℕ). 2 ^ k) same in
      let within = begun_within a.earlier a.first x floor ceiling s₁ a.begins begins in
      let most = (three.bounded run x floor ceiling s a).1 in
      let live = (three.lives run x s).1 (floor, ceiling, a) in
      record {
        in_length = omega (arith, f, within, most);
        in_blocks = λ b. omega (arith, f, within, most, three.counted run x s live b);
      }

  -- Of an earlier part of the run too.
  restored_before : (run : Run) (later : List Made) → RestoredWithin (followed run later) → RestoredWithin run
  restored_before run [] w = w
  restored_before run (m ∷ later) w = restored_before run later w.0

  begins_within : (run : Run) (m : Made) (x floor ceiling : ℕ) → RestoredWithin (more run m) → (b : Begins m x floor ceiling) → BeginsWithin m x floor ceiling b
  begins_within run m x floor ceiling w (admitted lo hi p a) = tt
  begins_within run m x floor ceiling w (restored bytes r t long is_sound image live f c) = rw (← c) (w.1 bytes r t long is_sound image x live)

  -- Each live connection began, by an admission or in an image of the run.
  none_takes_house : NoneTakesHouse S
  none_takes_house run x s w live =
      let l = (three.lives run x s).0 live in
      let a = l.2 in
      let first = more a.earlier a.first in
      lasts_within run x l.0 l.1 s a
      (begins_within a.earlier a.first x l.0 l.1 (restored_before first a.between (subst RestoredWithin a.whole w)) a.begins)

  -- Each answer is the rule's.
  admissions_alone : AdmissionsAlone S
  admissions_alone run m s a = asks_alone (after (history_of run)) m.request.call m.request.lent (sym (two.results run m s).0 ∙ a)

  pub at_most_half : AtMostHalf S
  at_most_half = record { admits = cap; alone = admissions_alone; lasts = lasts_within; house = none_takes_house }

-- ---- the rule sheet's step
half_stored : (run : Run) (m : Made) (x lo hi floor ceiling F A L : ℕ) → By ruled (more run m) → AdmissionOf m.request.call x lo hi floor ceiling
    → m.result.answer ≡ ok F A L → HalfStored (connection (now (more run m)) x) ceiling F
unfolding ruled_call
half_stored run m x lo hi floor ceiling F A L by p a =
    let e = result_is run m by (Admit x lo hi floor ceiling) p in
    subst (λ (t : Result). HalfStored (connection t.schedule x) ceiling F) (sym e)
    (admit_half (now run) (now_good run by.0) x lo hi floor ceiling F A L (sym (ap (λ (t : Result). t.answer) e) ∙ a))

pub admitted_within : AdmittedWithin (By ruled)
admitted_within run m x lo hi floor ceiling F A L by p a =
    let w = half_stored run m x lo hi floor ceiling F A L by p a in
    (w.within, λ whole. omega (arith, whole, w.not_one), w.factored)
