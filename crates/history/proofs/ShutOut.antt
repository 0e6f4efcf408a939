-- The versions that are shut out, each by a computed history.
use Prim.Native.Nat.{ℕ, ◌≤◌}
use mathlib.Core.Path.{◌≡◌, refl, sym, ap, subst, ◌∙◌}
use mathlib.Core.Bool.{Bool, true, false, false≢true}
use mathlib.Core.List.{List, [], ◌∷◌}
use native.Mathlib.Omega.{arith}
use lib.ListN.{get_or, replicate}
use Rattle.rules.specs.declared.Schedule.{Schedule}
use Rattle.rules.specs.declared.Connection.{Connection}
use Rattle.rules.specs.declared.Refusal.TheVariants.{HandleAbove63}
use Rattle.rules.specs.Core.{is_range}
use Rattle.rules.specs.Ownership.{handles, factor, owns}
use Rattle.rules.specs.Subrates.{is_factor}
use Rattle.rules.specs.Good.{fresh, with_connections, with_connection}
use Rattle.rules.specs.Refusals.{number, decided}
use Rattle.rules.specs.Answers.{refused, ok}
use Rattle.rules.specs.Handles.{connection}
use Rattle.rules.specs.Admit.{k_in, anchor_for, admit_checks, admit_done}
use Rattle.rules.specs.Image.{image}
use Rattle.rules.specs.Load.{load_checks, load_done}
use Rattle.blocks.proofs.ScheduleLaws.{nobody_owns, at_free, fresh_is_good}
use Rattle.rules.proofs.Readings.{single as logger}
use Rattle.images.proofs.ImageLaws.{image_bytes}
use Rattle.history.specs.Calls.{Bytes, Call, Admit, Drop, Report, Reports, Owner, Anchor, Save, Load, Tidy, Lent, nothing, Request, ruled_call}
use Rattle.history.specs.Runs.{Fresh, start_of, History, begin, next, after, Made, Run, begun, more, now, history_of, StepFunction, By}
use Rattle.history.specs.Moments.{ReportOf, single as single_report, listed, Ends, admitted, drops, replaced}
use Rattle.history.specs.Demands.{Demand1, IntervalsMeant, FactorsMeant, ResultsGiven, ConnectionsGiven, RoomExact, RestoreExact, Demand2, count_from, Counted, ApartEver, Steady, Lives, Demand3}
use Rattle.history.specs.AtMostHalf.{AtMostHalf}
use Rattle.history.specs.Versions.{RefusesAll, anchors_zero, does_nothing, invents_answers, makes_up_length, ends_another, starts_at_zero, forgets_estimate, never_grows, loses_backups, admits512, restores512, tidies_halfway, tidies_afresh, caps_floor, refuses_with_one}

-- ---- runs of a version
-- What it leaves of a request,
abbrev leaves : StepFunction → Run → Request → Made
leaves step run r = record { request = r; result = step (now run) r }

-- and its run for a history.
unfoldable ran : StepFunction → History → Run
unfolding start_of
ran step (begin start) = begun start (start_of start)
ran step (next h r) =
    let run = ran step h in
    more run (leaves step run r)

ran_by : (step : StepFunction) (h : History) → By step (ran step h)
unfolding ran
ran_by step (begin start) = refl
ran_by step (next h r) = (ran_by step h, refl)

-- ---- the calls
-- A call with nothing lent.
abbrev plain : Call → Request
plain c = record { call = c; lent = nothing }

-- A handle's admission to one block in eight;
abbrev single : ℕ → Request
single x = plain (Admit x 6 48 1 1)

-- and one that may grow to four.
abbrev growing : Request
growing = plain (Admit 0 6 48 1 4)

abbrev start : History
start = begin Fresh

-- ---- what a version's run gives
module _ (step : StepFunction) (h : History) (r : Request) where
  -- Its answer and what it wrote are those of the rule, where results are as given;
  answer_given : ResultsGiven (By step) → (leaves step (ran step h) r).result.answer ≡ (ruled_call (after (history_of (ran step h))) r.call r.lent).answer
  unfolding ran
  answer_given results = (results (ran step h) (leaves step (ran step h) r) (ran_by step h, refl)).0

  buffer_given : ResultsGiven (By step) → (leaves step (ran step h) r).result.lent.buffer ≡ (ruled_call (after (history_of (ran step h))) r.call r.lent).lent.buffer
  unfolding ran
  buffer_given results = ap (λ (l : Lent). l.buffer) (results (ran step h) (leaves step (ran step h) r) (ran_by step h, refl)).1

-- ---- one that refuses all
-- A fresh schedule has room,
pub refuses_all_room : (step : StepFunction) → RefusesAll step → RoomExact (By step) → ⊥
unfolding start_of is_range k_in
refuses_all_room step refuses room =
    let run = begun Fresh (start_of Fresh) in
    let no = refuses (start_of Fresh) (single 0) in
    let yes =
    (room run (leaves step run (single 0)) 0 6 48 1 1 3 (refl, refl) refl (record { handle = refl; unused = refl; range = refl; given = refl; share = refl; half = omega arith })).opens.1
    (0, omega arith, λ j h b e x. ap (λ c. owns c b) (at_free handles x) ∙ nobody_owns b) in
    let e = no.1 in
    let f = yes.3 in
    let z : ◌≡◌ {A = ℕ} 0 1 = cc in
    omega arith

-- and its image is that of a sound one.
pub refuses_all_restore : (step : StepFunction) → RefusesAll step → RestoreExact (By step) → ⊥
refuses_all_restore step refuses restore =
    let bytes : Bytes = record { list = image fresh; small = image_bytes fresh } in
    let run = begun Fresh (start_of Fresh) in
    let no = refuses (start_of Fresh) (plain (Load bytes)) in
    let yes = (restore run (leaves step run (plain (Load bytes))) bytes (refl, refl) refl).1 (fresh, fresh_is_good.places, fresh_is_good.is_sound, refl) in
    let e = no.1 in
    let f = yes.1 in
    let z : ◌≡◌ {A = ℕ} 0 1 = cc in
    omega arith

pub refuses_all : (step : StepFunction) → RefusesAll step → Demand2 (By step) → ⊥
refuses_all step refuses d = refuses_all_room step refuses d.room

-- Also where each refusal is 1.
pub refuses_with_one_lem : RoomExact (By refuses_with_one) → ⊥
refuses_with_one_lem = refuses_all_room refuses_with_one (λ s r. (number HandleAbove63, refl))

-- ---- one that gives every connection anchor 0
-- The second of two admissions is given anchor 0, where 4 is due.
pub anchors_zero_answers : ResultsGiven (By anchors_zero) → ⊥
unfolding ran after ruled_call
anchors_zero_answers results =
    let e : ok 8 0 1 ≡ ok 8 4 1 = answer_given anchors_zero (next start (single 0)) (single 1) results in
    let z : ◌≡◌ {A = ℕ} 0 4 = cc in
    omega arith

-- Block 0 belongs to both.
pub anchors_zero_apart : ApartEver (By anchors_zero) → ⊥
unfolding ran ruled_call owns
anchors_zero_apart apart =
    let h = next (next start (single 0)) (single 1) in
    let z = apart (ran anchors_zero h) 0 1 0 (ran_by anchors_zero h) refl refl in
    omega arith

pub anchors_zero_lem : (Demand2 (By anchors_zero) → ⊥) × (Demand3 (By anchors_zero) → ⊥)
anchors_zero_lem = (λ d. anchors_zero_answers d.results, λ d. anchors_zero_apart d.apart)

-- ---- what stands at a handle
module _ (step : StepFunction) (h : History) (connections : ConnectionsGiven (By step)) where
  -- Handle 0 is live in one exactly if in the other,
  live_given : (connection (now (ran step h)) 0).live ≡ (connection (after (history_of (ran step h))) 0).live
  live_given = (connections (ran step h) 0 (ran_by step h)).live

  -- and has the same numbers.
  numbers_given : (connection (after (history_of (ran step h))) 0).live ≡ true → connection (now (ran step h)) 0 ≡ connection (after (history_of (ran step h))) 0
  numbers_given live = (connections (ran step h) 0 (ran_by step h)).numbers live

-- ---- one that does nothing on report or drop
-- A dropped connection stays live.
pub does_nothing_drop : ConnectionsGiven (By does_nothing) → ⊥
unfolding ran after ruled_call
does_nothing_drop given = false≢true (sym (live_given does_nothing (next (next start growing) (plain (Drop 0))) given))

-- A report of a full block leaves length 1, where 2 is due;
pub does_nothing_report : ConnectionsGiven (By does_nothing) → ⊥
unfolding ran after ruled_call
does_nothing_report given =
    let z : ◌≡◌ {A = ℕ} 1 2 = ap (λ (c : Connection). c.length) (numbers_given does_nothing (next (next start growing) (plain (Report 0 7500))) given refl) in
    omega arith

-- and so does a list that has it.
pub does_nothing_list : ConnectionsGiven (By does_nothing) → ⊥
unfolding ran after ruled_call
does_nothing_list given =
    let list : Request = record { call = Reports (record { handle = 0; sample = 7500 } ∷ []); lent = record { buffer = []; list = 0 ∷ [] } } in
    let z : ◌≡◌ {A = ℕ} 1 2 = ap (λ (c : Connection). c.length) (numbers_given does_nothing (next (next start growing) list) given refl) in
    omega arith

pub does_nothing_lem : Demand2 (By does_nothing) → ⊥
does_nothing_lem d = does_nothing_report d.connections

-- ---- one that schedules the first admission and invents the later answers
-- Anchor 1 is invented, where 4 is due.
pub invents_answers_answers : ResultsGiven (By invents_answers) → ⊥
unfolding ran after ruled_call
invents_answers_answers results =
    let e : ok 8 1 1 ≡ ok 8 4 1 = answer_given invents_answers (next start (single 0)) (single 1) results in
    let z : ◌≡◌ {A = ℕ} 1 4 = cc in
    omega arith

-- Handle 1 was accepted and is not live.
pub invents_answers_lives : Lives (By invents_answers) → ⊥
unfolding ran ruled_call
invents_answers_lives lives =
    let h = next start (single 0) in
    let run = ran invents_answers h in
    false≢true
    ((lives (ran invents_answers (next h (single 1))) 1 (ran_by invents_answers (next h (single 1)))).1 (
      1,
      1,
      record {
        earlier = run;
        first = leaves invents_answers run (single 1);
        between = [];
        whole = refl;
        begins = admitted 6 48 refl (8, 1, 1, refl);
        lasts = tt;
      },
    ))

pub invents_answers_lem : (Demand2 (By invents_answers) → ⊥) × (Demand3 (By invents_answers) → ⊥)
invents_answers_lem = (λ d. invents_answers_answers d.results, λ d. invents_answers_lives d.lives)

-- ---- one whose length is a made-up number
-- 8 blocks cannot hold a thousand.
pub makes_up_length_counted : Counted (By makes_up_length) → ⊥
unfolding ran ruled_call owns count_from
makes_up_length_counted counted =
    let h = next start (single 0) in
    let z : ◌≡◌ {A = ℕ} 8 1000 = counted (ran makes_up_length h) 0 (ran_by makes_up_length h) refl 0 in
    omega arith

pub makes_up_length_lem : Demand3 (By makes_up_length) → ⊥
makes_up_length_lem d = makes_up_length_counted d.counted

-- ---- one that ends a connection nobody dropped
-- A call that is neither a drop nor a restore ends nothing.
abbrev ends_nothing : Call → Bool
ends_nothing (Admit x lo hi floor ceiling) = true
ends_nothing (Drop x) = false
ends_nothing (Report x sample) = true
ends_nothing (Reports reports) = true
ends_nothing (Owner b) = true
ends_nothing (Anchor x b) = true
ends_nothing Save = true
ends_nothing (Load bytes) = false
ends_nothing Tidy = true

ends_nothing_lem : (m : Made) (x : ℕ) → ends_nothing m.request.call ≡ true → Ends m x → ⊥
ends_nothing_lem m x q (drops e a) = false≢true (sym (ap ends_nothing e) ∙ q)
ends_nothing_lem m x q (replaced bytes w) = false≢true (sym (ap ends_nothing w.0) ∙ q)

-- Handle 0, admitted and never dropped, is gone after a question.
pub ends_another_lives : Lives (By ends_another) → ⊥
unfolding ran ruled_call
ends_another_lives lives =
    let first = ran ends_another start in
    let run = ran ends_another (next start (single 0)) in
    let h = next (next start (single 0)) (plain (Owner 0)) in
    false≢true
    ((lives (ran ends_another h) 0 (ran_by ends_another h)).1 (
      1,
      1,
      record {
        earlier = first;
        first = leaves ends_another first (single 0);
        between = leaves ends_another run (plain (Owner 0)) ∷ [];
        whole = refl;
        begins = admitted 6 48 refl (8, 0, 1, refl);
        lasts = (ends_nothing_lem (leaves ends_another run (plain (Owner 0))) 0 refl, tt);
      },
    ))

pub ends_another_lem : Demand3 (By ends_another) → ⊥
ends_another_lem d = ends_another_lives d.lives

-- ---- those that answer nearly as they should
-- Estimate 0, where 5,000 is due.
pub starts_at_zero_lem : ConnectionsGiven (By starts_at_zero) → ⊥
unfolding ran after ruled_call
starts_at_zero_lem given =
    let z : ◌≡◌ {A = ℕ} 0 5000 = ap (λ (c : Connection). c.estimate) (numbers_given starts_at_zero (next start growing) given refl) in
    omega arith

-- The old estimate, where a sample of 5,008 moves it on.
pub forgets_estimate_lem : ConnectionsGiven (By forgets_estimate) → ⊥
unfolding ran after ruled_call
forgets_estimate_lem given =
    let z : ◌≡◌ {A = ℕ} 5000 5001 = ap (λ (c : Connection). c.estimate) (numbers_given forgets_estimate (next (next start growing) (plain (Report 0 5008))) given refl) in
    omega arith

-- Ceiling 1, where 4 was asked for.
pub never_grows_lem : ConnectionsGiven (By never_grows) → ⊥
unfolding ran after ruled_call
never_grows_lem given =
    let z : ◌≡◌ {A = ℕ} 1 4 = ap (λ (c : Connection). c.ceiling) (numbers_given never_grows (next start growing) given refl) in
    omega arith

-- A save of a fresh schedule begins with 0, where 2, the length of the first record's payload, is due.
abbrev backup : Request
backup = record { call = Save; lent = record { buffer = replicate 138 165; list = [] } }

pub loses_backups_lem : ResultsGiven (By loses_backups) → ⊥
unfolding ran after ruled_call
loses_backups_lem results =
    let z : ◌≡◌ {A = ℕ} 0 2 = ap (λ (b : List ℕ). get_or b 0 0) (buffer_given loses_backups start backup results) in
    omega arith

-- None of the four meets demand 2.
pub nearly_right : (Demand2 (By starts_at_zero) → ⊥) × (Demand2 (By forgets_estimate) → ⊥) × (Demand2 (By never_grows) → ⊥) × (Demand2 (By loses_backups) → ⊥)
nearly_right = (λ d. starts_at_zero_lem d.connections, λ d. forgets_estimate_lem d.connections, λ d. never_grows_lem d.connections, λ d. loses_backups_lem d.results)

-- ---- one that still admits F 512
-- The interval 3,072 gets it, and the Core Specification allows no such factor.
pub admits_512 : IntervalsMeant (By admits512) → ⊥
unfolding ran ruled_call anchor_for
admits_512 meant =
    let h = next start (plain (Admit 0 6 3072 1 1)) in
    let run = ran admits512 start in
    false≢true (meant run (leaves admits512 run (plain (Admit 0 6 3072 1 1))) 0 6 3072 1 1 512 0 1 (ran_by admits512 h) refl refl).legal

-- ---- and one that still restores it
-- The image of one logger of F 512 is taken, and the logger is live.
abbrev slower : Schedule
slower = with_connection fresh 0 (logger 9 0 5000)

pub restores_512 : FactorsMeant (By restores512) → ⊥
unfolding ran fresh with_connections image load_checks load_done decided
restores_512 meant =
    let h = next start (plain (Load (record { list = image slower; small = image_bytes slower }))) in
    let e : connection (now (ran restores512 h)) 0 ≡ logger 9 0 5000 = refl in
    false≢true (subst (λ (c : Connection). is_factor (factor c) ≡ true) e (meant (ran restores512 h) 0 (ran_by restores512 h) (ap (λ (c : Connection). c.live) e)))

-- ---- one that tidies halfway
-- Handle 0 has two blocks in eight, 1 and 2 one in four each. In a tidy's order 1 and 2 take anchors 0 and 2, and 0 finds none: the tidy is refused, and 1 is at 0
-- where it was at 2.
abbrev crowded : History
crowded = next (next (next start (plain (Admit 0 6 48 2 2))) (plain (Admit 1 6 24 1 1))) (plain (Admit 2 6 24 1 1))

pub tidies_halfway_lem : Demand1 (By tidies_halfway) → ⊥
unfolding ran tidies_halfway ruled_call
tidies_halfway_lem d =
    let run = ran tidies_halfway crowded in
    let m = leaves tidies_halfway run (plain Tidy) in
    let said : m.result.answer ≡ refused 19 = refl in
    let z : ◌≡◌ {A = ℕ} 0 2 = ap (λ (s : Schedule). (connection s 1).anchor) (d.refusals run m 19 (ran_by tidies_halfway (next crowded (plain Tidy))) said).schedule in
    omega arith

-- ---- and one that admits anew
-- A tidy is nobody's report.
tidying_reports_nothing : (x : ℕ) → ReportOf Tidy x → ⊥
tidying_reports_nothing x (single_report sample e) = let z : ◌≡◌ {A = ℕ} 0 1 = cc in omega arith
tidying_reports_nothing x (listed reports e among) = let z : ◌≡◌ {A = ℕ} 0 1 = cc in omega arith

-- Handle 0 has grown to two blocks; after the tidy it has one, and no report of its own lies between.
abbrev grown_once : History
grown_once = next (next start growing) (plain (Report 0 7500))

pub tidies_afresh_lem : Steady (By tidies_afresh) → ⊥
unfolding ran ruled_call with_connections
tidies_afresh_lem steady =
    let run = ran tidies_afresh grown_once in
    let m = leaves tidies_afresh run (plain Tidy) in
    let w = steady run (m ∷ []) 0 (ran_by tidies_afresh (next grown_once (plain Tidy))) refl (ends_nothing_lem m 0 refl, tt) in
    let z : ◌≡◌ {A = ℕ} 1 2 = (w.2 (tidying_reports_nothing 0, tt)).0 in
    omega arith

-- ---- one that reads the cap off the floor
-- A logger of every other block that may have every block is turned away, as twice 2 is above 2; here it is placed.
abbrev greedy : Request
greedy = plain (Admit 0 6 12 1 2)

pub caps_floor_answers : ResultsGiven (By caps_floor) → ⊥
unfolding ran after ruled_call admit_checks admit_done decided
caps_floor_answers results =
    let e : ok 2 0 1 ≡ refused 20 = answer_given caps_floor start greedy results in
    let z : ◌≡◌ {A = ℕ} 0 1 = cc in
    omega arith

-- One report of a full block, and every block is its own.
pub caps_floor_half : AtMostHalf (By caps_floor) → ⊥
unfolding ran ruled_call admit_checks admit_done decided owns count_from
caps_floor_half half =
    let first = ran caps_floor start in
    let run = ran caps_floor (next start greedy) in
    let h = next (next start greedy) (plain (Report 0 7500)) in
    let grows = leaves caps_floor run (plain (Report 0 7500)) in
    let w =
    half.lasts (ran caps_floor h) 0 1 2 (ran_by caps_floor h)
    (record {
      earlier = first;
      first = leaves caps_floor first greedy;
      between = grows ∷ [];
      whole = refl;
      begins = admitted 6 12 refl (2, 0, 1, refl);
      lasts = (ends_nothing_lem grows 0 refl, tt);
    })
    tt in
    let z : 2 ≤ 1 = w.in_blocks 0 in
    omega arith

pub caps_floor_lem : (Demand2 (By caps_floor) → ⊥) × (AtMostHalf (By caps_floor) → ⊥)
caps_floor_lem = (λ d. caps_floor_answers d.results, caps_floor_half)
