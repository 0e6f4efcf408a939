-- What a report means.
use mathlib.Core.Path.{◌≡◌, refl, sym, ap, ◌∙◌}
use mathlib.Core.Bool.{Bool, true, false, not, ◌&&◌, false≢true}
use mathlib.Core.List.{[], ◌∷◌}
use mathlib.Core.Logic.{◌≢◌, by_cases, ◌↔◌, ◌⊎◌, inl, inr}
use Prim.Native.Nat.{ℕ, ◌+◌, ◌*◌, ◌%◌, ◌<◌, ◌≤◌}
use native.Mathlib.Nat.{mod-lt}
use native.Mathlib.Decide.{ℕ_discrete}
use native.Mathlib.Omega.{arith}
use lib.Pow.{pow_pos}
use lib.Dec.{ltb}
use borrow.Author.Tests.{lt-ltb, le-ltb, ltb-true, ltb-false, not-false}
use Rattle.rules.specs.declared.Connection.{Connection}
use Rattle.rules.specs.declared.Schedule.{Schedule}
use Rattle.rules.specs.declared.Refusal.{Refusal}
use Rattle.rules.specs.declared.Refusal.TheVariants.{HandleAbove63, HandleNotLive, SampleAboveRun}
use Rattle.rules.specs.Time.{block_micros, minus_mod}
use Rattle.rules.specs.Ownership.{factor, at, belongs, owns, taken}
use Rattle.rules.specs.Classes.{depth}
use Rattle.rules.specs.Good.{Good, FreeSlotsZero}
use Rattle.rules.specs.Answers.{Outcome, refusing, grown}
use Rattle.rules.specs.Handles.{connection, is_live}
use Rattle.rules.specs.Refusals.{number}
use Rattle.rules.specs.Meter.{moved, need, change, new_length}
use Rattle.rules.specs.Report.{room_to_grow, metered, report_checks, aim, report_answer, report_length, report_done, report}
use Rattle.basics.proofs.BoolLaws.{both, is_false}
use Rattle.blocks.proofs.EndlessTime.{minus_mod_back}
use Rattle.rules.specs.Sound.{Numbers}
use Rattle.blocks.proofs.SoundLaws.{class_free_ever, good_connections}
use Rattle.blocks.proofs.ScheduleLaws.{others, others_at, others_apart, inside, good_sound, set_good, set_zero, set_other, set_same}
use Rattle.calls.proofs.MeterLaws.{moved_most, need_holds, target_bounds, target_enough, target_next, change_grown, change_cases, change_names}
use Rattle.calls.proofs.AnswerLaws.{values}
use Rattle.calls.proofs.RefusalLaws.{FirstRefusal, decided_cases, decided_first, decided_passed}
use Rattle.blocks.proofs.ClassLaws.{within_depth}

-- ---- each exit
module _ (s : Schedule) (h sample : ℕ) where
  refused_first : {n : ℕ} → FirstRefusal (report_checks s h sample) n → report s h sample ≡ refusing s n
  unfolding report
  refused_first = decided_first (report_checks s h sample) (refusing s) (report_done s h sample)

  pub report_1 : 63 < h → report s h sample ≡ refusing s (number HandleAbove63)
  report_1 p = refused_first (inl (lt-ltb 63 h p, refl))

  module _ (p : h ≤ 63) where
    pub report_3 : is_live s h ≡ false → report s h sample ≡ refusing s (number HandleNotLive)
    report_3 q = refused_first (inr (le-ltb 63 h p, inl (ap not q, refl)))

    module _ (q : is_live s h ≡ true) where
      pub report_7 : (connection s h).length * 7500 < sample → report s h sample ≡ refusing s (number SampleAboveRun)
      report_7 l = refused_first (inr (le-ltb 63 h p, inr (ap not q, inl (lt-ltb ((connection s h).length * 7500) sample l, refl))))

      pub report_ok : sample ≤ (connection s h).length * 7500 → report s h sample ≡ report_done s h sample
      unfolding report
      report_ok l = decided_passed (report_checks s h sample) (refusing s) (report_done s h sample) (le-ltb 63 h p, (ap not q, (le-ltb ((connection s h).length * 7500) sample l, tt)))

-- ---- a report that is carried out
-- A connection with another length and another estimate, and nothing else of it changed.
abbrev pub Metered : Connection → Connection → Type 0
Metered before after = (length : ℕ) × (estimate : ℕ) × (after ≡ metered before length estimate)

pub record Reportable (s : Schedule) (h sample : ℕ) : Type 0 where
  pub handle : h ≤ 63
  pub live : is_live s h ≡ true
  pub used : sample ≤ (connection s h).length * block_micros

pub report_cases {ℓ} : (s : Schedule) (h sample : ℕ) (P : Outcome → Type ℓ) → ((why : Refusal) → P (refusing s (number why))) → (Reportable s h sample → P (report_done s h sample)) → P (report s h sample)
unfolding report
report_cases s h sample P f g =
    decided_cases P (report_checks s h sample) (refusing s) (report_done s h sample) f
    (λ p. g (record { handle = ltb-false 63 h p.0; live = not-false (is_live s h) p.1.0; used = ltb-false _ sample p.1.1.0 }))

-- Room to grow: in a sound schedule no block of the class of (A + L) mod F, in endless time, belongs to a live connection.
pub room_ever : (s : Schedule) → Good s → (c : Connection) → c.k ≤ depth
    → (room_to_grow (taken s.connections) c ≡ true) ↔ ((b h : ℕ) → b % factor c ≡ (c.anchor + c.length) % factor c → owns (at s.connections h) b ≡ false)
unfolding room_to_grow
room_ever s good c hk = class_free_ever s.connections c.k ((c.anchor + c.length) % factor c) (good_connections s good) hk (mod-lt (c.anchor + c.length) (pow_pos c.k))

module _ (s : Schedule) (good : Good s) (h sample : ℕ) (r : Reportable s h sample) where
  pub old_numbers : Numbers (connection s h)
  old_numbers = (good_sound s good).numbers h r.live

  -- The new estimate is at most what the old length holds.
  pub estimate_most : moved (connection s h).estimate sample ≤ (connection s h).length * 7500
  estimate_most = moved_most (connection s h).estimate sample ((connection s h).length * 7500) old_numbers.metered r.used

  -- "Above L (it is then L + 1)."
  pub aim_next : aim (connection s h) sample ≤ (connection s h).length + 1
  aim_next = target_next (moved (connection s h).estimate sample) (connection s h).length (connection s h).floor (connection s h).ceiling estimate_most old_numbers.floored

  -- Whatever the answer, the new length lies between floor and ceiling and holds the new estimate.
  length_right : (room : Bool)
      → ((connection s h).floor ≤ new_length (connection s h).length (aim (connection s h) sample) room)
      × (new_length (connection s h).length (aim (connection s h) sample) room ≤ (connection s h).ceiling)
      × (moved (connection s h).estimate sample ≤ new_length (connection s h).length (aim (connection s h) sample) room * 7500)
  length_right room =
      let c = connection s h in
      let e = moved c.estimate sample in
      let n = old_numbers in
      let most : e ≤ c.length * 7500 = estimate_most in
      let b = target_bounds (need e) c.floor c.ceiling (omega arith) in
      change_cases c.length (aim c sample) room (λ a M. (c.floor ≤ M) × (M ≤ c.ceiling) × (e ≤ M * 7500))
      (λ q. (n.floored, n.ceiled, most))
      (λ l. (b.0, b.1, omega (arith, target_enough (need e) c.floor c.ceiling (omega arith), need_holds e)))
      (λ l q. (omega arith, omega arith, omega arith))
      (λ l q. (n.floored, n.ceiled, most))

  -- The connection afterwards.
  abbrev pub new : Connection
  new = metered (connection s h) (report_length (taken s.connections) (connection s h) sample) (moved (connection s h).estimate sample)

  new_numbers : Numbers new
  unfolding report_length
  new_numbers =
      let n = old_numbers in
      let w = length_right (room_to_grow (taken s.connections) (connection s h)) in
      record { deep = n.deep; anchored = n.anchored; positive = n.positive; floored = w.0; ceiled = w.1; whole = n.whole; metered = w.2 }

  -- A block of the new run is one of the old run, or one of the class that is free.
  new_apart : (b : ℕ) → owns new b ≡ true → others s.connections h b ≡ false
  unfolding report_length owns belongs
  new_apart b =
      let c = connection s h in
      let o = minus_mod b c.anchor (factor c) in
      let mine : o < c.length → others s.connections h b ≡ false =
      λ l. others_apart s.connections h (inside s good h r.handle) (good_sound s good) b (rw r.live (lt-ltb o c.length l)) in
      change_cases c.length (aim c sample) (room_to_grow (taken s.connections) c)
      (λ a M. c.live && ltb o M ≡ true → others s.connections h b ≡ false)
      (λ q e. mine (ltb-true o c.length (both c.live _ e).1))
      (λ l e. mine (omega (arith, ltb-true o (aim c sample) (both c.live _ e).1)))
      (λ l q e.
      by_cases (ℕ_discrete o c.length)
      (λ x.
      is_false (others s.connections h b) (λ t.
      let w = others_at s.connections h (inside s good h r.handle) b t in
      false≢true (sym ((room_ever s good c (within_depth old_numbers.deep)).0 q b w.0 (sym (minus_mod_back b c.anchor (factor c) (pow_pos c.k)) ∙ ap (λ (y : ℕ). (c.anchor + y) % factor c) x)) ∙ w.2)))
      (λ x. mine (omega (arith, ltb-true o (c.length + 1) (both c.live _ e).1))))
      (λ l q e. mine (ltb-true o c.length (both c.live _ e).1))

pub answer_is : (s : Schedule) (h sample : ℕ) → Reportable s h sample
    → (report s h sample).answer ≡ change (connection s h).length (aim (connection s h) sample) (room_to_grow (taken s.connections) (connection s h))
unfolding report_done report_answer
answer_is s h sample r = ap (λ (o : Outcome). o.answer) (report_ok s h sample r.handle r.live r.used)

module _ (s : Schedule) (good : Good s) (h sample : ℕ) where
  -- A report leaves a good schedule.
  pub report_good : Good (report s h sample).schedule
  unfolding report_done
  report_good = report_cases s h sample (λ o. Good o.schedule) (λ n. good) (λ r. set_good s good h r.handle (new s good h sample r) (λ e. new_numbers s good h sample r) (new_apart s good h sample r))

  pub report_zero : FreeSlotsZero s → FreeSlotsZero (report s h sample).schedule
  unfolding report_done
  report_zero z = report_cases s h sample (λ o. FreeSlotsZero o.schedule) (λ n. z) (λ r. set_zero s good h r.handle z (new s good h sample r) (λ e. absurd (false≢true (sym e ∙ r.live))))

  -- Every other connection is as it was.
  pub report_others : (j : ℕ) → j ≢ h → connection (report s h sample).schedule j ≡ connection s j
  unfolding report_done
  report_others j n = report_cases s h sample (λ o. connection o.schedule j ≡ connection s j) (λ m. refl) (λ r. set_other s good h r.handle (new s good h sample r) j n)

  -- So a connection is as it was, or it is that of the report, and has another length and another estimate.
  pub report_own : (j : ℕ) → (connection (report s h sample).schedule j ≡ connection s j) ⊎ ((j ≡ h) × Metered (connection s j) (connection (report s h sample).schedule j))
  unfolding report_done
  report_own j =
      by_cases (ℕ_discrete j h)
      (λ q.
      report_cases s h sample (λ o. (connection o.schedule j ≡ connection s j) ⊎ ((j ≡ h) × Metered (connection s j) (connection o.schedule j)))
      (λ why. inl refl)
      (λ r. let c = new s good h sample r in inr (q, (c.length, c.estimate, rw q (set_same s good h r.handle c)))))
      (λ q. inl (report_others j q))

  -- Where it is carried out, the connection has the new length and the new estimate, and nothing else of it changes;
  pub report_stored : (r : Reportable s h sample) → connection (report s h sample).schedule h ≡ new s good h sample r
  unfolding report_done
  report_stored r = ap (λ (o : Outcome). connection o.schedule h) (report_ok s h sample r.handle r.live r.used) ∙ set_same s good h r.handle (new s good h sample r)

  -- and the answer names that length.
  pub report_names : Reportable s h sample → values (report s h sample).answer ≡ (connection (report s h sample).schedule h).length ∷ []
  unfolding report_length
  report_names r =
      ap values (answer_is s h sample r)
      ∙ change_names (connection s h).length (aim (connection s h) sample) (room_to_grow (taken s.connections) (connection s h))
      ∙ ap (λ (c : Connection). c.length ∷ []) (sym (report_stored r))

-- Growth is given exactly if the target is above L and no block of the class of (A + L) mod F belongs to a live connection.
pub grown_exactly : (s : Schedule) (good : Good s) (h sample : ℕ) (r : Reportable s h sample)
    → ((report s h sample).answer ≡ grown ((connection s h).length + 1))
    ↔ (((connection s h).length < aim (connection s h) sample)
    × ((b j : ℕ) → b % factor (connection s h) ≡ ((connection s h).anchor + (connection s h).length) % factor (connection s h) → owns (at s.connections j) b ≡ false))
grown_exactly s good h sample r =
    let c = connection s h in
    let f = taken s.connections in
    let e : (report s h sample).answer ≡ change c.length (aim c sample) (room_to_grow f c) = answer_is s h sample r in
    let ever = room_ever s good c (within_depth (old_numbers s good h sample r).deep) in
    (λ q. to c (aim c sample) (room_to_grow f c) (sym e ∙ q) ever.0, λ w. e ∙ change_grown c.length (aim c sample) (room_to_grow f c) w.0 (ever.1 w.1))
  where
    to : (c : Connection) (a : ℕ) (room : Bool) {X : Type 0} → change c.length a room ≡ grown (c.length + 1) → (room ≡ true → X) → (c.length < a) × X
    to c a room {X} =
        change_cases c.length a room (λ x M. x ≡ grown (c.length + 1) → (room ≡ true → X) → (c.length < a) × X)
        (λ q e k. let z : ◌≡◌ {A = ℕ} 0 1 = cc in absurd (omega arith))
        (λ l e k. let z : ◌≡◌ {A = ℕ} 0 1 = cc in absurd (omega arith))
        (λ l q e k. (l, k q))
        (λ l q e k. let z : ◌≡◌ {A = ℕ} 0 1 = cc in absurd (omega arith))
