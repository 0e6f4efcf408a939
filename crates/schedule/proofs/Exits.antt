-- What each call comes to at its exits: the forms in which the functions' proofs cite the rules.
use mathlib.Core.Path.{◌≡◌, refl, sym, ap, ap₂, ◌∙◌, subst}
use mathlib.Core.Bool.{Bool, true, false}
use mathlib.Core.List.{List}
use mathlib.Core.Logic.{inl, inr}
use Rattle.std.specs.Prelude.{Result, Err}
use Prim.Native.Nat.{ℕ, ◌+◌, ◌*◌, ◌^◌, ◌≤◌}
use native.Mathlib.Omega.{arith}
use lib.ListN.{set}
use Rattle.rules.specs.declared.Connection.{Connection}
use Rattle.rules.specs.declared.Schedule.{Schedule}
use Rattle.rules.specs.declared.Refusal.{Refusal}
use Rattle.rules.specs.declared.Placed.{Placed}
use Rattle.rules.specs.declared.Adjusted.{Adjusted}
use Rattle.rules.specs.declared.Done.{Done}
use Rattle.rules.specs.declared.Adjusted.TheVariants.{Kept, Grown, Shrunk, Tight}
use Rattle.rules.specs.declared.Meter.{Meter}
use Rattle.rules.specs.declared.Plan.{Plan}
use Rattle.rules.specs.declared.Refusal.{Refusal}
use Rattle.std.specs.Prelude.{Result}
use Rattle.rules.specs.Ownership.{nobody, taken}
use Rattle.rules.specs.Good.{Good, tree_for, with_connections, with_connection}
use Rattle.rules.specs.TreeBytes.{tree_of}
use Rattle.rules.specs.Answers.{Answer, Outcome, ok, dropped, refusing, adjusted, of_admission, of_dropping, of_reporting, outcome}
use Rattle.rules.specs.Handles.{connection, is_live}
use Rattle.rules.specs.Admit.{new_connection, admit}
use Rattle.rules.specs.Drop.{drop_done, drop_handle}
use Rattle.rules.specs.Meter.{moved, need, change, new_length}
use Rattle.meter.specs.Moved.{moved_meter}
use Rattle.rules.specs.Report.{room_to_grow, metered, aim, report_answer, report_length, report_done, report}
use Rattle.rules.specs.Steps.{places, refuses}
use Rattle.place.specs.Steps.{of_plan, plan_step}
use Rattle.rules.specs.Sound.{Numbers}
use Rattle.blocks.proofs.ScheduleLaws.{inside, good_tree, good_sound, longer_tree, shorter_tree, live_runs, dead_runs}
use Rattle.calls.proofs.AnswerLaws.{adjusted_injective}
use Rattle.calls.proofs.AdmitLaws.{admit_good}
use Rattle.place.proofs.PlanLaws.{carry, admit_plan}
use Rattle.calls.proofs.DropLaws.{drop_1, drop_3, drop_ok, drop_good}
use Rattle.calls.proofs.MeterLaws.{change_cases, change_shrunk, target_bounds}
use Rattle.calls.proofs.ReportLaws.{report_1, report_3, report_ok, report_good}
use Rattle.blocks.proofs.RunLaws.{tree_run_none}
use Rattle.tree.specs.Promises.{IsTree}
use Rattle.run.specs.Promises.{SetsRun}
use Rattle.run.specs.Finding.{Refuses}
use Rattle.place.specs.Promises.{Plans}
use Rattle.schedule.specs.Promises.{taken_after, length_in, Settles, Admits, Drops, Reports}

-- The connections with these bytes are their schedule, where the bytes are their tree.
scheduled : (s : Schedule) (cs : List Connection) (bytes : List ℕ) → bytes ≡ tree_for cs → ◌≡◌ {A = Schedule} (record { connections = cs; tree = record { bytes = bytes } }) (with_connections s cs)
unfolding with_connections
scheduled s cs bytes e = ap (λ (t : List ℕ). record { connections = cs; tree = record { bytes = t } }) e

-- A good schedule's bytes are a tree.
pub treed : (s : Schedule) → Good s → IsTree s.tree.bytes
treed s good = (taken s.connections, good_tree s good)

-- ---- admit
module _ (s : Schedule) (good : Good s) (h lo hi f c : ℕ) where
  pub admits : (r : Done (Result Placed Refusal)) → outcome of_admission r ≡ admit s h lo hi f c → Admits s h lo hi f c r
  admits r e = record { is = e; good = subst Good (sym (ap (λ (o : Outcome). o.schedule) e)) (admit_good s good h lo hi f c) }

  -- What the plan says is what the rule says.
  pub plan_says : (r : Result Plan Refusal) → Plans (is_live s h) lo hi f c s.tree.bytes r → plan_step (is_live s h) (taken s.connections) lo hi f c ≡ of_plan r
  plan_says r p = sym (p (taken s.connections) (good_tree s good))

  module _ (b : h ≤ 63) where
    pub admit_refused : (n : ℕ) → plan_step (is_live s h) (taken s.connections) lo hi f c ≡ refuses n → refusing s n ≡ admit s h lo hi f c
    admit_refused n e = sym (admit_plan s h lo hi f c b ∙ ap (carry s h f c) e)

    pub admit_made : (k A F : ℕ) (new : Connection) (bytes : List ℕ)
        → plan_step (is_live s h) (taken s.connections) lo hi f c ≡ places k A → is_live s h ≡ false → F ≡ 2 ^ k
        → new ≡ new_connection k A f c → SetsRun k A 0 f true s.tree.bytes bytes
        → ◌≡◌ {A = Outcome} (record { answer = ok F A f; schedule = record { connections = set s.connections h new; tree = record { bytes = bytes } } }) (admit s h lo hi f c)
    admit_made k A F new bytes e d w n r =
        let t : bytes ≡ tree_for (set s.connections h new) =
        r (taken s.connections) (good_tree s good)
        ∙ longer_tree s.connections h k A 0 f (inside s good h b) (dead_runs k A (connection s h) d) new (rw n (live_runs (new_connection k A f c) refl)) (omega arith) in
        ap₂ (λ (G : ℕ) (x : Schedule). record { answer = ok G A f; schedule = x }) w (scheduled s (set s.connections h new) bytes t)
        ∙ ap (λ (x : Connection). record { answer = ok (2 ^ k) A f; schedule = with_connection s h x }) n
        ∙ sym (admit_plan s h lo hi f c b ∙ ap (carry s h f c) e)

-- ---- drop
-- A run that settles to no block is given back as a whole.
given_back : (c : Connection) (r : Adjusted) (before after : List ℕ) → 1 ≤ c.length → Settles c 0 before after r → SetsRun c.k c.anchor 0 c.length false before after
given_back c r before after some st f e =
    let w = adjusted_injective r (Shrunk 0) (st.answer f e ∙ change_shrunk c.length 0 (room_to_grow f c) (omega arith)) in
    st.tree f e ∙ ap (λ (x : Adjusted). tree_of (taken_after c x f)) w

module _ (s : Schedule) (good : Good s) (h : ℕ) where
  pub drops : (r : Done (Result Unit Refusal)) → outcome of_dropping r ≡ drop_handle s h → Drops s h r
  drops r e = record { is = e; good = subst Good (sym (ap (λ (o : Outcome). o.schedule) e)) (drop_good s good h) }

  -- Checks 1 and 3.
  pub drop_refused : (r : Refusal) → Refuses s h r → Drops s h (record { answer = Err r; schedule = s })
  drop_refused r (inl p) = drops _ (rw p.1 (sym (drop_1 s h p.0)))
  drop_refused r (inr p) = drops _ (rw p.2 (sym (drop_3 s h p.0 p.1)))

  pub drop_made : h ≤ 63 → is_live s h ≡ true → (free : Connection) (r : Adjusted) (bytes : List ℕ) → free ≡ nobody
      → Settles (connection s h) 0 s.tree.bytes bytes r
      → ◌≡◌ {A = Outcome} (record { answer = dropped; schedule = record { connections = set s.connections h free; tree = record { bytes = bytes } } }) (drop_handle s h)
  unfolding drop_done
  drop_made b q free r bytes n st =
      let c = connection s h in
      let t : bytes ≡ tree_for (set s.connections h free) =
      given_back c r s.tree.bytes bytes (omega (arith, (good_sound s good).numbers h q)) st (taken s.connections) (good_tree s good)
      ∙ shorter_tree s.connections h c.k c.anchor c.length 0 (inside s good h b) (live_runs c q) free (rw n (dead_runs c.k c.anchor nobody refl)) (good_sound s good) (omega arith) in
      ap (λ (x : Schedule). record { answer = dropped; schedule = x }) (scheduled s (set s.connections h free) bytes t)
      ∙ ap (λ (x : Connection). record { answer = dropped; schedule = with_connection s h x }) n
      ∙ sym (drop_ok s h b q)

-- ---- report
-- The length aimed at is at most the ceiling.
pub aim_below : (c : Connection) (sample : ℕ) (m : Meter) → Numbers c
    → m ≡ moved_meter (record { estimate = c.estimate; length = c.length }) sample c.floor c.ceiling → m.length ≤ c.ceiling
unfolding moved_meter
aim_below c sample m n e =
    rw (ap (λ (x : Meter). x.length) e) (target_bounds (need (moved c.estimate sample)) c.floor c.ceiling (omega arith)).1

module _ (s : Schedule) (good : Good s) (h sample : ℕ) where
  pub reports : (r : Done (Result Adjusted Refusal)) → outcome of_reporting r ≡ report s h sample → Reports s h sample r
  reports r e = record { is = e; good = subst Good (sym (ap (λ (o : Outcome). o.schedule) e)) (report_good s good h sample) }

  -- Checks 1 and 3.
  pub report_refused : (r : Refusal) → Refuses s h r → Reports s h sample (record { answer = Err r; schedule = s })
  report_refused r (inl p) = reports _ (rw p.1 (sym (report_1 s h sample p.0)))
  report_refused r (inr p) = reports _ (rw p.2 (sym (report_3 s h sample p.0 p.1)))

  module _ (b : h ≤ 63) (q : is_live s h ≡ true) where
    unmoved : (e : ℕ) → tree_of (taken s.connections) ≡ tree_for (set s.connections h (metered (connection s h) (connection s h).length e))
    unmoved e =
        tree_run_none (connection s h).k (connection s h).anchor (connection s h).length (taken s.connections) true
        ∙ longer_tree s.connections h _ _ (connection s h).length (connection s h).length (inside s good h b) (live_runs (connection s h) q) (metered (connection s h) (connection s h).length e) (live_runs (metered (connection s h) (connection s h).length e) q) (omega arith)

    -- The answer has the new length, and the tree that follows it is that of the connection with this length.
    settled : (r : Adjusted) (goal e : ℕ) (room : Bool) (bytes : List ℕ) → adjusted r ≡ change (connection s h).length goal room
        → bytes ≡ tree_of (taken_after (connection s h) r (taken s.connections))
        → (length_in r ≡ new_length (connection s h).length goal room)
        × (bytes ≡ tree_for (set s.connections h (metered (connection s h) (new_length (connection s h).length goal room) e)))
    settled r goal e room bytes =
        let c = connection s h in
        let tree : Adjusted → List ℕ = λ x. tree_of (taken_after c x (taken s.connections)) in
        change_cases c.length goal room (λ a M. adjusted r ≡ a → bytes ≡ tree r → (length_in r ≡ M) × (bytes ≡ tree_for (set s.connections h (metered c M e))))
        (λ l a t. let w = adjusted_injective r (Kept c.length) a in (ap length_in w, t ∙ ap tree w ∙ unmoved e))
        (λ l a t.
        let w = adjusted_injective r (Shrunk goal) a in
        (ap length_in w, t ∙ ap tree w ∙ shorter_tree s.connections h _ _ c.length goal (inside s good h b) (live_runs c q) (metered c goal e) (live_runs (metered c goal e) q) (good_sound s good) (omega arith)))
        (λ l o a t.
        let w = adjusted_injective r (Grown (c.length + 1)) a in
        (ap length_in w, t ∙ ap tree w ∙ longer_tree s.connections h _ _ c.length (c.length + 1) (inside s good h b) (live_runs c q) (metered c (c.length + 1) e) (live_runs (metered c (c.length + 1) e) q) (omega arith)))
        (λ l o a t. let w = adjusted_injective r (Tight c.length) a in (ap length_in w, t ∙ ap tree w ∙ unmoved e))

    pub report_made : sample ≤ (connection s h).length * 7500 → (m : Meter) (r : Adjusted) (bytes : List ℕ) (n : ℕ) (new : Connection)
        → m ≡ moved_meter (record { estimate = (connection s h).estimate; length = (connection s h).length }) sample (connection s h).floor (connection s h).ceiling
        → Settles (connection s h) m.length s.tree.bytes bytes r
        → n ≡ length_in r → new ≡ metered (connection s h) n m.estimate
        → ◌≡◌ {A = Outcome} (record { answer = adjusted r; schedule = record { connections = set s.connections h new; tree = record { bytes = bytes } } }) (report s h sample)
    unfolding report_done report_answer report_length moved_meter
    report_made u m r bytes n new em st en ew =
        let c = connection s h in
        let f = taken s.connections in
        let e = moved c.estimate sample in
        let a : adjusted r ≡ change c.length (aim c sample) (room_to_grow f c) =
        st.answer f (good_tree s good) ∙ ap (λ (x : Meter). change c.length x.length (room_to_grow f c)) em in
        let w = settled r (aim c sample) e (room_to_grow f c) bytes a (st.tree f (good_tree s good)) in
        let after = set s.connections h (metered c (new_length c.length (aim c sample) (room_to_grow f c)) e) in
        let made : new ≡ metered c (new_length c.length (aim c sample) (room_to_grow f c)) e = ew ∙ ap₂ (metered c) (en ∙ w.0) (ap (λ (x : Meter). x.estimate) em) in
        ap₂ (λ (x : Answer) (y : Connection). record { answer = x; schedule = record { connections = set s.connections h y; tree = record { bytes = bytes } } }) a made
        ∙ ap (λ (x : Schedule). record { answer = change c.length (aim c sample) (room_to_grow f c); schedule = x }) (scheduled s after bytes w.1)
        ∙ sym (report_ok s h sample b q u)
