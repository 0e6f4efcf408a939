-- What a tidy means.
use mathlib.Core.Path.{◌≡◌, refl, sym, ap, ◌∙◌, subst⁻¹}
use mathlib.Core.Bool.{true, false, false≢true}
use mathlib.Core.Logic.{by_cases, ◌↔◌, ◌⊎◌, inl, inr}
use mathlib.Core.List.{List, [], ◌∷◌, ◌++◌}
use mathlib.Core.Option
use mathlib.Core.Option.{Option, none, some, none-ne-some}
use Prim.Native.Nat.{ℕ, ◌+◌, ◌*◌, ◌^◌, ◌<◌, ◌≤◌}
use native.Mathlib.Decide.{dec_le}
use native.Mathlib.Omega.{arith}
use lib.ListN.{length, get_or, take}
use borrow.Author.Tests.{lt-ltb, le-ltb, ltb-true, ltb-false}
use Rattle.rules.specs.declared.Connection.{Connection}
use Rattle.rules.specs.declared.Schedule.{Schedule}
use Rattle.rules.specs.declared.Refusal.{Refusal}
use Rattle.rules.specs.declared.Refusal.TheVariants.{NoAnchorForAll, ListShort}
use Rattle.rules.specs.Below.{is_none}
use Rattle.rules.specs.Lent.{over}
use Rattle.rules.specs.Ownership.{handles, nobody, at}
use Rattle.rules.specs.Mirror.{mirrored}
use Rattle.rules.specs.Good.{Good, FreeSlotsZero, with_connections}
use Rattle.rules.specs.Refusals.{number, Check, check}
use Rattle.rules.specs.Answers.{Listed, refusing_list, refused, tidied}
use Rattle.rules.specs.Handles.{connection, is_live}
use Rattle.rules.specs.Tidy.{tidy_order, with_anchor, arranged, anew, Move, moves, move_width, entries, entries_in, tidy_checks, tidy_done, tidy}
use Rattle.basics.proofs.BoolLaws.{is_false}
use Rattle.basics.proofs.BelowLaws.{is_none_lem, is_some}
use Rattle.basics.proofs.LentLaws.{over_new, over_old, over_length}
use Rattle.blocks.proofs.SoundLaws.{sound_exactly, connected_good}
use Rattle.blocks.proofs.ScheduleLaws.{good_sound}
use Rattle.calls.proofs.RefusalLaws.{InTable, Passed, decided_cases, decided_first, decided_passed, decided_map, refused_same, refused_at}
use Rattle.calls.proofs.ArrangeLaws.{Placing, placing_arranged, arranged_same, arranged_free, arranged_live, FreeOf, arranged_first, Stuck, stuck_exactly}
use Rattle.calls.proofs.AlikeLaws.{arranged_again}
use Rattle.calls.proofs.MoveLaws.{moves_most, moves_none, entries_length, Entry, entry_at}

-- ---- the two checks
-- The connections afterwards are those that all found.
pub anew_found : (cs new : List Connection) → arranged cs ≡ some new → anew cs ≡ new
anew_found cs new e = ap (λ (o : Option (List Connection)). Option.get_or o cs) e

-- The moves of a tidy.
abbrev pub moves_of : Schedule → List Move
moves_of s = moves s.connections (anew s.connections)

-- What it leaves where it is carried out with these connections.
abbrev pub tidied_into : Schedule → List Connection → List ℕ → Listed
tidied_into s new list =
    let moved = moves s.connections new in
    record { answer = tidied (length moved); schedule = with_connections s new; list = over (entries moved) list }

-- An answer that is carried out is no refusal, and says one number.
no_refusal : (m n : ℕ) → tidied m ≡ refused n → ⊥
no_refusal m n e = let z : ◌≡◌ {A = ℕ} 0 1 = cc in omega arith

same_count : (m n : ℕ) → tidied m ≡ tidied n → m ≡ n
same_count m n e = cc

module _ (s : Schedule) (list : List ℕ) where
  done_found : (new : List Connection) → arranged s.connections ≡ some new → tidy_done s list ≡ tidied_into s new list
  unfolding tidy_done
  done_found new e = ap (λ (x : List Connection). tidied_into s x list) (anew_found s.connections new e)

  -- It is refused, or all find an anchor, the list has an entry for each move, and it is carried out.
  pub tidy_cases : (P : Listed → Type 0) → ((why : Refusal) → P (refusing_list s list (number why)))
      → ((new : List Connection) → arranged s.connections ≡ some new → length (moves s.connections new) ≤ entries_in list → P (tidied_into s new list))
      → P (tidy s list)
  unfolding tidy tidy_checks
  tidy_cases P f g =
      decided_cases P (tidy_checks s.connections list) (refusing_list s list) (tidy_done s list) f
      (λ p.
      let w = is_some (arranged s.connections) p.0 in
      let l = ltb-false (entries_in list) (length (moves_of s)) p.1.0 in
      subst⁻¹ P (done_found w.0 w.1) (g w.0 w.1 (rw (anew_found s.connections w.0 w.1) at l)))

  -- So it answers with a refusal, or with a count.
  pub tidy_says : ((n : ℕ) × ((tidy s list).answer ≡ refused n)) ⊎ ((n : ℕ) × ((tidy s list).answer ≡ tidied n))
  tidy_says =
      tidy_cases (λ o. ((n : ℕ) × (o.answer ≡ refused n)) ⊎ ((n : ℕ) × (o.answer ≡ tidied n)))
      (λ why. inl (number why, refl)) (λ new e l. inr (length (moves s.connections new), refl))

  pub tidy_19 : arranged s.connections ≡ none → tidy s list ≡ refusing_list s list (number NoAnchorForAll)
  unfolding tidy tidy_checks
  tidy_19 e = decided_first (tidy_checks s.connections list) (refusing_list s list) (tidy_done s list) (inl (ap is_none e, refl))

  module _ (new : List Connection) (e : arranged s.connections ≡ some new) where
    pub tidy_14 : entries_in list < length (moves s.connections new) → tidy s list ≡ refusing_list s list (number ListShort)
    unfolding tidy tidy_checks
    tidy_14 l =
        decided_first (tidy_checks s.connections list) (refusing_list s list) (tidy_done s list)
        (inr (ap is_none e, inl (rw (anew_found s.connections new e) (lt-ltb (entries_in list) (length (moves s.connections new)) l), refl)))

    pub tidy_ok : length (moves s.connections new) ≤ entries_in list → tidy s list ≡ tidied_into s new list
    unfolding tidy tidy_checks
    tidy_ok l =
        decided_passed (tidy_checks s.connections list) (refusing_list s list) (tidy_done s list)
        (ap is_none e, (rw (anew_found s.connections new e) (le-ltb (entries_in list) (length (moves s.connections new)) l), tt))
        ∙ done_found new e

  -- It is one of these three.
  by_arranged : {X : Type 0} → (arranged s.connections ≡ none → X)
      → ((new : List Connection) → arranged s.connections ≡ some new → entries_in list < length (moves s.connections new) → X)
      → ((new : List Connection) → arranged s.connections ≡ some new → length (moves s.connections new) ≤ entries_in list → X) → X
  by_arranged {X} stuck short fits = go (arranged s.connections) refl
    where
      go : (o : Option (List Connection)) → arranged s.connections ≡ o → X
      go none q = stuck q
      go (some new) q =
          by_cases (dec_le (length (moves s.connections new)) (entries_in list)) (λ l. fits new q l) (λ l. short new q (omega arith))

  said : {o : Listed} → tidy s list ≡ o → (tidy s list).answer ≡ o.answer
  said e = ap (λ (o : Listed). o.answer) e

  -- A refusal is of the table, and leaves the schedule and the list as they were.
  pub tidy_refusal_listed : (n : ℕ) → (tidy s list).answer ≡ refused n → InTable n × ((tidy s list).schedule ≡ s) × ((tidy s list).list ≡ list)
  tidy_refusal_listed n =
      tidy_cases (λ o. o.answer ≡ refused n → InTable n × (o.schedule ≡ s) × (o.list ≡ list))
      (λ why e. ((why, sym (refused_same e)), refl, refl))
      (λ new e l q. absurd (no_refusal (length (moves s.connections new)) n q))

  -- Where it is carried out: all find an anchor, and its answer is how many anchors differ.
  pub tidy_done_lem : (n : ℕ) → (tidy s list).answer ≡ tidied n
      → (new : List Connection) × (arranged s.connections ≡ some new) × (length (moves s.connections new) ≤ entries_in list)
      × (n ≡ length (moves s.connections new)) × (tidy s list ≡ tidied_into s new list)
  tidy_done_lem n e =
      by_arranged (λ q. absurd (no_refusal n 19 (sym e ∙ said (tidy_19 q)))) (λ new q l. absurd (no_refusal n 14 (sym e ∙ said (tidy_14 new q l))))
      (λ new q l. (new, q, l, same_count n (length (moves s.connections new)) (sym e ∙ said (tidy_ok new q l)), tidy_ok new q l))

  -- "the new anchors take effect together"
  pub tidy_after : (n : ℕ) → (tidy s list).answer ≡ tidied n → (tidy s list).schedule.connections ≡ anew s.connections
  unfolding with_connections
  tidy_after n e =
      let w = tidy_done_lem n e in
      ap (λ (o : Listed). o.schedule.connections) w.4 ∙ sym (anew_found s.connections w.0 w.1)

-- ---- what it leaves
module _ (s : Schedule) (good : Good s) (list : List ℕ) where
  placing : (new : List Connection) → arranged s.connections ≡ some new → Placing s.connections (tidy_order s.connections) new
  placing = placing_arranged s.connections good.places (good_sound s good)

  -- A good schedule,
  pub tidy_good : Good (tidy s list).schedule
  tidy_good =
      tidy_cases s list (λ o. Good o.schedule) (λ why. good)
      (λ new e l. connected_good s new (placing new e).long ((sound_exactly new).1 (placing new e).sounds))

  -- in which free slots are zeros;
  pub tidy_zero : FreeSlotsZero s → FreeSlotsZero (tidy s list).schedule
  unfolding with_connections
  tidy_zero z =
      tidy_cases s list (λ o. FreeSlotsZero o.schedule) (λ why. z)
      (λ new e l h dead.
      arranged_free s.connections good.places (good_sound s good) new e h
      (sym (arranged_live s.connections good.places (good_sound s good) new e h) ∙ dead))

  -- the same handles are live;
  pub tidy_lives : (h : ℕ) → is_live (tidy s list).schedule h ≡ is_live s h
  unfolding with_connections
  tidy_lives h =
      tidy_cases s list (λ o. is_live o.schedule h ≡ is_live s h) (λ why. refl)
      (λ new e l. arranged_live s.connections good.places (good_sound s good) new e h)

  -- and of each live one all but the anchor is what it was.
  pub tidy_same : (h : ℕ) → is_live s h ≡ true → connection (tidy s list).schedule h ≡ with_anchor (connection s h) (connection (tidy s list).schedule h).anchor
  unfolding with_connections
  tidy_same h live =
      tidy_cases s list (λ o. connection o.schedule h ≡ with_anchor (connection s h) (connection o.schedule h).anchor) (λ why. refl)
      (λ new e l. arranged_same s.connections good.places (good_sound s good) new e h live)

  -- Where it is accepted a free slot is all zeros, whatever it was.
  pub tidy_free : (n : ℕ) → (tidy s list).answer ≡ tidied n → (h : ℕ) → is_live s h ≡ false → connection (tidy s list).schedule h ≡ nobody
  tidy_free n e h dead =
      let w = tidy_done_lem s list n e in
      ap (λ (cs : List Connection). at cs h) (tidy_after s list n e ∙ anew_found s.connections w.0 w.1)
      ∙ arranged_free s.connections good.places (good_sound s good) w.0 w.1 h dead

-- ---- the anchors
module _ (s : Schedule) (good : Good s) (list : List ℕ) where
  -- The new anchor of each is the first in node order whose whole run is free, in endless time, of those before it in the order.
  pub tidy_first : (n : ℕ) → (tidy s list).answer ≡ tidied n → (before later : List ℕ) (h : ℕ) → tidy_order s.connections ≡ before ++ (h ∷ later)
      → (p : ℕ) × (p < 2 ^ (connection s h).k) × ((connection (tidy s list).schedule h).anchor ≡ mirrored (connection s h).k p)
      × FreeOf (tidy s list).schedule.connections before (connection s h).k (connection s h).length (mirrored (connection s h).k p)
      × ((q : ℕ) → q < p → FreeOf (tidy s list).schedule.connections before (connection s h).k (connection s h).length (mirrored (connection s h).k q) → ⊥)
  tidy_first n e before later h o =
      let w = tidy_done_lem s list n e in
      let after = tidy_after s list n e ∙ anew_found s.connections w.0 w.1 in
      rw after (arranged_first s.connections good.places (good_sound s good) w.0 w.1 before later h o)

-- ---- when it is refused
module _ (s : Schedule) (good : Good s) (list : List ℕ) where
  stuck : (arranged s.connections ≡ none) ↔ Stuck s.connections
  stuck = stuck_exactly s.connections good.places (good_sound s good)

  not_stuck : (new : List Connection) → arranged s.connections ≡ some new → Stuck s.connections → ⊥
  not_stuck new q t = none-ne-some new (sym (stuck.1 t) ∙ q)

  refused_by : (i : ℕ) (other : Check) → i < 2
      → ((tidy s list).answer ≡ refused (number (get_or (tidy_checks s.connections list) i other).why))
      ↔ (Passed (take i (tidy_checks s.connections list)) × ((get_or (tidy_checks s.connections list) i other).refuses ≡ true))
  unfolding tidy tidy_checks tidy_done
  refused_by =
      let checks = tidy_checks s.connections list in
      refused_at checks (tidy s list).answer (tidy_done s list).answer (decided_map (λ (o : Listed). o.answer) checks (refusing_list s list) (tidy_done s list))
      (no_refusal (length (moves_of s))) refl

  -- 19 exactly if some connection of the order has, beside those before it at their new anchors, no anchor below F whose whole run is free.
  pub refused_19_exactly : ((tidy s list).answer ≡ refused (number NoAnchorForAll)) ↔ Stuck s.connections
  unfolding tidy_checks
  refused_19_exactly =
      let r = refused_by 0 (check NoAnchorForAll true) (omega arith) in
      (λ e. stuck.0 (is_none_lem (arranged s.connections) (r.0 e).1), λ t. r.1 (tt, ap is_none (stuck.1 t)))

  -- 14 exactly if it is not so, and the list has fewer entries than there are moves.
  pub refused_14_exactly : ((tidy s list).answer ≡ refused (number ListShort))
      ↔ ((Stuck s.connections → ⊥) × (entries_in list < length (moves_of s)))
  unfolding tidy_checks
  refused_14_exactly =
      let r = refused_by 1 (check NoAnchorForAll true) (omega arith) in (
        λ e.
            let w = r.0 e in
            (λ t. false≢true (sym w.0.0 ∙ ap is_none (stuck.1 t)), ltb-true (entries_in list) (length (moves_of s)) w.1),
        λ w. r.1 ((is_false (is_none (arranged s.connections)) (λ e. w.0 (stuck.0 (is_none_lem (arranged s.connections) e))), tt), lt-ltb (entries_in list) (length (moves_of s)) w.1),
      )

  -- It is accepted exactly if it is not so and the list has an entry for each move, and answers how many there are.
  pub accepted_exactly : (n : ℕ) → ((tidy s list).answer ≡ tidied n)
      ↔ ((Stuck s.connections → ⊥) × (length (moves_of s) ≤ entries_in list) × (n ≡ length (moves_of s)))
  accepted_exactly n = (
    λ e.
        let w = tidy_done_lem s list n e in
        rw (anew_found s.connections w.0 w.1) (not_stuck w.0 w.1, w.2, w.3),
    λ w.
        by_arranged s list (λ q. absurd (w.0 (stuck.0 q)))
        (λ new q l. let m = rw (anew_found s.connections new q) at w.1 in absurd (omega arith))
        (λ new q l.
        let m = rw (anew_found s.connections new q) at w.2 in
        said s list (tidy_ok s list new q l) ∙ ap tidied (sym m)),
  )

  -- No move: accepted with a list of any length, an empty one too.
  pub nothing_to_move : (Stuck s.connections → ⊥) → moves_of s ≡ [] → (tidy s list).answer ≡ tidied 0
  nothing_to_move t e =
      let m = ap {B = ℕ} length e in
      (accepted_exactly 0).1 (t, omega arith, sym m)

-- ---- the answer and the list
module _ (s : Schedule) (list : List ℕ) where
  -- The answer is how many moves there are, at most 64.
  pub tidy_count : (n : ℕ) → (tidy s list).answer ≡ tidied n → (n ≡ length (moves_of s)) × (n ≤ handles)
  tidy_count n e =
      let w = tidy_done_lem s list n e in
      rw (anew_found s.connections w.0 w.1) (w.3, omega (arith, w.3, moves_most s.connections w.0))

  -- Entry i is that of move i;
  pub tidy_entry : (n : ℕ) → (tidy s list).answer ≡ tidied n → (i : ℕ) (m : Move) → i < n → Entry (tidy s list).list i (get_or (moves_of s) i m)
  tidy_entry n e i m l =
      let w = tidy_done_lem s list n e in
      let moved = moves s.connections w.0 in
      let long = entries_length moved in
      let below : i < length moved = omega (arith, w.3) in
      subst⁻¹ (λ (o : Listed). Entry o.list i (get_or (moves_of s) i m)) w.4
      (subst⁻¹ (λ (new : List Connection). Entry (over (entries moved) list) i (get_or (moves s.connections new) i m)) (anew_found s.connections w.0 w.1)
      (λ j d h. over_new (entries moved) list (move_width * i + j) d (omega arith) ∙ entry_at moved i m below j d h))

  -- numbers past them, and the length of the list, are as before, and so is all of it where the call is refused.
  pub tidy_past : (i d : ℕ) → move_width * length (moves_of s) ≤ i → get_or (tidy s list).list i d ≡ get_or list i d
  tidy_past i d h =
      tidy_cases s list (λ o. get_or o.list i d ≡ get_or list i d) (λ why. refl)
      (λ new e l.
      let m = rw (anew_found s.connections new e) at h in
      over_old (entries (moves s.connections new)) list i d (omega (arith, entries_length (moves s.connections new))))

  pub tidy_length : length (tidy s list).list ≡ length list
  tidy_length =
      tidy_cases s list (λ o. length o.list ≡ length list) (λ why. refl)
      (λ new e l. over_length (entries (moves s.connections new)) list (omega (arith, entries_length (moves s.connections new))))

-- ---- once more
-- A tidy right after an accepted one, with a list of any length, answers 0 and changes nothing.
pub tidy_again : (s : Schedule) → Good s → (list more : List ℕ) (n : ℕ) → (tidy s list).answer ≡ tidied n
    → tidy (tidy s list).schedule more ≡ record { answer = tidied 0; schedule = (tidy s list).schedule; list = more }
unfolding with_connections entries
tidy_again s good list more n e =
    let w = tidy_done_lem s list n e in
    let new = w.0 in
    let after = with_connections s new in
    let again : arranged new ≡ some new = arranged_again s.connections good.places (good_sound s good) new w.1 in
    let none_moves : moves new new ≡ [] = moves_none new new (λ h live. refl) in
    let few : length (moves new new) ≤ entries_in more = rw none_moves (omega arith) in
    rw w.4 (tidy_ok after more new again few ∙ rw none_moves refl)
