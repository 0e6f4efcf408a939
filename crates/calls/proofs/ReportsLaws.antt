-- What a list of reports means.
use mathlib.Core.Path.{◌≡◌, refl, sym, ap, ◌∙◌}
use mathlib.Core.Bool.{cond}
use mathlib.Core.List.{List, [], ◌∷◌, ◌++◌, map}
use mathlib.Core.Logic.{◌≢◌, by_cases, ◌↔◌, ◌⊎◌, inl, inr, ⊎_elim}
use Prim.Native.Nat.{ℕ, zero, suc, ◌+◌, ◌*◌, ◌%◌, ◌/◌, ◌^◌, ◌<◌, ◌≤◌}
use native.Mathlib.Omega.{arith}
use native.Mathlib.Decide.{dec_le}
use lib.Pow.{pow_mono}
use lib.Dec.{eqb}
use lib.ListN.{length, get_or, take, length-map}
use borrow.Author.Tests.{lt-ltb, le-ltb, ltb-false}
use Rattle.rules.specs.declared.Connection.{Connection}
use Rattle.rules.specs.declared.Schedule.{Schedule}
use Rattle.rules.specs.declared.Report.{Report}
use Rattle.rules.specs.declared.Refusal.{Refusal}
use Rattle.rules.specs.declared.Refusal.TheVariants.{ReportsMany, ListShort}
use Rattle.rules.specs.Ownership.{taken}
use Rattle.rules.specs.Good.{Good, FreeSlotsZero}
use Rattle.rules.specs.Refusals.{number, decided}
use Rattle.rules.specs.Answers.{Answer, Listed, refusing_list, refused, kept, grown, shrunk, tight, reported}
use Rattle.rules.specs.Handles.{connection, is_live}
use Rattle.rules.specs.Report.{room_to_grow, metered, aim, report_answer, report_done, report}
use Rattle.rules.specs.Reports.{single, after_reports, answers_to, Among, here, later, coded, most_reports, reports_checks, reports_done, report_all}
use Rattle.basics.proofs.LentLaws.{over_new, over_old, over_length}
use Rattle.blocks.proofs.ClassLaws.{within_depth}
use Rattle.calls.proofs.RefusalLaws.{InTable, decided_cases, decided_first, decided_passed, refused_same}
use Rattle.calls.proofs.MeterLaws.{change_cases}
use Rattle.calls.proofs.AnswerLaws.{number_small}
use Rattle.calls.proofs.ReportLaws.{Metered, report_cases, old_numbers, report_good, report_zero, report_own}
use Rattle.calls.proofs.LiveLaws.{report_lives}

-- ---- one after the other
-- The reports of xs ++ ys are those of xs and then those of ys: the schedule,
pub after_append : (s : Schedule) (xs ys : List Report) → after_reports s (xs ++ ys) ≡ after_reports (after_reports s xs) ys
unfolding after_reports
after_append s [] ys = refl
after_append s (r ∷ xs) ys = after_append (single s r).schedule xs ys

-- and the answers.
pub answers_append : (s : Schedule) (xs ys : List Report) → answers_to s (xs ++ ys) ≡ answers_to s xs ++ answers_to (after_reports s xs) ys
unfolding after_reports answers_to
answers_append s [] ys = refl
answers_append s (r ∷ xs) ys = ap (λ (l : List Answer). (single s r).answer ∷ l) (answers_append (single s r).schedule xs ys)

-- One answer for each, and so one entry.
abbrev pub codes : Schedule → List Report → List ℕ
codes s xs = map coded (answers_to s xs)

pub answers_length : (s : Schedule) (xs : List Report) → length (answers_to s xs) ≡ length xs
unfolding answers_to
answers_length s [] = refl
answers_length s (r ∷ xs) = ap suc (answers_length (single s r).schedule xs)

pub codes_length : (s : Schedule) (xs : List Report) → length (codes s xs) ≡ length xs
codes_length s xs = length-map (answers_to s xs) coded ∙ answers_length s xs

-- Answer i is that of report i in the schedule after the first i.
pub answer_at : (s : Schedule) (xs : List Report) (i : ℕ) (r : Report) (a : Answer) → i < length xs
    → get_or (answers_to s xs) i a ≡ (single (after_reports s (take i xs)) (get_or xs i r)).answer
unfolding after_reports answers_to
answer_at s [] i r a l = absurd (omega arith)
answer_at s (x ∷ xs) zero r a l = refl
answer_at s (x ∷ xs) (suc i) r a l = answer_at (single s x).schedule xs i r a (omega arith)

-- ---- what they leave
-- A connection that is as it was or has another length and estimate, and then again.
own_next : {A B C : Type 0} (first second third : Connection) → (A → C) → (B → C)
    → (second ≡ first) ⊎ (A × Metered first second) → (third ≡ second) ⊎ (B × Metered second third) → (third ≡ first) ⊎ (C × Metered first third)
own_next first second third f g (inl e) (inl q) = inl (q ∙ e)
own_next first second third f g (inl e) (inr (b, (L, n, q))) = inr (g b, (L, n, q ∙ ap (λ (c : Connection). metered c L n) e))
own_next first second third f g (inr (a, (L, n, e))) (inl q) = inr (f a, (L, n, q ∙ e))
own_next first second third f g (inr (a, (L, n, e))) (inr (b, (M, m, q))) = inr (f a, (M, m, q ∙ ap (λ (c : Connection). metered c M m) e))

-- A good schedule, in which free slots are zeros as before;
pub after_good : (s : Schedule) (xs : List Report) → Good s → Good (after_reports s xs)
unfolding after_reports
after_good s [] good = good
after_good s (r ∷ xs) good = after_good (single s r).schedule xs (report_good s good r.handle r.sample)

pub after_zero : (s : Schedule) (xs : List Report) → Good s → FreeSlotsZero s → FreeSlotsZero (after_reports s xs)
unfolding after_reports
after_zero s [] good z = z
after_zero s (r ∷ xs) good z =
    after_zero (single s r).schedule xs (report_good s good r.handle r.sample) (report_zero s good r.handle r.sample z)

-- a connection is as it was, or its own report is in the list and changed its length and its estimate;
pub after_own : (s : Schedule) (xs : List Report) (j : ℕ) → Good s
    → (connection (after_reports s xs) j ≡ connection s j) ⊎ (Among j xs × Metered (connection s j) (connection (after_reports s xs) j))
unfolding after_reports
after_own s [] j good = inl refl
after_own s (r ∷ xs) j good =
    own_next (connection s j) (connection (single s r).schedule j) (connection (after_reports (single s r).schedule xs) j) (λ e. here (sym e)) later
    (report_own s good r.handle r.sample j)
    (after_own (single s r).schedule xs j (report_good s good r.handle r.sample))

-- so a handle that is not in the list keeps its connection;
pub after_others : (s : Schedule) (xs : List Report) (j : ℕ) → Good s → (Among j xs → ⊥) → connection (after_reports s xs) j ≡ connection s j
after_others s xs j good n = ⊎_elim (λ e. e) (λ w. absurd (n w.0)) (after_own s xs j good)

-- and they begin and end no connection.
pub after_lives : (s : Schedule) (xs : List Report) (j : ℕ) → Good s → is_live (after_reports s xs) j ≡ is_live s j
unfolding after_reports
after_lives s [] j good = refl
after_lives s (r ∷ xs) j good =
    after_lives (single s r).schedule xs j (report_good s good r.handle r.sample)
    ∙ report_lives s good r.handle r.sample j

-- ---- the two checks
-- What they decide, whatever it is, for n reports and m entries.
module _ {A : Type 0} (n m : ℕ) (refuse : ℕ → A) (done : A) where
  pub decided_13 : most_reports < n → decided (reports_checks n m) refuse done ≡ refuse (number ReportsMany)
  decided_13 l = decided_first (reports_checks n m) refuse done (inl (lt-ltb most_reports n l, refl))

  pub decided_14 : n ≤ most_reports → m < n → decided (reports_checks n m) refuse done ≡ refuse (number ListShort)
  decided_14 h l = decided_first (reports_checks n m) refuse done (inr (le-ltb most_reports n h, inl (lt-ltb m n l, refl)))

  pub decided_ok : n ≤ most_reports → n ≤ m → decided (reports_checks n m) refuse done ≡ done
  decided_ok h l = decided_passed (reports_checks n m) refuse done (le-ltb most_reports n h, (le-ltb m n l, tt))

-- It is one of these three.
pub by_lengths : (n m : ℕ) {X : Type 0} → (most_reports < n → X) → (n ≤ most_reports → m < n → X) → (n ≤ most_reports → n ≤ m → X) → X
by_lengths n m many short fits =
    by_cases (dec_le n most_reports)
    (λ h. by_cases (dec_le n m) (λ l. fits h l) (λ l. short h (omega arith)))
    (λ h. many (omega arith))

-- ---- the call
-- One refusal is no other, and no number of reports.
other : (m n : ℕ) → refused m ≡ refused n → m ≢ n → ⊥
other m n e d = d (refused_same e)

pub accepted : (m n : ℕ) → reported m ≡ refused n → ⊥
accepted m n e = let z : ◌≡◌ {A = ℕ} 0 1 = cc in omega arith

-- What a function takes a list to has it at each place.
mapped_at : {A B : Type 0} (f : A → B) (l : List A) (i : ℕ) (d : B) (a : A) → i < length l → get_or (map f l) i d ≡ f (get_or l i a)
mapped_at f [] i d a h = absurd (omega arith)
mapped_at f (x ∷ l) zero d a h = refl
mapped_at f (x ∷ l) (suc i) d a h = mapped_at f l i d a (omega arith)

module _ (s : Schedule) (xs : List Report) (list : List ℕ) where
  -- It is refused, or there are at most 64 reports, no more than entries, and it is carried out.
  pub report_all_cases : (P : Listed → Type 0) → ((why : Refusal) → P (refusing_list s list (number why)))
      → (length xs ≤ most_reports → length xs ≤ length list → P (reports_done s xs list)) → P (report_all s xs list)
  unfolding report_all
  report_all_cases P f g =
      decided_cases P (reports_checks (length xs) (length list)) (refusing_list s list) (reports_done s xs list) f
      (λ p. g (ltb-false most_reports (length xs) p.0) (ltb-false (length list) (length xs) p.1.0))

  pub report_all_13 : most_reports < length xs → report_all s xs list ≡ (refusing_list s list) (number ReportsMany)
  unfolding report_all
  report_all_13 = decided_13 (length xs) (length list) (refusing_list s list) (reports_done s xs list)

  pub report_all_14 : length xs ≤ most_reports → length list < length xs → report_all s xs list ≡ (refusing_list s list) (number ListShort)
  unfolding report_all
  report_all_14 = decided_14 (length xs) (length list) (refusing_list s list) (reports_done s xs list)

  pub report_all_ok : length xs ≤ most_reports → length xs ≤ length list → report_all s xs list ≡ reports_done s xs list
  unfolding report_all
  report_all_ok = decided_ok (length xs) (length list) (refusing_list s list) (reports_done s xs list)

  said : {o : Listed} → report_all s xs list ≡ o → (report_all s xs list).answer ≡ o.answer
  said e = ap (λ (o : Listed). o.answer) e

  -- 13 exactly if there are more than 64 reports; 14 exactly if there are at most 64, and fewer entries.
  pub refused_13_exactly : ((report_all s xs list).answer ≡ refused (number ReportsMany)) ↔ (most_reports < length xs)
  unfolding reports_done
  refused_13_exactly = (
    λ e. by_lengths (length xs) (length list) (λ l. l) (λ h l. absurd (other 14 13 (sym (said (report_all_14 h l)) ∙ e) (omega arith)))
        (λ h l. absurd (accepted (length xs) 13 (sym (said (report_all_ok h l)) ∙ e))),
    λ l. said (report_all_13 l),
  )

  pub refused_14_exactly : ((report_all s xs list).answer ≡ refused (number ListShort)) ↔ ((length xs ≤ most_reports) × (length list < length xs))
  unfolding reports_done
  refused_14_exactly = (
    λ e. by_lengths (length xs) (length list) (λ l. absurd (other 13 14 (sym (said (report_all_13 l)) ∙ e) (omega arith))) (λ h l. (h, l))
        (λ h l. absurd (accepted (length xs) 14 (sym (said (report_all_ok h l)) ∙ e))),
    λ w. said (report_all_14 w.0 w.1),
  )

  -- A refusal is of the table, and leaves the schedule and the list as they were.
  pub refusal_listed : (n : ℕ) → (report_all s xs list).answer ≡ refused n
      → InTable n × ((report_all s xs list).schedule ≡ s) × ((report_all s xs list).list ≡ list)
  unfolding reports_done
  refusal_listed n =
      report_all_cases (λ o. o.answer ≡ refused n → InTable n × (o.schedule ≡ s) × (o.list ≡ list))
      (λ why e. ((why, sym (refused_same e)), refl, refl))
      (λ h l e. absurd (accepted (length xs) n e))

  -- Entry i below the number of reports is the coded answer of report i in the schedule after the first i;
  pub entry_at : length xs ≤ most_reports → length xs ≤ length list → (i d : ℕ) (r : Report) → i < length xs
      → get_or (report_all s xs list).list i d ≡ coded (single (after_reports s (take i xs)) (get_or xs i r)).answer
  unfolding reports_done
  entry_at h m i d r l =
      ap (λ (o : Listed). get_or o.list i d) (report_all_ok h m)
      ∙ over_new (codes s xs) list i d (omega (arith, codes_length s xs))
      ∙ mapped_at coded (answers_to s xs) i d (refused 0) (omega (arith, answers_length s xs))
      ∙ ap coded (answer_at s xs i r (refused 0) l)

  -- each entry from there on, and the length of the list, are as before.
  pub entry_past : (i d : ℕ) → length xs ≤ i → get_or (report_all s xs list).list i d ≡ get_or list i d
  unfolding reports_done
  entry_past i d l =
      report_all_cases (λ o. get_or o.list i d ≡ get_or list i d) (λ why. refl) (λ h m. over_old (codes s xs) list i d (omega (arith, codes_length s xs)))

  pub entries_length : length (report_all s xs list).list ≡ length list
  unfolding reports_done
  entries_length = report_all_cases (λ o. length o.list ≡ length list) (λ why. refl) (λ h m. over_length (codes s xs) list (omega (arith, codes_length s xs)))

  -- Where it is not refused the schedule is that after the reports.
  pub report_all_after : length xs ≤ most_reports → length xs ≤ length list → (report_all s xs list).schedule ≡ after_reports s xs
  unfolding reports_done
  report_all_after h m = ap (λ (o : Listed). o.schedule) (report_all_ok h m)

  -- What holds of the schedule before and after the reports holds after the call.
  pub report_all_leaves : (P : Schedule → Type 0) → P s → P (after_reports s xs) → P (report_all s xs list).schedule
  unfolding reports_done
  report_all_leaves P p q = report_all_cases (λ o. P o.schedule) (λ why. p) (λ h m. q)

  -- The schedule is good again and free slots stay zeros; a handle that is not in the list keeps its connection; no connection begins or ends.
  pub report_all_good : Good s → Good (report_all s xs list).schedule
  report_all_good good = report_all_leaves Good good (after_good s xs good)

  pub report_all_zero : Good s → FreeSlotsZero s → FreeSlotsZero (report_all s xs list).schedule
  report_all_zero good z = report_all_leaves FreeSlotsZero z (after_zero s xs good z)

  pub report_all_others : Good s → (j : ℕ) → (Among j xs → ⊥) → connection (report_all s xs list).schedule j ≡ connection s j
  report_all_others good j n = report_all_leaves (λ t. connection t j ≡ connection s j) refl (after_others s xs j good n)

  pub report_all_own : Good s → (j : ℕ)
      → (connection (report_all s xs list).schedule j ≡ connection s j) ⊎ (Among j xs × Metered (connection s j) (connection (report_all s xs list).schedule j))
  report_all_own good j =
      report_all_leaves (λ t. (connection t j ≡ connection s j) ⊎ (Among j xs × Metered (connection s j) (connection t j))) (inl refl) (after_own s xs j good)

  pub report_all_lives : Good s → (j : ℕ) → is_live (report_all s xs list).schedule j ≡ is_live s j
  report_all_lives good j = report_all_leaves (λ t. is_live t j ≡ is_live s j) refl (after_lives s xs j good)

-- One report in the list is the single call.
pub report_all_one : (s : Schedule) (r : Report) (old : ℕ) (list : List ℕ)
    → report_all s (r ∷ []) (old ∷ list)
    ≡ record { answer = reported 1; schedule = (single s r).schedule; list = coded (single s r).answer ∷ list }
unfolding reports_done after_reports answers_to
report_all_one s r old list = report_all_ok s (r ∷ []) (old ∷ list) (omega arith) (omega arith)

-- ---- the numbers of answers
-- An answer of a report: its length or its refusal's number is below 65,536.
pub data OfReport : Answer → Type 0 where
  refuses : {n : ℕ} → n < 65536 → OfReport (refused n)
  keeps : {L : ℕ} → L < 65536 → OfReport (kept L)
  grows : {L : ℕ} → L < 65536 → OfReport (grown L)
  shrinks : {L : ℕ} → L < 65536 → OfReport (shrunk L)
  holds : {L : ℕ} → L < 65536 → OfReport (tight L)

-- Every report in a good schedule has such an answer.
pub report_answers : (s : Schedule) → Good s → (h sample : ℕ) → OfReport (report s h sample).answer
unfolding report_done report_answer
report_answers s good h sample =
    report_cases s h sample (λ o. OfReport o.answer)
    (λ why. refuses (number_small why))
    (λ r.
    let n = old_numbers s good h sample r in
    let c = connection s h in
    let deep : 2 ^ c.k ≤ 512 = pow_mono (within_depth n.deep) in
    let small : c.length ≤ 512 = omega (arith, n.ceiled, n.whole) in
    change_cases c.length (aim c sample) (room_to_grow (taken s.connections) c) (λ a M. OfReport a)
    (λ q. keeps (omega arith)) (λ l. shrinks (omega arith)) (λ l q. grows (omega arith)) (λ l q. holds (omega arith)))

-- The answer that a number is of.
answer_in : ℕ → Answer
answer_in n =
    cond (eqb (n / 65536) 0) (refused n)
    (cond (eqb (n / 65536) 1) (kept (n % 65536)) (cond (eqb (n / 65536) 2) (grown (n % 65536)) (cond (eqb (n / 65536) 3) (shrunk (n % 65536)) (tight (n % 65536)))))

low : (n : ℕ) → n < 65536 → n / 65536 ≡ 0
low n l = omega arith

-- Each of the four is so many times 65,536, and the length.
whole : (c L : ℕ) → L < 65536 → (c * 65536 + L) / 65536 ≡ c
whole c L l = omega arith

rest : (c L : ℕ) → L < 65536 → (c * 65536 + L) % 65536 ≡ L
rest c L l = omega arith

answer_back : {a : Answer} → OfReport a → answer_in (coded a) ≡ a
unfolding answer_in
answer_back (refuses {n} l) = rw (low n l) refl
answer_back (keeps {L} l) = rw (whole 1 L l, rest 1 L l) refl
answer_back (grows {L} l) = rw (whole 2 L l, rest 2 L l) refl
answer_back (shrinks {L} l) = rw (whole 3 L l, rest 3 L l) refl
answer_back (holds {L} l) = rw (whole 4 L l, rest 4 L l) refl

-- The code tells answers apart: two answers of a report with one code are equal.
pub coded_injective : (a b : Answer) → OfReport a → OfReport b → coded a ≡ coded b → a ≡ b
coded_injective a b p q e = sym (answer_back p) ∙ ap answer_in e ∙ answer_back q
