-- What holds after i turns of the loop, before the first and after the last.
use mathlib.Core.Path.{◌≡◌, refl, sym, ap, ap₂, ◌∙◌}
use mathlib.Core.Bool.{true, false, false≢true}
use Rattle.std.specs.Prelude.{Result, Ok, Err, is_ok}
use mathlib.Core.List.{List, [], ◌∷◌, ◌++◌, map, map-append}
use Prim.Native.Nat.{ℕ, ◌+◌, ◌<◌, ◌≤◌}
use native.Mathlib.Numerals.{add-one}
use native.Mathlib.Omega.{arith}
use lib.ListN.{length, get_or, take, set}
use lib.Seq.{take-suc, take_all, length-take-le}
use Rattle.rules.specs.declared.Schedule.{Schedule}
use Rattle.rules.specs.declared.Report.{Report}
use Rattle.rules.specs.declared.Refusal.{Refusal}
use Rattle.rules.specs.Good.{Good}
use Rattle.rules.specs.Lent.{over}
use Rattle.rules.specs.Refusals.{number}
use Rattle.rules.specs.Answers.{Answer, Listed, refused, reported, of_reporting_all, listed}
use Rattle.rules.specs.Reports.{most_reports, single, after_reports, answers_to, coded, reports_done, report_all}
use Rattle.basics.proofs.LentLaws.{over_next, over_length}
use Rattle.calls.proofs.ReportsLaws.{codes, codes_length, after_append, answers_append, after_good, decided_13, decided_14, decided_ok, by_lengths, accepted, report_all_13, report_all_14, report_all_ok}
use Rattle.reports.specs.Promises.{Answers, ReportsAll}

module _ (s : Schedule) (xs : List Report) where
  -- The schedule after i turns,
  unfoldable pub state_at : ℕ → Schedule
  unfolding after_reports
  state_at i = after_reports s (take i xs)

  -- and the list.
  unfoldable pub list_at : List ℕ → ℕ → List ℕ
  unfolding answers_to
  list_at ys i = over (codes s (take i xs)) ys

  pub state_0 : state_at 0 ≡ s
  unfolding state_at after_reports
  state_0 = refl

  pub list_0 : (ys : List ℕ) → list_at ys 0 ≡ ys
  unfolding list_at answers_to
  list_0 ys = refl

  pub state_good : Good s → (i : ℕ) → Good (state_at i)
  unfolding state_at
  state_good good i = after_good s (take i xs) good

  -- The number of entries after i turns.
  written : (i : ℕ) → i ≤ length xs → length (codes s (take i xs)) ≡ i
  written i h = codes_length s (take i xs) ∙ length-take-le i xs h

  pub list_length : (ys : List ℕ) (i : ℕ) → i ≤ length xs → i ≤ length ys → length (list_at ys i) ≡ length ys
  unfolding list_at
  list_length ys i h m = over_length (codes s (take i xs)) ys (omega (arith, written i h))

  module _ (d : Report) (i : ℕ) (h : i < length xs) where
    -- One report more.
    taken_next : take (i + 1) xs ≡ take i xs ++ (get_or xs i d ∷ [])
    taken_next = ap (λ (k : ℕ). take k xs) (add-one i) ∙ take-suc xs i d h

    pub state_next : state_at (i + 1) ≡ (single (state_at i) (get_or xs i d)).schedule
    unfolding state_at after_reports
    state_next = ap (after_reports s) taken_next ∙ after_append s (take i xs) (get_or xs i d ∷ [])

    pub list_next : (ys : List ℕ) → i < length ys → set (list_at ys i) i (coded (single (state_at i) (get_or xs i d)).answer) ≡ list_at ys (i + 1)
    unfolding state_at list_at answers_to
    list_next ys m =
        let done : List ℕ = codes s (take i xs) in
        let new : Answer = (single (after_reports s (take i xs)) (get_or xs i d)).answer in
        let e : length done ≡ i = written i (omega arith) in
        ap (λ (k : ℕ). set (over done ys) k (coded new)) (sym e)
        ∙ over_next done ys (coded new) (omega (arith, e))
        ∙ ap (λ (l : List ℕ). over l ys) (sym (ap (λ (l : List Report). map coded (answers_to s l)) taken_next ∙ ap (map coded) (answers_append s (take i xs) (get_or xs i d ∷ [])) ∙ map-append coded (answers_to s (take i xs)) (new ∷ [])))

-- ---- the answer, by the two lengths
pub accepted_fits : (n m : ℕ) (r : Result ℕ Refusal) → Answers n m r → is_ok r ≡ true → (n ≤ most_reports) × (n ≤ m)
accepted_fits n m (Err r) e q = absurd (false≢true q)
accepted_fits n m (Ok k) e q =
    by_lengths n m
    (λ l. absurd (accepted k 13 (e ∙ decided_13 n m refused (reported n) l)))
    (λ h l. absurd (accepted k 14 (e ∙ decided_14 n m refused (reported n) h l)))
    (λ h l. (h, l))

-- ---- the end
module _ (s : Schedule) (good : Good s) (xs : List Report) (ys : List ℕ) where
  -- An accepted list: every report is made,
  pub made_all : (r : Result ℕ Refusal) → Answers (length xs) (length ys) r → is_ok r ≡ true
      → ReportsAll s xs ys (list_at s xs ys (length xs)) (record { answer = r; schedule = state_at s xs (length xs) })
  unfolding report_all reports_done state_at list_at
  made_all r e q =
      let f = accepted_fits (length xs) (length ys) r e q in
      let whole : take (length xs) xs ≡ xs = take_all (length xs) xs (omega arith) in
      record {
        is = ap₂ (λ (a : Answer) (l : List Report). record { answer = a; schedule = after_reports s l; list = over (codes s l) ys })
            (e ∙ decided_ok (length xs) (length ys) refused (reported (length xs)) f.0 f.1) whole
            ∙ sym (report_all_ok s xs ys f.0 f.1);
        good = after_good s (take (length xs) xs) good;
      }

  -- and a refused one: none.
  pub made_none : (r : Result ℕ Refusal) → Answers (length xs) (length ys) r → is_ok r ≡ false
      → ReportsAll s xs ys ys (record { answer = r; schedule = s })
  made_none r e q = record { is = listed_refused r e q; good = good }
    where
      listed_refused : (r : Result ℕ Refusal) → Answers (length xs) (length ys) r → is_ok r ≡ false
          → listed of_reporting_all (record { answer = r; schedule = s }) ys ≡ report_all s xs ys
      listed_refused (Ok k) e q = absurd (false≢true (sym q))
      listed_refused (Err r) e q =
          let n = length xs in
          let m = length ys in
          let left : Answer → Listed = λ a. record { answer = a; schedule = s; list = ys } in
          by_lengths n m
          (λ l. ap left (e ∙ decided_13 n m refused (reported n) l) ∙ sym (report_all_13 s xs ys l))
          (λ h l. ap left (e ∙ decided_14 n m refused (reported n) h l) ∙ sym (report_all_14 s xs ys h l))
          (λ h l. absurd (accepted n (number r) (sym (e ∙ decided_ok n m refused (reported n) h l))))
