-- What a line asks for, by the row behind its word; and what it then prints.
use mathlib.Core.Path.{◌≡◌, sym, ap, ap₂, subst, subst⁻¹, ◌∙◌}
use mathlib.Core.Bool.{true}
use mathlib.Core.Logic.{◌≢◌}
use mathlib.Core.List.{List, [], ◌∷◌, ◌++◌}
use Prim.Native.Nat.{ℕ, zero, suc, ◌+◌, ◌-◌, ◌%◌, ◌≤◌}
use native.Mathlib.Omega.{arith}
use Rattle.std.specs.Prelude.{None, Result}
use lib.ListN.{length, get_or, take, drop, length-drop, take-append-drop}
use lib.Seq.{length-take-le, drop-append_seam}
use Rattle.rules.specs.declared.Schedule.{Schedule}
use Rattle.rules.specs.declared.Refusal.{Refusal}
use Rattle.rules.specs.declared.Done.{Done}
use Rattle.rules.specs.Good.{Good}
use Rattle.rules.specs.Bytes.{same}
use Rattle.rules.specs.Text.{text}
use Rattle.rules.specs.Words.{spaced, words_of}
use Rattle.rules.specs.Answers.{Answer, Listed, answered, listed, reported, tidied}
use Rattle.rules.specs.Reports.{report_all}
use Rattle.rules.specs.Tidy.{tidy}
use Rattle.rules.specs.Program.{Printed}
use Rattle.basics.proofs.BytesLaws.{same_exactly}
use Rattle.texts.specs.Row.{IsRow}
use Rattle.texts.proofs.RowLaws.{row_unique}
use Rattle.text.specs.Promises.{HasRow, ReadsRow}
use Rattle.text.proofs.Putting.{puts_as}
use Rattle.order.specs.declared.Performed.{Performed}
use Rattle.reports.specs.Pairs.{reports_of}
use Rattle.reports.specs.Promises.{ReportsAll}
use Rattle.tidy.specs.Promises.{Tidies}
use Rattle.lists.specs.Lines.{most_entries, longest_row, most_moves, blank_list, Says, AsksReports, AsksTidy, list_printed, reports_printed, tidy_printed, bad_printed}
use Rattle.answer.specs.Promises.{Counts}
use Rattle.answer.proofs.Words.{counts, counts_reported, counts_tidied}
use Rattle.lists.specs.Promises.{HasAsked, Prints, Makes, PutsDone, Performs}
use Rattle.lists.specs.Promises.{PerformsReports, PerformsTidy}

-- A slice's first numbers, the very first apart.
first_apart : (l : List ℕ) (n : ℕ) → 1 ≤ n → n ≤ length l → take n l ≡ get_or l 0 0 ∷ take (n - 1) (drop 1 l)
first_apart l zero some h = absurd (omega arith)
first_apart [] (suc n) some h = absurd (omega arith)
first_apart (x ∷ l) (suc n) some h = let e : suc n - 1 ≡ n = omega arith in ap {B = List ℕ} (λ k. x ∷ take k l) (sym e)

-- ---- a word and numbers
module _ (word line : List ℕ) where
  -- What a line says stands behind its word;
  behind : {ns : List ℕ} → Says word line ns → IsRow (drop (length word) line) ns
  behind {ns} a = subst⁻¹ (λ (x : List ℕ). IsRow x ns) (ap (drop (length word)) a.is ∙ drop-append_seam word a.row) a.says

  says_unique : {ns ms : List ℕ} → Says word line ns → Says word line ms → ns ≡ ms
  says_unique a b = row_unique (behind a) (behind b)

  -- what stands there is said;
  says_row : {ns : List ℕ} → same (take (length word) line) word ≡ true → IsRow (drop (length word) line) ns → Says word line ns
  says_row opens r =
      let opened : take (length word) line ≡ word = (same_exactly (take (length word) line) word).0 opens in
      record { row = drop (length word) line; is = sym (take-append-drop (length word) line) ∙ ap (λ (x : List ℕ). x ++ drop (length word) line) opened; says = r }

  -- and was read, one number at least.
  pub says_read : {entry exit : List ℕ} {count n : ℕ} {ns : List ℕ} → HasRow (drop (length word) line) entry exit count → Says word line (n ∷ ns)
      → (count ≡ 1 + length ns) × (get_or exit 0 0 ≡ n)
  says_read {exit = exit} {count} {n} {ns} r a =
      let e : take count exit ≡ n ∷ ns = row_unique r.row (behind a) in
      let c : count ≡ 1 + length ns = sym (length-take-le count exit r.within) ∙ ap (λ (x : List ℕ). length x) e ∙ omega arith in
      (c, ap (λ (x : List ℕ). get_or x 0 0) (sym (first_apart exit count (omega arith) r.within) ∙ e))

-- ---- the line performed
module _ {A : Type 0} {asks : A → Type 0} {printed : A → Printed} {entry exit : List ℕ} (s : Schedule) (r : Performed) where
  -- A line asks for one thing only, and that call is made;
  performs_made : (a : A) → asks a → ((b : A) → asks b → printed a ≡ printed b) → Makes (printed a) entry exit r → Performs asks printed s entry exit r
  performs_made a asked only m =
      record {
        asked = λ b q. subst (λ (p : Printed). Prints p entry exit r) (only b q) m.prints;
        otherwise = λ none. absurd (none a asked);
        good = m.good;
        fits = m.fits;
      }

  -- one that asks for nothing is bad.
  pub performs_bad : ((a : A) → asks a → ⊥) → Makes (bad_printed s) entry exit r → Performs asks printed s entry exit r
  performs_bad none m = record { asked = λ a q. absurd (none a q); otherwise = λ _. m.prints; good = m.good; fits = m.fits }

-- A call that filled a list: the words of its answer, the list, the end of the line.
makes_listed : (says : ℕ → Answer) (word : List ℕ) → Counts word says
    → (d : Done (Result ℕ Refusal)) (list entry exit : List ℕ) (o : Listed) (r : Performed)
    → listed (answered says) d list ≡ o → Good d.schedule → PutsDone d word list entry exit r
    → Makes (list_printed o) entry exit r
unfolding list_printed
makes_listed says word h d list entry exit o r e good p =
    let w = counts says word h d.answer ∙ ap (λ (o : Listed). words_of o.answer) e in
    let l = ap (λ (o : Listed). spaced o.list ++ text "\n") e in
    record {
      prints = record {
        prints = puts_as (ap₂ (λ (a b : List ℕ). a ++ b) w l) p.puts;
        leaves = p.leaves ∙ ap (λ (o : Listed). o.schedule) e;
      };
      good = subst⁻¹ Good p.leaves good;
      fits = p.fits;
    }

-- ---- `reports`
module _ (line entry exit : List ℕ) where
  -- There is no such row.
  pub asks_wrong : longest_row ≤ length entry → ReadsRow (drop 7 line) entry exit None → (entries : ℕ) (numbers : List ℕ) → AsksReports line entries numbers → ⊥
  asks_wrong h none entries numbers a = none (entries ∷ numbers) (omega (arith, a.listed)) (behind (text "reports") line a.says)

  -- What was read is asked for, where it is within the bounds.
  pub asks_right : (count : ℕ) → same (take 7 line) (text "reports") ≡ true → HasRow (drop 7 line) entry exit count
      → count % 2 ≢ 0 → count ≤ longest_row → get_or exit 0 0 ≤ most_entries → HasAsked line exit (get_or exit 0 0) (count - 1)
  asks_right count opens r odd few small =
      let within = r.within in
      let n : length (take (count - 1) (drop 1 exit)) ≡ count - 1 = length-take-le (count - 1) (drop 1 exit) (omega (arith, length-drop 1 exit)) in
      record {
        within = omega arith;
        asks =
            record {
              says = says_row (text "reports") line opens (subst (IsRow (drop 7 line)) (first_apart exit count (omega arith) within) r.row);
              few = small;
              listed = omega arith;
              paired = omega arith;
            };
      }

-- The call is made with the numbers behind the first, and with so many entries of the list.
pub performs_reports : {entry exit : List ℕ} (s : Schedule) (line slice list : List ℕ) (entries count : ℕ) (r : Performed) → HasAsked line slice entries count
    → most_entries ≤ length list → Makes (reports_printed s (length (take entries list)) (take (1 + count - 1) (drop 1 slice))) entry exit r → PerformsReports s line entry exit r
performs_reports {entry} {exit} s line slice list entries count r h large m =
    let few = h.asks.few in
    let behind_first : 1 + count - 1 ≡ count = omega arith in
    let size : length (take entries list) ≡ entries = length-take-le entries list (omega arith) in
    performs_made s r (entries, take count (drop 1 slice)) h.asks
    (λ b a. ap (λ (l : List ℕ). reports_printed s (get_or l 0 0) (drop 1 l)) (says_unique (text "reports") line h.asks.says a.says))
    (subst (λ (p : Printed). Makes p entry exit r) (ap₂ (λ (k n : ℕ). reports_printed s n (take k (drop 1 slice))) behind_first size) m)

pub makes_reports : {out exit : List ℕ} (s : Schedule) (numbers entry list : List ℕ)
    (d : Done (Result ℕ Refusal)) (n : ℕ) (r : Performed) → entry ≡ blank_list n
    → ReportsAll s (reports_of numbers) entry list d → PutsDone d (text "reported") list out exit r
    → Makes (reports_printed s n numbers) out exit r
unfolding reports_printed words_of
makes_reports {out} {exit} s numbers entry list d n r e p =
    let rule = report_all s (reports_of numbers) in
    makes_listed reported (text "reported") counts_reported d list out exit (rule (blank_list n)) r
    (p.is ∙ ap rule e) p.good

-- ---- `tidy`
module _ (line entry exit : List ℕ) where
  -- There is no such row.
  pub tidy_wrong : length entry ≡ 1 → ReadsRow (drop 4 line) entry exit None → (n : ℕ) → AsksTidy line n → ⊥
  tidy_wrong one none n a = none (n ∷ []) (omega arith) (behind (text "tidy") line a.says)

  -- The number that was read is asked for.
  pub tidy_right : (count : ℕ) → same (take 4 line) (text "tidy") ≡ true → length exit ≡ 1 → HasRow (drop 4 line) entry exit count
      → count ≢ 0 → get_or exit 0 0 ≤ most_moves → AsksTidy line (get_or exit 0 0)
  tidy_right count opens one r some small =
      let within = r.within in
      let alone : count - 1 ≡ 0 = omega arith in
      let first : take count exit ≡ get_or exit 0 0 ∷ [] = first_apart exit count (omega arith) within ∙ ap (λ (k : ℕ). get_or exit 0 0 ∷ take k (drop 1 exit)) alone in
      record { says = says_row (text "tidy") line opens (subst (IsRow (drop 4 line)) first r.row); few = small }

-- The call is made with so many numbers of the list.
pub performs_tidy : {entry exit : List ℕ} (s : Schedule) (line list : List ℕ) (n : ℕ) (r : Performed) → AsksTidy line n
    → most_moves ≤ length list → Makes (tidy_printed s (length (take n list))) entry exit r → PerformsTidy s line entry exit r
performs_tidy {entry} {exit} s line list n r asked large m =
    let few = asked.few in
    let size : length (take n list) ≡ n = length-take-le n list (omega arith) in
    performs_made s r n asked
    (λ b a. ap (λ (l : List ℕ). tidy_printed s (get_or l 0 0)) (says_unique (text "tidy") line asked.says a.says))
    (subst (λ (p : Printed). Makes p entry exit r) (ap (tidy_printed s) size) m)

pub makes_tidy : {out exit : List ℕ} (s : Schedule) (entry list : List ℕ)
    (d : Done (Result ℕ Refusal)) (n : ℕ) (r : Performed) → entry ≡ blank_list n
    → Tidies s entry list d → PutsDone d (text "tidied") list out exit r
    → Makes (tidy_printed s n) out exit r
unfolding tidy_printed words_of
makes_tidy {out} {exit} s entry list d n r e p =
    makes_listed tidied (text "tidied") counts_tidied d list out exit (tidy s (blank_list n)) r
    (p.is ∙ ap (tidy s) e) p.good
