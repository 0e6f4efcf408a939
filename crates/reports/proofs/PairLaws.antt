-- The reports that numbers say, and as many of them as are gathered.
use mathlib.Core.Path.{◌≡◌, refl, sym, ap, ap₂, ◌∙◌}
use mathlib.Core.List.{List, [], ◌∷◌, ◌++◌}
use mathlib.Core.Logic.{by_cases}
use Prim.Native.Nat.{ℕ, zero, suc, ◌+◌, ◌*◌, ◌/◌, ◌<◌}
use native.Mathlib.Decide.{dec_le}
use native.Mathlib.Numerals.{add-one}
use native.Mathlib.Omega.{arith}
use lib.ListN.{length, get_or, take, set}
use lib.Seq.{take-suc, take-suc-set, take_all, length-take-le}
use Rattle.rules.specs.declared.Schedule.{Schedule}
use Rattle.rules.specs.declared.Report.{Report}
use Rattle.std.specs.Prelude.{Result}
use Rattle.rules.specs.declared.Refusal.{Refusal}
use Rattle.rules.specs.declared.Done.{Done}
use Rattle.rules.specs.Reports.{most_reports, report_all}
use Rattle.calls.proofs.ReportsLaws.{report_all_13}
use Rattle.reports.specs.Pairs.{reports_of}
use Rattle.reports.specs.Promises.{gathered_of, ReportsAll}

-- Two numbers say a report.
pub pairs_length : (ns : List ℕ) → length (reports_of ns) ≡ length ns / 2
unfolding reports_of
pairs_length [] = refl
pairs_length (h ∷ []) = refl
pairs_length (h ∷ x ∷ ns) = ap suc (pairs_length ns) ∙ omega arith

pub pair_at : (ns : List ℕ) (i : ℕ) (d : Report) → 2 * i + 1 < length ns
    → get_or (reports_of ns) i d ≡ record { handle = get_or ns (2 * i) 0; sample = get_or ns (2 * i + 1) 0 }
unfolding reports_of
pair_at [] i d l = absurd (omega arith)
pair_at (h ∷ []) i d l = absurd (omega arith)
pair_at (h ∷ x ∷ ns) zero d l = refl
pair_at (h ∷ x ∷ ns) (suc i) d l =
    let e : 2 * suc i ≡ suc (suc (2 * i)) = omega arith in
    let e' : 2 * suc i + 1 ≡ suc (suc (2 * i + 1)) = omega arith in
    pair_at ns i d (omega arith)
    ∙ sym (ap₂ (λ (a b : ℕ). record { handle = get_or (h ∷ x ∷ ns) a 0; sample = get_or (h ∷ x ∷ ns) b 0 }) e e')

-- One more is gathered.
pub gather_next : (reports xs : List Report) (i : ℕ) (r : Report) → take i reports ≡ take i xs → i < length reports → i < length xs
    → get_or xs i r ≡ r → take (i + 1) (set reports i r) ≡ take (i + 1) xs
gather_next reports xs i r p h l e =
    ap (λ (k : ℕ). take k (set reports i r)) (add-one i)
    ∙ take-suc-set reports i r h
    ∙ ap (λ (x : List Report). x ++ (r ∷ [])) p
    ∙ ap (λ (x : Report). take i xs ++ (x ∷ [])) (sym e)
    ∙ sym (ap (λ (k : ℕ). take k xs) (add-one i) ∙ take-suc xs i r l)

-- What the call does with the reports that are gathered is what it does with all: they are all, or it is refused with 13 either way.
pub gathered_all : (s : Schedule) (ns ys zs : List ℕ) (xs : List Report) (r : Done (Result ℕ Refusal)) → xs ≡ take (gathered_of (length ns)) (reports_of ns)
    → ReportsAll s xs ys zs r → ReportsAll s (reports_of ns) ys zs r
gathered_all s ns ys zs xs r e p = record { is = p.is ∙ ap (λ (l : List Report). report_all s l ys) e ∙ same; good = p.good }
  where
    n : ℕ
    n = length ns / 2

    same : report_all s (take (gathered_of (length ns)) (reports_of ns)) ys ≡ report_all s (reports_of ns) ys
    same =
        by_cases (dec_le n most_reports)
        (λ h. ap (λ (l : List Report). report_all s l ys) (take_all (gathered_of (length ns)) (reports_of ns) (omega (arith, pairs_length ns))))
        (λ h.
        report_all_13 s (take (gathered_of (length ns)) (reports_of ns)) ys (omega (arith, length-take-le (gathered_of (length ns)) (reports_of ns) (omega (arith, pairs_length ns))))
        ∙ sym (report_all_13 s (reports_of ns) ys (omega (arith, pairs_length ns))))
