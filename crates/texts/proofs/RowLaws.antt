-- The laws of a row of numbers, one space before each.
use mathlib.Core.Path.{◌≡◌, refl, sym, ap, ap₂, ◌∙◌}
use mathlib.Core.Bool.{◌&&◌}
use mathlib.Core.List.{List, [], ◌∷◌, ◌++◌, map, append-nil}
use mathlib.Core.Logic.{◌≢◌}
use Rattle.std.specs.Prelude.{Some}
use Prim.Native.Nat.{ℕ, suc, ◌<◌, ◌^◌}
use native.Mathlib.Omega.{arith}
use lib.ListN.{length, get_or, drop, take-append-drop}
use lib.Seq.{drop-append_seam}
use borrow.Author.Tests.{ltb-true, lt-ltb}
use Rattle.rules.specs.Text.{byte}
use Rattle.rules.specs.Decimal.{decimal, value, fits}
use Rattle.texts.specs.Row.{number_in, IsRow}
use Rattle.rules.specs.Split.{parted, before}
use Rattle.rules.specs.Words.{spaced}
use Rattle.rules.specs.Commands.{all_fit}
use Rattle.basics.proofs.BoolLaws.{both}
use Rattle.texts.proofs.SplitLaws.{Without, split_piece, split_none, before_take, before_of, before_of_all}
use Rattle.texts.proofs.DecimalLaws.{value_decimal, decimal_digits, number_digits, number_only}

-- ---- the digits of a number
without_each : (separator : ℕ) (bs : List ℕ) → ((i : ℕ) → i < length bs → get_or bs i 0 ≢ separator) → Without separator bs
without_each separator [] h = tt
without_each separator (b ∷ bs) h = (h 0 (omega arith), without_each separator bs (λ i l. h (suc i) (omega arith)))

-- No digit is a byte below them, as a space or LF is.
pub decimal_without : (separator : ℕ) → separator < byte "0" → (n : ℕ) → Without separator (decimal n)
decimal_without separator h n = without_each separator (decimal n) (λ i l e. omega (arith, (decimal_digits n).each i l))

spaceless : (n : ℕ) → Without (byte " ") (decimal n)
spaceless = decimal_without (byte " ") (omega arith)

-- What is between the spaces are the digits of each number.
pub values_spaced : (n : ℕ) (ns : List ℕ)
    → map value ((parted (byte " ") (decimal n ++ spaced ns)).pieces ++ ((parted (byte " ") (decimal n ++ spaced ns)).tail ∷ [])) ≡ n ∷ ns
unfolding spaced
values_spaced n [] =
    rw (append-nil (decimal n), split_none (byte " ") (decimal n) (spaceless n), value_decimal n)
values_spaced n (m ∷ ns) =
    rw (split_piece (byte " ") (decimal n) (decimal m ++ spaced ns) (spaceless n), value_decimal n)
    (ap {B = List ℕ} (λ l. n ∷ l) (values_spaced m ns))

-- What has no space stands before the first number, or is all.
pub before_spaced : (word ns : List ℕ) → Without (byte " ") word → before (byte " ") (word ++ spaced ns) ≡ word
unfolding spaced
before_spaced word [] h = rw (append-nil word) (before_of_all (byte " ") word h)
before_spaced word (n ∷ ns) h = before_of (byte " ") word (decimal n ++ spaced ns) h

pub rest_spaced : (word ns : List ℕ) → Without (byte " ") word → drop (length (before (byte " ") (word ++ spaced ns))) (word ++ spaced ns) ≡ spaced ns
rest_spaced word ns h = rw (before_spaced word ns h) (drop-append_seam word (spaced ns))

-- ---- a row, number by number
-- Nothing is the row of no numbers,
pub row_nothing : IsRow [] []
unfolding spaced all_fit
row_nothing = record { is = refl; fit = refl }

-- a space and a number in front of a row make one that is longer,
pub row_longer : (bs : List ℕ) (n : ℕ) (ns : List ℕ) → number_in (before (byte " ") bs) ≡ Some n → IsRow (drop (length (before (byte " ") bs)) bs) ns
    → IsRow (byte " " ∷ bs) (n ∷ ns)
unfolding spaced all_fit fits
row_longer bs n ns e later =
    let digits = before (byte " ") bs in
    let first = number_only digits n e in
    let whole : bs ≡ digits ++ drop (length digits) bs = sym (rw (← before_take (byte " ") bs) at (take-append-drop (length digits) bs)) in
    record {
      is = ap {B = List ℕ} (λ l. byte " " ∷ l) (whole ∙ ap₂ {C = List ℕ} (λ x y. x ++ y) first.0 later.is);
      fit = ap₂ ◌&&◌ (lt-ltb n (2 ^ 32) first.1) later.fit;
    }

-- and no other bytes are a row.
pub record First (b : ℕ) (bs ns : List ℕ) : Type 0 where
  pub n : ℕ
  pub later : List ℕ
  pub is : ns ≡ n ∷ later
  pub space : b ≡ byte " "
  pub reads : number_in (before (byte " ") bs) ≡ Some n
  pub row : IsRow (drop (length (before (byte " ") bs)) bs) later

-- Its first number, and the row behind it.
pub row_first : (b : ℕ) (bs ns : List ℕ) → IsRow (b ∷ bs) ns → First b bs ns
unfolding spaced all_fit fits
row_first b bs [] r = let e = r.is in let z : ◌≡◌ {A = ℕ} 0 1 = cc in absurd (omega arith)
row_first b bs (n ∷ ns) r =
    let e = r.is in
    let space : b ≡ byte " " = cc in
    let rest : bs ≡ decimal n ++ spaced ns = cc in
    let g = both (fits n) (all_fit ns) r.fit in
    record {
      n = n;
      later = ns;
      is = refl;
      space = space;
      reads = ap (λ (l : List ℕ). number_in (before (byte " ") l)) rest ∙ ap number_in (before_spaced (decimal n) ns (spaceless n)) ∙ number_digits n (ltb-true n (2 ^ 32) g.0);
      row = record { is = ap (λ (l : List ℕ). drop (length (before (byte " ") l)) l) rest ∙ rest_spaced (decimal n) ns (spaceless n); fit = g.1 };
    }

-- So bytes are the row of no other numbers.
spaced_unique : (ns ms : List ℕ) → spaced ns ≡ spaced ms → ns ≡ ms
unfolding spaced
spaced_unique [] [] e = refl
spaced_unique [] (m ∷ ms) e = let z : ◌≡◌ {A = ℕ} 0 1 = cc in absurd (omega arith)
spaced_unique (n ∷ ns) [] e = let z : ◌≡◌ {A = ℕ} 0 1 = cc in absurd (omega arith)
spaced_unique (n ∷ ns) (m ∷ ms) e =
    let rest : decimal n ++ spaced ns ≡ decimal m ++ spaced ms = cc in
    sym (values_spaced n ns)
    ∙ ap (λ (l : List ℕ). map value ((parted (byte " ") l).pieces ++ ((parted (byte " ") l).tail ∷ []))) rest
    ∙ values_spaced m ms

pub row_unique : {bytes ns ms : List ℕ} → IsRow bytes ns → IsRow bytes ms → ns ≡ ms
row_unique {bytes} {ns} {ms} r q = spaced_unique ns ms (sym r.is ∙ q.is)
