-- The host's range, the k that it gives, and the refusals 4 and 15.
use mathlib.Core.Path.{◌≡◌, refl, sym, ap, ◌∙◌}
use mathlib.Core.Bool.{Bool, true, false, not, ◌&&◌, cond, false≢true}
use mathlib.Core.Logic.{by_cases, ◌↔◌, ◌⊎◌, inl, inr, ⊎_elim}
use mathlib.Core.List.{List, ◌∷◌}
use mathlib.Core.Option
use mathlib.Core.Option.{Option, none, some}
use Prim.Native.Nat.{ℕ, suc, ◌*◌, ◌^◌, ◌<◌, ◌≤◌}
use native.Mathlib.Decide.{dec_le, dec_lt}
use native.Mathlib.Omega.{arith}
use lib.Pow.{pow_pos, pow_mono}
use lib.Dec.{leb}
use lib.ListN.{length, get_or, take}
use borrow.Author.Tests.{le-leb, lt-leb, leb-true, le-ltb, ltb-false, not-false}
use Rattle.rules.specs.declared.Schedule.{Schedule}
use Rattle.rules.specs.declared.Command.TheVariants.{Admit}
use Rattle.rules.specs.declared.Refusal.TheVariants.{HandleAbove63, HandleLive, IntervalOutside, NoInterval}
use Rattle.rules.specs.Core.{least_interval, is_interval, is_range, base_interval, subrated_interval}
use Rattle.rules.specs.Ownership.{largest_k, subrating, taken}
use Rattle.rules.specs.Refusals.{number, Check, check, decided}
use Rattle.rules.specs.Answers.{Outcome, refused, refusing}
use Rattle.rules.specs.Handles.{above_handles, is_live}
use Rattle.rules.specs.Admit.{interval_outside, k_of, in_range, k_in, no_interval, k_for, new_connection, factor_checks, admit_checks, admit_done, admit}
use Rattle.rules.specs.Below.{is_none}
use Rattle.rules.specs.Obey.{single_from, obey}
use Rattle.basics.proofs.BoolLaws.{both, is_false}
use Rattle.basics.proofs.BelowLaws.{greatest_some, greatest_none, greatest_is, greatest_is_none, is_none_lem, largest_is_largest, largest_unique}
use Rattle.calls.proofs.RefusalLaws.{Passed, decided_first, decided_skip, decided_after, refusing_at}

-- ---- the bounds
pub interval_bounds : (i : ℕ) → is_interval i ≡ true → (6 ≤ i) × (i ≤ 3200)
unfolding is_interval
interval_bounds i e =
    let p = both (leb 6 i) (leb i 3200) e in
    (leb-true 6 i p.0, leb-true i 3200 p.1)

pub interval_is : (i : ℕ) → 6 ≤ i → i ≤ 3200 → is_interval i ≡ true
unfolding is_interval
interval_is i l m = rw (le-leb 6 i l, le-leb i 3200 m)

-- Both bounds are intervals, and the smallest is not above the largest.
pub range_bounds : (lo hi : ℕ) → is_range lo hi ≡ true → (is_interval lo ≡ true) × (is_interval hi ≡ true) × (lo ≤ hi)
unfolding is_range
range_bounds lo hi e =
    let p = both (is_interval lo && is_interval hi) (leb lo hi) e in
    let q = both (is_interval lo) (is_interval hi) p.0 in
    (q.0, q.1, leb-true lo hi p.1)

pub range_is : (lo hi : ℕ) → 6 ≤ lo → lo ≤ hi → hi ≤ 3200 → is_range lo hi ≡ true
unfolding is_range
range_is lo hi l m n = rw (interval_is lo l (omega arith), interval_is hi (omega arith) n, le-leb lo hi m)

-- 4: "either bound outside 6 to 3,200 or smallest above largest"
abbrev pub Outside : ℕ → Type 0
Outside i = (i < 6) ⊎ (3200 < i)

abbrev pub OutsideOrCrossed : ℕ → ℕ → Type 0
OutsideOrCrossed lo hi = Outside lo ⊎ Outside hi ⊎ (hi < lo)

pub outside_exactly : (lo hi : ℕ) → (interval_outside lo hi ≡ true) ↔ OutsideOrCrossed lo hi
outside_exactly lo hi = (to, from)
  where
    to : interval_outside lo hi ≡ true → OutsideOrCrossed lo hi
    to e =
        by_cases (dec_lt lo 6)
        (λ l. inl (inl l))
        (λ a. by_cases (dec_lt 3200 hi)
        (λ l. inr (inl (inr l)))
        (λ b. by_cases (dec_lt hi lo)
        (λ l. inr (inr l))
        (λ c. absurd (false≢true (sym (ap not (range_is lo hi (omega arith) (omega arith) (omega arith))) ∙ e)))))

    shut : (is_range lo hi ≡ true → ⊥) → interval_outside lo hi ≡ true
    shut n = ap not (is_false (is_range lo hi) n)

    from : OutsideOrCrossed lo hi → interval_outside lo hi ≡ true
    from w =
        shut (λ e.
        let b = range_bounds lo hi e in
        let p = interval_bounds lo b.0 in
        let q = interval_bounds hi b.1 in
        let r = b.2 in
        ⊎_elim (λ x. ⊎_elim (λ l. omega arith) (λ l. omega arith) x)
        (λ y. ⊎_elim (λ x. ⊎_elim (λ l. omega arith) (λ l. omega arith) x) (λ l. omega arith) y) w)

-- ---- the k of one interval
pub k_small : (i : ℕ) → k_of i ≤ largest_k
unfolding k_of
k_small i = (largest_is_largest largest_k (λ k. leb (6 * 2 ^ k) i)).within

pub k_fits : (i : ℕ) → 6 ≤ i → 6 * 2 ^ k_of i ≤ i
unfolding k_of
k_fits i h = leb-true _ i ((largest_is_largest largest_k (λ k. leb (6 * 2 ^ k) i)).holds (le-leb 6 i h))

-- "k is the largest with 6 × 2^k not above the interval", of those up to the largest k there is.
pub k_largest : (i : ℕ) → is_interval i ≡ true → (6 * 2 ^ k_of i ≤ i) × ((k : ℕ) → k ≤ largest_k → 6 * 2 ^ k ≤ i → k ≤ k_of i)
unfolding k_of
k_largest i e =
    let b = interval_bounds i e in
    let r = largest_is_largest largest_k (λ k. leb (6 * 2 ^ k) i) in (
      k_fits i b.0,
      λ k m h.
          by_cases (dec_le k (k_of i))
          (λ l. l)
          (λ l. absurd (false≢true (sym (r.last k (omega arith) m) ∙ le-leb (6 * 2 ^ k) i h))),
    )

pub k_is : (k i : ℕ) → k ≤ largest_k → 6 * 2 ^ k ≤ i → i < 12 * 2 ^ k → k_of i ≡ k
unfolding k_of
k_is k i h l m =
    largest_unique largest_k (λ j. leb (6 * 2 ^ j) i) k h (le-leb (6 * 2 ^ k) i l)
    (λ j p q.
    let g : 2 ^ suc k ≤ 2 ^ j = pow_mono p in
    lt-leb (6 * 2 ^ j) i (omega arith))

-- From the longest interval on it is the largest k: one of 3,072 to 3,200 gives it, as 1,536 does.
pub k_most : (i : ℕ) → 6 * 2 ^ largest_k ≤ i → k_of i ≡ largest_k
unfolding k_of
k_most i l = largest_unique largest_k (λ j. leb (6 * 2 ^ j) i) largest_k (omega arith) (le-leb (6 * 2 ^ largest_k) i l) (λ j p q. absurd (omega arith))

-- ---- the k of a range
-- k is at most the largest k, and 6 × 2^k is in the range.
pub record InRange (lo hi k : ℕ) : Type 0 where
  pub within : k ≤ largest_k
  pub not_above : 6 * 2 ^ k ≤ hi
  pub not_below : lo ≤ 6 * 2 ^ k

in_range_is : (lo hi k : ℕ) → InRange lo hi k → in_range lo hi k ≡ true
in_range_is lo hi k r = rw (le-leb (6 * 2 ^ k) hi r.not_above, le-leb lo (6 * 2 ^ k) r.not_below)

in_range_told : (lo hi k : ℕ) → k ≤ largest_k → in_range lo hi k ≡ true → InRange lo hi k
in_range_told lo hi k d e =
    let p = both (leb (6 * 2 ^ k) hi) (leb lo (6 * 2 ^ k)) e in
    record { within = d; not_above = leb-true _ hi p.0; not_below = leb-true lo _ p.1 }

-- k is given exactly if its interval is in the range, and that of no larger k, up to the largest k, is.
pub record LongestIn (lo hi k : ℕ) : Type 0 where
  pub holds : InRange lo hi k
  pub longest : (j : ℕ) → InRange lo hi j → j ≤ k

pub k_in_exactly : (lo hi k : ℕ) → (k_in lo hi ≡ some k) ↔ LongestIn lo hi k
unfolding k_in
k_in_exactly lo hi k = (to, from)
  where
    to : k_in lo hi ≡ some k → LongestIn lo hi k
    to e =
        let g = greatest_some (suc largest_k) (in_range lo hi) k e in
        record {
          holds = in_range_told lo hi k (omega (arith, g.below)) g.holds;
          longest = λ j r.
              by_cases (dec_le j k)
              (λ l. l)
              (λ l. absurd (false≢true (sym (g.last j (omega arith) (omega (arith, r.within))) ∙ in_range_is lo hi j r)));
        }

    from : LongestIn lo hi k → k_in lo hi ≡ some k
    from w =
        greatest_is (suc largest_k) (in_range lo hi) k
        (record {
          below = omega (arith, w.holds.within);
          holds = in_range_is lo hi k w.holds;
          last = λ j l h.
              is_false (in_range lo hi j) (λ e. let m = w.longest j (in_range_told lo hi j (omega arith) e) in omega arith);
        })

-- Where k is given, it is the k that is taken, and at most the largest k.
pub k_given : (lo hi k : ℕ) → k_in lo hi ≡ some k → k_for lo hi ≡ k
k_given lo hi k e = ap (λ (o : Option ℕ). Option.get_or o 0) e

pub k_deep : (lo hi k : ℕ) → k_in lo hi ≡ some k → k ≤ largest_k
k_deep lo hi k e = ((k_in_exactly lo hi k).0 e).holds.within

-- No two are given.
pub k_unique : (lo hi j k : ℕ) → k_in lo hi ≡ some j → k_in lo hi ≡ some k → j ≡ k
k_unique lo hi j k d e = let same : ◌≡◌ {A = Option ℕ} (some j) (some k) = sym d ∙ e in cc

-- None is given exactly if no k, up to the largest k, has its interval in the range.
abbrev pub NoneIn : ℕ → ℕ → Type 0
NoneIn lo hi = (k : ℕ) → InRange lo hi k → ⊥

pub none_in_exactly : (lo hi : ℕ) → (k_in lo hi ≡ none) ↔ NoneIn lo hi
unfolding k_in
none_in_exactly lo hi = (
  λ e k r. false≢true (sym (greatest_none (suc largest_k) (in_range lo hi) e k (omega (arith, r.within))) ∙ in_range_is lo hi k r),
  λ n. greatest_is_none (suc largest_k) (in_range lo hi) (λ k l. is_false (in_range lo hi k) (λ e. n k (in_range_told lo hi k (omega arith) e))),
)

-- The subrated events are so far apart: an interval of the host's range, and the longest of 2^j base intervals, j up to the largest k, that is in it.
pub interval_longest : (lo hi k A floor ceiling : ℕ) → is_range lo hi ≡ true → k_in lo hi ≡ some k
    → (is_interval (subrated_interval (subrating (new_connection k A floor ceiling))) ≡ true)
    × (lo ≤ subrated_interval (subrating (new_connection k A floor ceiling)))
    × (subrated_interval (subrating (new_connection k A floor ceiling)) ≤ hi)
    × ((j : ℕ) → j ≤ largest_k → lo ≤ 2 ^ j * base_interval → 2 ^ j * base_interval ≤ hi
    → 2 ^ j * base_interval ≤ subrated_interval (subrating (new_connection k A floor ceiling)))
interval_longest lo hi k A floor ceiling e g =
    let b = range_bounds lo hi e in
    let p = interval_bounds lo b.0 in
    let q = interval_bounds hi b.1 in
    let w = (k_in_exactly lo hi k).0 g in
    let l = w.holds.not_below in
    let m = w.holds.not_above in (
      interval_is (2 ^ k * 6) (omega arith) (omega arith),
      omega arith,
      omega arith,
      λ j d x y.
          let n : 2 ^ j ≤ 2 ^ k = pow_mono (w.longest j (record { within = d; not_above = omega arith; not_below = omega arith })) in
          omega arith,
    )

-- ---- the largest bound's own k, held against the smallest
-- Where it reaches the smallest, it is the range's;
pub k_held : (lo hi : ℕ) → is_interval hi ≡ true → lo ≤ 6 * 2 ^ k_of hi → k_in lo hi ≡ some (k_of hi)
k_held lo hi e l =
    let m = k_largest hi e in
    (k_in_exactly lo hi (k_of hi)).1
    (record {
      holds = record { within = k_small hi; not_above = m.0; not_below = l };
      longest = λ j r. m.1 j r.within r.not_above;
    })

-- where it is below the smallest, none is in the range.
pub k_missed : (lo hi : ℕ) → is_interval hi ≡ true → 6 * 2 ^ k_of hi < lo → k_in lo hi ≡ none
k_missed lo hi e l =
    (none_in_exactly lo hi).1 (λ k r.
    let m : 2 ^ k ≤ 2 ^ k_of hi = pow_mono ((k_largest hi e).1 k r.within r.not_above) in
    let n = r.not_below in
    omega arith)

-- "a range whose smallest is above 1,536 gets 15", as none is in it; one that has 1,536 in it gives the largest k.
pub range_above : (lo hi : ℕ) → 1536 < lo → NoneIn lo hi
range_above lo hi l k r =
    let m : 2 ^ k ≤ 2 ^ largest_k = pow_mono r.within in
    let n = r.not_below in
    omega arith

pub range_most : (lo hi : ℕ) → is_range lo hi ≡ true → lo ≤ 1536 → 1536 ≤ hi → k_in lo hi ≡ some largest_k
range_most lo hi e l m =
    let q = k_most hi m in
    rw q at (k_held lo hi (range_bounds lo hi e).1 (rw q l))

-- The range from the least interval is the single interval.
pub from_least : (i : ℕ) → is_interval i ≡ true → k_in least_interval i ≡ some (k_of i)
from_least i e = k_held least_interval i e (omega (arith, pow_pos (k_of i)))

-- ---- the refusals
module _ (s : Schedule) (h lo hi f c : ℕ) where
  admitted_ok : (n : ℕ) → (admit_done s h (k_for lo hi) f c).answer ≡ refused n → ⊥
  unfolding admit_done
  admitted_ok n e = let z : ◌≡◌ {A = ℕ} 0 1 = cc in omega arith

  -- Refused with the number of check i, from 0 on, exactly if it refuses and those before it pass; `other` is what a list gives past its end.
  pub admit_refused_at : (i : ℕ) (other : Check) → i < length (admit_checks s h lo hi f c)
      → ((admit s h lo hi f c).answer ≡ refused (number (get_or (admit_checks s h lo hi f c) i other).why))
      ↔ (Passed (take i (admit_checks s h lo hi f c)) × ((get_or (admit_checks s h lo hi f c) i other).refuses ≡ true))
  unfolding admit admit_checks
  admit_refused_at = refusing_at (admit_checks s h lo hi f c) s (admit_done s h (k_for lo hi) f c) admitted_ok refl

  -- 4: 1 and 2 pass, and a bound is outside 6 to 3,200, or the smallest is above the largest.
  pub interval_outside_exactly : ((admit s h lo hi f c).answer ≡ refused (number IntervalOutside)) ↔ ((h ≤ 63) × (is_live s h ≡ false) × OutsideOrCrossed lo hi)
  unfolding admit_checks
  interval_outside_exactly =
      let r = admit_refused_at 2 (check IntervalOutside true) (omega arith) in
      let o = outside_exactly lo hi in
      (λ e. let w = r.0 e in (ltb-false 63 h w.0.0, w.0.1.0, o.0 w.1), λ w. r.1 ((le-ltb 63 h w.0, (w.1, tt)), o.1 w.2))

  -- 15: 1, 2 and 4 pass, and no k, up to the largest k, has its interval in the range.
  pub no_interval_exactly : ((admit s h lo hi f c).answer ≡ refused (number NoInterval)) ↔ ((h ≤ 63) × (is_live s h ≡ false) × (is_range lo hi ≡ true) × NoneIn lo hi)
  unfolding admit_checks
  no_interval_exactly =
      let r = admit_refused_at 3 (check NoInterval true) (omega arith) in
      let n = none_in_exactly lo hi in (
        λ e. let w = r.0 e in (ltb-false 63 h w.0.0, w.0.1.0, not-false (is_range lo hi) w.0.1.1.0, n.0 (is_none_lem (k_in lo hi) w.1)),
        λ w. r.1 ((le-ltb 63 h w.0, (w.1, (ap not w.2, tt))), ap is_none (n.1 w.3)),
      )

  pub above_15 : h ≤ 63 → is_live s h ≡ false → is_range lo hi ≡ true → 1536 < lo → (admit s h lo hi f c).answer ≡ refused (number NoInterval)
  above_15 l u e m = no_interval_exactly.1 (l, u, e, range_above lo hi m)

-- The command of one interval never gives 15.
pub single_never_15 : (s : Schedule) (h i f c : ℕ) → (obey s (Admit h i f c)).answer ≡ refused (number NoInterval) → ⊥
unfolding obey
single_never_15 s h i f c e =
    let w = (no_interval_exactly s h single_from i f c).0 e in
    let g = range_bounds single_from i w.2 in
    w.3 (k_of i) ((k_in_exactly single_from i (k_of i)).0 (from_least i g.1)).holds

-- Its range is one exactly if the interval is.
single_range : (i : ℕ) → is_range single_from i ≡ is_interval i
single_range i = go (is_interval i) refl
  where
    go : (v : Bool) → is_interval i ≡ v → is_range single_from i ≡ is_interval i
    go true e = let b = interval_bounds i e in range_is single_from i (omega arith) (omega arith) (omega arith) ∙ sym e
    go false e = is_false (is_range single_from i) (λ r. false≢true (sym e ∙ (range_bounds single_from i r).1)) ∙ sym e

module _ (s : Schedule) (h i f c : ℕ) where
  -- The checks that follow k.
  abbrev after_k : ℕ → List Check
  after_k k = factor_checks (taken s.connections) k f c

  -- What is decided from 4 on, where v says whether it passes: by the range, and by the interval.
  abbrev from_range : Bool → Outcome
  from_range v =
      decided (check IntervalOutside (not v) ∷ check NoInterval (no_interval single_from i) ∷ after_k (k_for single_from i)) (refusing s) (admit_done s h (k_for single_from i) f c)

  abbrev from_interval : Bool → Outcome
  from_interval v = decided (check IntervalOutside (not v) ∷ after_k (k_of i)) (refusing s) (admit_done s h (k_of i) f c)

  -- It is the same: where 4 passes, so does 15, and the range gives the interval's own k.
  range_interval : (v : Bool) → is_interval i ≡ v → from_range v ≡ from_interval v
  range_interval false e = decided_first _ (refusing s) _ (inl (refl, refl)) ∙ sym (decided_first _ (refusing s) _ (inl (refl, refl)))
  range_interval true e =
      let g = from_least i e in
      decided_after _ _ (refusing s) _ _ _
      (decided_skip _ _ (refusing s) _ (ap is_none g) ∙ ap (λ (k : ℕ). decided (after_k k) (refusing s) (admit_done s h k f c)) (k_given single_from i (k_of i) g))

  -- So the command is as the rule sheet has it, with 20 "after 5 and before 6": "Checks 1, 2, 4, 5, 6", 4 is of the interval, and k is the largest, now at
  -- most 8, with 6 × 2^k not above it.
  abbrev sheet_checks : List Check
  sheet_checks = check HandleAbove63 (above_handles h) ∷ check HandleLive (is_live s h) ∷ check IntervalOutside (not (is_interval i)) ∷ after_k (k_of i)

  pub single_as_sheet : obey s (Admit h i f c) ≡ decided sheet_checks (refusing s) (admit_done s h (k_of i) f c)
  unfolding obey admit admit_checks
  single_as_sheet =
      ap (λ (o : Outcome). cond (above_handles h) (refusing s (number HandleAbove63)) (cond (is_live s h) (refusing s (number HandleLive)) o))
      (ap from_range (single_range i) ∙ range_interval (is_interval i) refl)
