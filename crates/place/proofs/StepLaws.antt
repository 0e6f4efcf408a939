-- The steps of an admission, by the tests on their way.
use mathlib.Core.Path.{◌≡◌, refl, sym, ap, ◌∙◌}
use mathlib.Core.Bool.{Bool, true, false, not, ◌||◌, cond, false≢true}
use mathlib.Core.Option.{Option, none, some}
use Prim.Native.Nat.{ℕ, ◌*◌, ◌^◌, ◌<◌, ◌≤◌}
use native.Mathlib.Omega.{arith}
use lib.Dec.{ltb}
use borrow.Author.Tests.{le-leb, lt-leb, le-ltb, ltb-true, ltb-false, not-false}
use Rattle.rules.specs.Ownership.{largest_k}
use Rattle.rules.specs.declared.Refusal.TheVariants.{HandleLive, IntervalOutside, NoInterval, ShareWrong, CeilingAboveHalf, NoOpenAnchor}
use Rattle.rules.specs.Core.{is_interval, is_range}
use Rattle.rules.specs.Mirror.{mirrored}
use Rattle.rules.specs.Refusals.{number}
use Rattle.rules.specs.Admit.{interval_outside, k_of, k_in, share_wrong, ceiling_above_half, first_open}
use Rattle.rules.specs.Steps.{Step, gives, places, passes, refuses}
use Rattle.place.specs.Steps.{interval_step, smallest_step, range_step, share_step, half_step, place_at, place_step, plan_step}
use Rattle.basics.proofs.BoolLaws.{is_false, neither}
use Rattle.calls.proofs.RangeLaws.{interval_bounds, interval_is, range_bounds, range_is, k_is, k_most, k_held, k_missed}

pub interval_gives : (k i : ℕ) → k ≤ largest_k → 6 * 2 ^ k ≤ i → i < 12 * 2 ^ k → (6 ≤ i) × (i ≤ 3200) → gives k ≡ interval_step i
unfolding interval_step
interval_gives k i h l m b = rw (k_is k i h l m, interval_is i b.0 b.1)

-- From the longest interval on it is the largest k.
pub interval_most : (i : ℕ) → 6 * 2 ^ largest_k ≤ i → i ≤ 3200 → gives largest_k ≡ interval_step i
unfolding interval_step
interval_most i l b = rw (k_most i l, interval_is i (omega arith) b)

pub interval_below : (i : ℕ) → i < 6 → refuses (number IntervalOutside) ≡ interval_step i
unfolding interval_step is_interval
interval_below i h = rw (lt-leb 6 i h)

pub interval_above : (i : ℕ) → 3200 < i → refuses (number IntervalOutside) ≡ interval_step i
unfolding interval_step is_interval
interval_above i h = rw (le-leb 6 i (omega arith), lt-leb i 3200 h)

-- ---- what the answer of a step tells
tells : (b : Bool) (x y z : Step) → z ≡ cond b x y → (z ≡ x → ⊥) → (b ≡ false) × (z ≡ y)
tells true x y z e n = absurd (n e)
tells false x y z e n = (refl, e)

told : (b : Bool) (x y z : Step) → z ≡ cond b x y → (z ≡ y → ⊥) → b ≡ true
told true x y z e n = refl
told false x y z e n = absurd (n e)

-- A step that passes or refuses: it passes exactly if its test fails.
step_passed : (b : Bool) (n : ℕ) → passes ≡ cond b (refuses n) passes → b ≡ false
step_passed b n e = (tells b (refuses n) passes passes e (λ q. let z : ◌≡◌ {A = ℕ} 0 1 = cc in absurd (omega arith))).0

step_refused : (b : Bool) (n : ℕ) → refuses n ≡ cond b (refuses n) passes → b ≡ true
step_refused b n e = told b (refuses n) passes (refuses n) e (λ q. let z : ◌≡◌ {A = ℕ} 0 1 = cc in absurd (omega arith))

pub interval_told : (i k : ℕ) → gives k ≡ interval_step i → (is_interval i ≡ true) × (k ≡ k_of i)
unfolding interval_step
interval_told i k e =
    let w = tells (not (is_interval i)) (refuses (number IntervalOutside)) (gives (k_of i)) (gives k) e (λ q. let z : ◌≡◌ {A = ℕ} 0 1 = cc in absurd (omega arith)) in
    let q = w.1 in
    (not-false (is_interval i) w.0, (cc))

-- Refused by the largest, or by the smallest: then the bounds are no range.
pub interval_refused : (lo hi : ℕ) → refuses (number IntervalOutside) ≡ interval_step hi → interval_outside lo hi ≡ true
unfolding interval_step
interval_refused lo hi e =
    let o = told (not (is_interval hi)) (refuses (number IntervalOutside)) (gives (k_of hi)) (refuses (number IntervalOutside)) e (λ q. let z : ◌≡◌ {A = ℕ} 0 1 = cc in absurd (omega arith)) in
    ap not (is_false (is_range lo hi) (λ r. false≢true (sym (ap not (range_bounds lo hi r).1) ∙ o)))

pub smallest_refused : (lo hi : ℕ) → refuses (number IntervalOutside) ≡ smallest_step lo hi → interval_outside lo hi ≡ true
unfolding smallest_step
smallest_refused lo hi e =
    let o = step_refused (ltb lo 6 || ltb hi lo) (number IntervalOutside) e in
    ap not
    (is_false (is_range lo hi) (λ r.
    let b = range_bounds lo hi r in
    let t : ltb lo 6 || ltb hi lo ≡ false = rw (le-ltb lo 6 (interval_bounds lo b.0).0, le-ltb hi lo b.2) refl in
    false≢true (sym t ∙ o)))

-- Where both pass, they are.
pub smallest_told : (lo hi : ℕ) → is_interval hi ≡ true → passes ≡ smallest_step lo hi → interval_outside lo hi ≡ false
unfolding smallest_step
smallest_told lo hi h e =
    let p = neither (ltb lo 6) (ltb hi lo) (step_passed (ltb lo 6 || ltb hi lo) (number IntervalOutside) e) in
    ap not (range_is lo hi (ltb-false lo 6 p.0) (ltb-false hi lo p.1) (interval_bounds hi h).1)

pub range_missed : (lo hi : ℕ) → is_interval hi ≡ true → refuses (number NoInterval) ≡ range_step lo (2 ^ k_of hi) → k_in lo hi ≡ none
unfolding range_step
range_missed lo hi h e =
    k_missed lo hi h (ltb-true (6 * 2 ^ k_of hi) lo (step_refused (ltb (6 * 2 ^ k_of hi) lo) (number NoInterval) e))

pub range_told : (lo hi : ℕ) → is_interval hi ≡ true → passes ≡ range_step lo (2 ^ k_of hi) → k_in lo hi ≡ some (k_of hi)
unfolding range_step
range_told lo hi h e =
    k_held lo hi h (ltb-false (6 * 2 ^ k_of hi) lo (step_passed (ltb (6 * 2 ^ k_of hi) lo) (number NoInterval) e))

pub share_told : (f c F : ℕ) → passes ≡ share_step f c F → share_wrong f c F ≡ false
unfolding share_step
share_told f c F e = step_passed (share_wrong f c F) (number ShareWrong) e

pub wrong_told : (f c F : ℕ) → refuses (number ShareWrong) ≡ share_step f c F → share_wrong f c F ≡ true
unfolding share_step
wrong_told f c F e = step_refused (share_wrong f c F) (number ShareWrong) e

pub half_told : (c F : ℕ) → passes ≡ half_step c F → ceiling_above_half c F ≡ false
unfolding half_step
half_told c F e = step_passed (ceiling_above_half c F) (number CeilingAboveHalf) e

pub above_told : (c F : ℕ) → refuses (number CeilingAboveHalf) ≡ half_step c F → ceiling_above_half c F ≡ true
unfolding half_step
above_told c F e = step_refused (ceiling_above_half c F) (number CeilingAboveHalf) e

pub place_told : (f : ℕ → Bool) (k n A : ℕ) → gives A ≡ place_step f k n → (p : ℕ) × (first_open f k n ≡ some p) × (A ≡ mirrored k p)
unfolding place_step
place_told f k n A e = go (first_open f k n) refl e
  where
    go : (o : Option ℕ) → first_open f k n ≡ o → gives A ≡ place_at k o → (p : ℕ) × (first_open f k n ≡ some p) × (A ≡ mirrored k p)
    go none q e = let z : ◌≡◌ {A = ℕ} 0 1 = cc in absurd (omega arith)
    go (some p) q e = (p, q, (cc))

pub nowhere_told : (f : ℕ → Bool) (k n : ℕ) → refuses (number NoOpenAnchor) ≡ place_step f k n → first_open f k n ≡ none
unfolding place_step
nowhere_told f k n e = go (first_open f k n) refl e
  where
    go : (o : Option ℕ) → first_open f k n ≡ o → refuses (number NoOpenAnchor) ≡ place_at k o → first_open f k n ≡ none
    go none q e = q
    go (some p) q e = let z : ◌≡◌ {A = ℕ} 0 1 = cc in absurd (omega arith)

-- ---- the whole plan, by each exit
module _ (f : ℕ → Bool) (lo hi floor ceiling : ℕ) where
  pub plan_2 : (live : Bool) → live ≡ true → refuses (number HandleLive) ≡ plan_step live f lo hi floor ceiling
  unfolding plan_step
  plan_2 live e = rw e

  module _ (live : Bool) (l : live ≡ false) where
    pub plan_4 : interval_outside lo hi ≡ true → refuses (number IntervalOutside) ≡ plan_step live f lo hi floor ceiling
    unfolding plan_step
    plan_4 e = rw (l, e)

    module _ (o : interval_outside lo hi ≡ false) where
      pub plan_15 : k_in lo hi ≡ none → refuses (number NoInterval) ≡ plan_step live f lo hi floor ceiling
      unfolding plan_step
      plan_15 e = rw (l, o, e)

      module _ (k : ℕ) (e : k_in lo hi ≡ some k) where
        pub plan_5 : share_wrong floor ceiling (2 ^ k) ≡ true → refuses (number ShareWrong) ≡ plan_step live f lo hi floor ceiling
        unfolding plan_step
        plan_5 w = rw (l, o, e, w)

        module _ (w : share_wrong floor ceiling (2 ^ k) ≡ false) where
          pub plan_20 : ceiling_above_half ceiling (2 ^ k) ≡ true → refuses (number CeilingAboveHalf) ≡ plan_step live f lo hi floor ceiling
          unfolding plan_step
          plan_20 t = rw (l, o, e, w, t)

          module _ (t : ceiling_above_half ceiling (2 ^ k) ≡ false) where
            pub plan_6 : first_open f k floor ≡ none → refuses (number NoOpenAnchor) ≡ plan_step live f lo hi floor ceiling
            unfolding plan_step
            plan_6 p = rw (l, o, e, w, t, p)

            pub plan_ok : (p A : ℕ) → first_open f k floor ≡ some p → A ≡ mirrored k p → places k A ≡ plan_step live f lo hi floor ceiling
            unfolding plan_step
            plan_ok p A q a = rw (l, o, e, w, t, q, a)
