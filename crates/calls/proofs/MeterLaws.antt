-- What the rule that moves a meter means.
use mathlib.Core.Path.{◌≡◌, refl, ap, ◌∙◌}
use mathlib.Core.Bool.{Bool, true, false, cond}
use mathlib.Core.Logic.{by_cases}
use mathlib.Core.List.{[], ◌∷◌}
use Prim.Native.Nat.{ℕ, zero, suc, ◌+◌, ◌-◌, ◌*◌, ◌/◌, ◌<◌, ◌≤◌}
use native.Mathlib.Nat.{zero-mul, suc-mul, mod-lt, div-add-mod'}
use native.Mathlib.Decide.{dec_le, ℕ_discrete}
use native.Mathlib.Omega.{arith}
use lib.Dec.{le→leb, lt→ltb}
use lib.IntN.{ℤ, pos, negsuc, neg_ℤ, ◌+ℤ◌, ◌-ℤ◌, ◌*ℤ◌, +ℤ_one}
use lib.Signed.{◌≤ℤ◌, ◌<ℤ◌, le_z_yes, lt_z_yes}
use borrow.Author.Tests.{lt-ltb, le-ltb, eq-eqb, ne_eqb}
use Rattle.rules.specs.Answers.{Answer, kept, grown, shrunk, tight}
use Rattle.rules.specs.Meter.{floor_div, moved, need, target, change, new_length}
use Rattle.calls.proofs.AnswerLaws.{values}

-- ---- division rounded toward minus infinity
neg_most : (m n : ℕ) → n < m → neg_ℤ (pos m) ≤ℤ negsuc n
neg_most zero n h = absurd (omega arith)
neg_most (suc m) n h = le_z_yes (le→leb n m (omega arith))

neg_above : (m n : ℕ) → m ≤ n → negsuc n <ℤ neg_ℤ (pos m)
neg_above zero n h = lt_z_yes tt
neg_above (suc m) n h = lt_z_yes (lt→ltb m n (omega arith))

-- One more than -(q + 1), times d
neg_times : (q d : ℕ) → (negsuc q +ℤ pos 1) *ℤ pos d ≡ neg_ℤ (pos (q * d))
neg_times zero d = ap (λ (z : ℤ). z *ℤ pos d) (+ℤ_one (negsuc zero)) ∙ rw (zero-mul d)
neg_times (suc q) d = ap (λ (z : ℤ). z *ℤ pos d) (+ℤ_one (negsuc (suc q)))

-- It is the largest whole number of which d times is at most x: one more is above.
pub floor_largest : (x : ℤ) (d : ℕ) → 0 < d → ((floor_div x d *ℤ pos d) ≤ℤ x) × (x <ℤ ((floor_div x d +ℤ pos 1) *ℤ pos d))
unfolding floor_div
floor_largest (pos n) d h =
    let e = div-add-mod' n d in
    let r = mod-lt n h in
    (le_z_yes (le→leb (n / d * d) n (omega arith)), lt_z_yes (lt→ltb n ((n / d + 1) * d) (omega arith)))
floor_largest (negsuc n) d h =
    let e = div-add-mod' n d in
    let r = mod-lt n h in
    (neg_most (suc (n / d) * d) n (rw (suc-mul (n / d) d) (omega arith)), rw (neg_times (n / d) d) (neg_above (n / d * d) n (omega arith)))

-- ---- the estimate
-- s less e, over the integers: a difference from 0 up, and one below 0.
up : (s e : ℕ) → e ≤ s → pos s -ℤ pos e ≡ pos (s - e)
up s zero h = ap pos (omega arith)
up s (suc e) h = rw (le-ltb s (suc e) h)

down : (s e : ℕ) → s < e → pos s -ℤ pos e ≡ negsuc (e - s - 1)
down s zero h = absurd (omega arith)
down s (suc e) h =
    let q : suc e - suc s ≡ suc e - s - 1 = omega arith in
    rw (lt-ltb s (suc e) h, q)

-- "e becomes e + floor((s - e) / 8) for sample s", over the integers.
pub moved_integers : (e s : ℕ) → pos (moved e s) ≡ pos e +ℤ floor_div (pos s -ℤ pos e) 8
unfolding moved floor_div
moved_integers e s =
    by_cases (dec_le e s)
    (λ h. rw (up s e h))
    (λ h.
    let l : suc ((e - s - 1) / 8) ≤ e = omega arith in
    rw (down s e (omega arith), le-ltb e (suc ((e - s - 1) / 8)) l))

pub moved_up : (e s : ℕ) → e ≤ s → moved e s ≡ e + (s - e) / 8
unfolding moved floor_div
moved_up e s h = rw (up s e h)

pub moved_down : (e s : ℕ) → s < e → moved e s ≡ e - ((e - s - 1) / 8 + 1)
unfolding moved floor_div
moved_down e s h =
    let l : suc ((e - s - 1) / 8) ≤ e = omega arith in
    let q : e - suc ((e - s - 1) / 8) ≡ e - ((e - s - 1) / 8 + 1) = omega arith in
    rw (down s e h, le-ltb e (suc ((e - s - 1) / 8)) l, q)

-- The new estimate e' is e + floor((s - e) / 8): eight times e' - e is at most s - e, and eight more are above it.
pub moved_floor : (e s : ℕ) → (8 * moved e s ≤ 7 * e + s) × (7 * e + s < 8 * moved e s + 8)
moved_floor e s =
    by_cases (dec_le e s)
    (λ h. rw (moved_up e s h) (omega arith))
    (λ h. rw (moved_down e s (omega arith)) (omega arith))

-- It stays at most what both the estimate and the sample are at most.
pub moved_most : (e s n : ℕ) → e ≤ n → s ≤ n → moved e s ≤ n
moved_most e s n h l = omega (arith, moved_floor e s)

-- Estimate 1 with sample 0 reaches 0.
pub moved_falls : moved 1 0 ≡ 0
moved_falls = moved_down 1 0 (omega arith)

-- ---- need and target
-- Need blocks, less the guard, hold the estimate, and one block less does not.
pub need_holds : (e : ℕ) → (e + 2500 ≤ need e * 7500) × (need e * 7500 < e + 2500 + 7500)
need_holds e = omega arith

pub need_next : (e L : ℕ) → e ≤ L * 7500 → need e ≤ L + 1
need_next e L h = omega arith

-- "Above L (it is then L + 1)": the target is never more than L + 1.
pub target_next : (e L floor ceiling : ℕ) → e ≤ L * 7500 → floor ≤ L → target (need e) floor ceiling ≤ L + 1
target_next e L floor ceiling h l = omega (arith, need_next e L h)

pub target_bounds : (n floor ceiling : ℕ) → floor ≤ ceiling → (floor ≤ target n floor ceiling) × (target n floor ceiling ≤ ceiling)
target_bounds n floor ceiling h = omega arith

-- A target below the ceiling is enough for the need.
pub target_enough : (n floor ceiling : ℕ) → target n floor ceiling < ceiling → n ≤ target n floor ceiling
target_enough n floor ceiling h = omega arith

-- ---- the four outcomes
module _ (L aim : ℕ) (room : Bool) where
  pub change_kept : aim ≡ L → change L aim room ≡ kept L
  unfolding change
  change_kept e = rw (eq-eqb aim L e)

  pub change_shrunk : aim < L → change L aim room ≡ shrunk aim
  unfolding change
  change_shrunk h = rw (ne_eqb aim L (omega arith), lt-ltb aim L h)

  pub change_grown : L < aim → room ≡ true → change L aim room ≡ grown (L + 1)
  unfolding change
  change_grown h e = rw (ne_eqb aim L (omega arith), le-ltb aim L (omega arith), e)

  pub change_tight : L < aim → room ≡ false → change L aim room ≡ tight L
  unfolding change
  change_tight h e = rw (ne_eqb aim L (omega arith), le-ltb aim L (omega arith), e)

  -- One of the four, and when: the answer, and the length afterwards.
  pub change_cases {ℓ} : (P : Answer → ℕ → Type ℓ) → (aim ≡ L → P (kept L) L) → (aim < L → P (shrunk aim) aim)
      → (L < aim → room ≡ true → P (grown (L + 1)) (L + 1)) → (L < aim → room ≡ false → P (tight L) L) → P (change L aim room) (new_length L aim room)
  unfolding change new_length
  change_cases P k s g t =
      by_cases (ℕ_discrete aim L)
      (λ e. rw (eq-eqb aim L e) (k e))
      (λ e. by_cases (dec_le (suc aim) L)
      (λ h. rw (ne_eqb aim L e, lt-ltb aim L h) (s h))
      (λ h. rw (ne_eqb aim L e, le-ltb aim L (omega arith)) (above (omega arith) room refl)))
    where
      above : L < aim → (v : Bool) → room ≡ v → P (cond room (grown (L + 1)) (tight L)) (cond room (L + 1) L)
      above h true q = rw q (g h q)
      above h false q = rw q (t h q)

  -- The answer names the length afterwards.
  pub change_names : values (change L aim room) ≡ new_length L aim room ∷ []
  unfolding values
  change_names = change_cases (λ a M. values a ≡ M ∷ []) (λ e. refl) (λ h. refl) (λ h e. refl) (λ h e. refl)
