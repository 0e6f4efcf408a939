-- The laws of the classes: over the list, and over endless time.
use mathlib.Core.Path.{◌≡◌, refl, sym, ap, ap₂, ◌∙◌}
use mathlib.Core.Bool.{Bool, true, false, ◌||◌, not, or-false, or-true, false≢true}
use mathlib.Core.Logic.{by_cases, ◌↔◌}
use Prim.Native.Nat.{ℕ, suc, ◌+◌, ◌-◌, ◌*◌, ◌/◌, ◌%◌, ◌^◌, ◌<◌, ◌≤◌}
use native.Mathlib.Nat.{mod-eq_of_lt, add-mul-mod_self_right, div-add-mod', pow-suc}
use native.Mathlib.Decide.{ℕ_discrete}
use native.Mathlib.Omega.{arith}
use lib.Pow.{pow-add, mod-mod-pow, shr_lt}
use lib.Arith.{digits_lt}
use Rattle.rules.specs.Below.{any}
use Rattle.rules.specs.Time.{list_blocks}
use Rattle.rules.specs.Ownership.{largest_k}
use Rattle.rules.specs.Classes.{depth, periods, class_taken, free}
use Rattle.basics.proofs.BoolLaws.{bool_iff, is_false}
use Rattle.basics.proofs.BelowLaws.{any_of, any_at, any_ext}

-- A sound k is within the depth of the tree: cited wherever a class is asked for, as nothing else ties the two numbers.
pub within_depth : {k : ℕ} → k ≤ largest_k → k ≤ depth
within_depth h = omega arith

-- What is taken repeats with the list.
abbrev pub Periodic : (ℕ → Bool) → Type 0
Periodic f = (b : ℕ) → f (b % list_blocks) ≡ f b

list_power : (k : ℕ) → k ≤ depth → 2 ^ (depth - k + k) ≡ list_blocks
list_power k h =
    let s : 9 - k + k ≡ 9 = omega arith in
    rw s

module _ (f : ℕ → Bool) (k r : ℕ) (hk : k ≤ depth) (hr : r < 2 ^ k) where
  -- A class is taken exactly if a block of the list with its remainder is.
  pub class_taken_list : (class_taken f k r ≡ true) ↔ ((b : ℕ) × (b < list_blocks) × (b % 2 ^ k ≡ r) × (f b ≡ true))
  unfolding class_taken
  class_taken_list = (
    λ e.
        let w = any_at (periods k) (λ i. f (r + i * 2 ^ k)) e in
        let l : w.0 * 2 ^ k + r < 2 ^ (9 - k) * 2 ^ k = digits_lt w.1 hr in
        let p : 2 ^ (9 - k) * 2 ^ k ≡ 512 = sym (pow-add 2 (9 - k) k) ∙ list_power k hk in
        (r + w.0 * 2 ^ k, omega arith, add-mul-mod_self_right r w.0 (2 ^ k) ∙ mod-eq_of_lt hr, w.2),
    λ w.
        let l : w.0 < 2 ^ (9 - k + k) = rw (list_power k hk) w.1 in
        let e : r + w.0 / 2 ^ k * 2 ^ k ≡ w.0 = omega (arith, div-add-mod' w.0 (2 ^ k), w.2) in
        any_of (periods k) (λ i. f (r + i * 2 ^ k)) (w.0 / 2 ^ k) (shr_lt (9 - k) k l) (ap f e ∙ w.3),
  )

  -- And so exactly if a block of it in endless time is.
  pub class_taken_ever : Periodic f → (class_taken f k r ≡ true) ↔ ((b : ℕ) × (b % 2 ^ k ≡ r) × (f b ≡ true))
  class_taken_ever period = (
    λ e.
        let w = class_taken_list.0 e in
        (w.0, w.2, w.3),
    λ w.
        let m : w.0 % 512 % 2 ^ k ≡ w.0 % 2 ^ k = rw (list_power k hk) at (mod-mod-pow w.0 (9 - k) k) in
        class_taken_list.1 (w.0 % 512, omega arith, m ∙ w.1, period w.0 ∙ w.2),
  )

  -- A class is free in the list of 512 exactly if it is free for ever.
  pub free_ever : Periodic f → (free f k r ≡ true) ↔ ((b : ℕ) → b % 2 ^ k ≡ r → f b ≡ false)
  unfolding free
  free_ever period = (
    λ e b m. is_false (f b) (λ t. false≢true (sym (ap not ((class_taken_ever period).1 (b, m, t))) ∙ e)),
    λ h. ap not (is_false (class_taken f k r) (λ t. let w = (class_taken_ever period).0 t in false≢true (sym (h w.0 w.1) ∙ w.2))),
  )

-- The even and the odd numbers below n + n.
any_double : (n : ℕ) (g : ℕ → Bool) → any (2 * n) g ≡ any n (λ i. g (2 * i)) || any n (λ i. g (2 * i + 1))
any_double n g = bool_iff (any (2 * n) g) (any n (λ i. g (2 * i)) || any n (λ i. g (2 * i + 1))) to from
  where
    to : any (2 * n) g ≡ true → any n (λ i. g (2 * i)) || any n (λ i. g (2 * i + 1)) ≡ true
    to e =
        let w = any_at (2 * n) g e in
        by_cases (ℕ_discrete (w.0 % 2) 0)
        (λ q.
        let s : 2 * (w.0 / 2) ≡ w.0 = omega arith in
        ap (λ (x : Bool). x || any n (λ i. g (2 * i + 1))) (any_of n (λ i. g (2 * i)) (w.0 / 2) (omega arith) (ap g s ∙ w.2)))
        (λ q.
        let s : 2 * (w.0 / 2) + 1 ≡ w.0 = omega arith in
        ap (λ (x : Bool). any n (λ i. g (2 * i)) || x) (any_of n (λ i. g (2 * i + 1)) (w.0 / 2) (omega arith) (ap g s ∙ w.2)) ∙ or-true (any n (λ i. g (2 * i))))

    from : any n (λ i. g (2 * i)) || any n (λ i. g (2 * i + 1)) ≡ true → any (2 * n) g ≡ true
    from e = go (any n (λ i. g (2 * i))) refl e
      where
        go : (v : Bool) → any n (λ i. g (2 * i)) ≡ v → v || any n (λ i. g (2 * i + 1)) ≡ true → any (2 * n) g ≡ true
        go true q e =
            let w = any_at n (λ i. g (2 * i)) q in
            any_of (2 * n) g (2 * w.0) (omega arith) w.2
        go false q e =
            let w = any_at n (λ i. g (2 * i + 1)) e in
            any_of (2 * n) g (2 * w.0 + 1) (omega arith) w.2

-- A class is taken exactly if one of its two halves is.
pub class_halves : (f : ℕ → Bool) (k r : ℕ) → k < depth → class_taken f k r ≡ class_taken f (suc k) r || class_taken f (suc k) (2 ^ k + r)
unfolding class_taken
class_halves f k r hk =
    let s : 9 - k ≡ suc (9 - suc k) = omega arith in
    let e : 2 ^ (9 - k) ≡ 2 * 2 ^ (9 - suc k) = rw (s, pow-suc 2 (9 - suc k)) (omega arith) in
    ap (λ (n : ℕ). any n (λ i. f (r + i * 2 ^ k))) e
    ∙ any_double (2 ^ (9 - suc k)) (λ i. f (r + i * 2 ^ k))
    ∙ ap₂ ◌||◌
    (any_ext (2 ^ (9 - suc k)) _ _ (λ i l. ap f (rw (pow-suc 2 k) (omega arith))))
    (any_ext (2 ^ (9 - suc k)) _ _ (λ i l. ap f (rw (pow-suc 2 k) (omega arith))))

-- A class of the list's own length is one block.
pub class_leaf : (f : ℕ → Bool) (r : ℕ) → class_taken f depth r ≡ f r
unfolding class_taken any
class_leaf f r =
    let e : r + 0 * 512 ≡ r = omega arith in
    or-false (f (r + 0 * 512)) ∙ ap f e
