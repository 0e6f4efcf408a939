-- Questions about the whole numbers below a bound.
use Rattle.std.specs.Prelude.{ℕ, zero, suc, ◌+◌, Bool, true, false, ◌||◌, ◌&&◌, cond, List, [], ◌∷◌, ◌++◌}
use Rattle.std.proofs.Math.Option.{Option, none, some, get_or}

-- The test holds of every number below n.
unfoldable pub every : ℕ → (ℕ → Bool) → Bool
every zero test = true
every (suc n) test =
    let others = every n test in
    test n && others

-- The test holds of some number below n.
unfoldable pub any : ℕ → (ℕ → Bool) → Bool
any zero test = false
any (suc n) test =
    let others = any n test in
    test n || others

-- The least of the numbers from p to p + n - 1 of which the test holds.
unfoldable pub least_from : ℕ → ℕ → (ℕ → Bool) → Option ℕ
least_from p zero test = none
least_from p (suc n) test =
    let later = least_from (p + 1) n test in
    cond (test p) (some p) later

-- The least number below n of which the test holds.
unfoldable pub least : ℕ → (ℕ → Bool) → Option ℕ
unfolding least_from
least n test = least_from 0 n test

-- The largest number below n of which the test holds.
unfoldable pub greatest : ℕ → (ℕ → Bool) → Option ℕ
greatest zero test = none
greatest (suc n) test =
    let lower = greatest n test in
    cond (test n) (some n) lower

-- The largest number from 1 to n of which the test holds, or 0.
unfoldable pub largest : ℕ → (ℕ → Bool) → ℕ
unfolding greatest
largest n test = get_or (greatest (suc n) test) 0

-- Nothing was found.
abbrev pub is_none {ℓ} : {A : Type ℓ} → Option A → Bool
is_none none = true
is_none (some x) = false

-- The list f 0, f 1, .. of n entries.
unfoldable pub tabulate {ℓ} : {A : Type ℓ} → ℕ → (ℕ → A) → List A
tabulate zero f = []
tabulate (suc n) f = f 0 ∷ tabulate n (λ i. f (suc i))

-- What there is for 0, for 1 and so on up to n - 1, in turn.
unfoldable pub in_turn {ℓ} : {A : Type ℓ} → ℕ → (ℕ → List A) → List A
in_turn zero f = []
in_turn (suc n) f =
    let earlier = in_turn n f in
    earlier ++ f n

-- The numbers below n of which the test holds, rising.
unfoldable pub those : ℕ → (ℕ → Bool) → List ℕ
unfolding in_turn
those n test = in_turn n (λ i. cond (test i) (i ∷ []) [])
