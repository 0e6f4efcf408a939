-- What the questions about the numbers below a bound mean.
use mathlib.Core.Path.{◌≡◌, refl, sym, ap, ap₂, ◌∙◌, subst}
use mathlib.Core.Bool.{Bool, true, false, ◌||◌, ◌&&◌, cond, or-true, false≢true}
use mathlib.Core.Logic.{by_cases, ⊎_elim}
use mathlib.Core.List.Memᴰ
use mathlib.Core.List.{List, [], ◌∷◌, ◌++◌, map, append-nil, append_assoc, Memᴰ as In}
use mathlib.Core.Option
use mathlib.Core.Option.{Option, none, some}
use Prim.Native.Nat.{ℕ, zero, suc, ◌+◌, ◌-◌, ◌<◌, ◌≤◌}
use native.Mathlib.Nat.{add-zero, add-suc}
use native.Mathlib.Decide.{ℕ_discrete, dec_le}
use native.Mathlib.Omega.{arith}
use lib.ListN.{length, get_or, length-append}
use Rattle.rules.specs.Below.{every, any, least_from, least, greatest, largest, is_none, tabulate, in_turn, those}
use Rattle.basics.proofs.BoolLaws.{both, is_false}

-- ---- every
pub every_at : (n : ℕ) (f : ℕ → Bool) → every n f ≡ true → (i : ℕ) → i < n → f i ≡ true
unfolding every
every_at zero f e i h = absurd (omega arith)
every_at (suc n) f e i h =
    by_cases (ℕ_discrete i n)
    (λ q. ap f q ∙ (both (f n) (every n f) e).0)
    (λ q. every_at n f (both (f n) (every n f) e).1 i (omega arith))

pub every_of : (n : ℕ) (f : ℕ → Bool) → ((i : ℕ) → i < n → f i ≡ true) → every n f ≡ true
unfolding every
every_of zero f h = refl
every_of (suc n) f h = ap₂ ◌&&◌ (h n (omega arith)) (every_of n f (λ i l. h i (omega arith)))

-- ---- any
pub any_of : (n : ℕ) (f : ℕ → Bool) (i : ℕ) → i < n → f i ≡ true → any n f ≡ true
unfolding any
any_of zero f i h e = absurd (omega arith)
any_of (suc n) f i h e =
    by_cases (ℕ_discrete i n)
    (λ q. ap (λ (x : ℕ). f x || any n f) (sym q) ∙ ap (λ (x : Bool). x || any n f) e)
    (λ q. ap (λ (x : Bool). f n || x) (any_of n f i (omega arith) e) ∙ or-true (f n))

pub any_at : (n : ℕ) (f : ℕ → Bool) → any n f ≡ true → (i : ℕ) × (i < n) × (f i ≡ true)
unfolding any
any_at zero f e = absurd (false≢true e)
any_at (suc n) f e = go (f n) refl (any_at n f)
  where
    go : (v : Bool) → f n ≡ v → (any n f ≡ true → (i : ℕ) × (i < n) × (f i ≡ true)) → (i : ℕ) × (i < suc n) × (f i ≡ true)
    go true q below = (n, omega arith, q)
    go false q below =
        let r = below (ap (λ (x : Bool). x || any n f) (sym q) ∙ e) in
        (r.0, omega arith, r.2)

pub any_ext : (n : ℕ) (f g : ℕ → Bool) → ((i : ℕ) → i < n → f i ≡ g i) → any n f ≡ any n g
unfolding any
any_ext zero f g h = refl
any_ext (suc n) f g h = ap₂ ◌||◌ (h n (omega arith)) (any_ext n f g (λ i l. h i (omega arith)))

pub any_none : (n : ℕ) (f : ℕ → Bool) → ((i : ℕ) → i < n → f i ≡ false) → any n f ≡ false
unfolding any
any_none zero f h = refl
any_none (suc n) f h = ap₂ ◌||◌ (h n (omega arith)) (any_none n f (λ i l. h i (omega arith)))

pub none_at : (n : ℕ) (f : ℕ → Bool) → any n f ≡ false → (i : ℕ) → i < n → f i ≡ false
none_at n f e i h = is_false (f i) (λ q. false≢true (sym e ∙ any_of n f i h q))

-- ---- tabulate
pub length_tabulate {ℓ} : {A : Type ℓ} (n : ℕ) (f : ℕ → A) → length (tabulate n f) ≡ n
unfolding tabulate
length_tabulate zero f = refl
length_tabulate (suc n) f = ap suc (length_tabulate n (λ i. f (suc i)))

pub get_d_tabulate {ℓ} : {A : Type ℓ} (n : ℕ) (f : ℕ → A) (i : ℕ) (d : A) → i < n → get_or (tabulate n f) i d ≡ f i
unfolding tabulate
get_d_tabulate zero f i d h = absurd (omega arith)
get_d_tabulate (suc n) f zero d h = refl
get_d_tabulate (suc n) f (suc i) d h = get_d_tabulate n (λ j. f (suc j)) i d (omega arith)

pub tabulate_ext {ℓ} : {A : Type ℓ} (n : ℕ) (f g : ℕ → A) → ((i : ℕ) → i < n → f i ≡ g i) → tabulate n f ≡ tabulate n g
unfolding tabulate
tabulate_ext zero f g h = refl
tabulate_ext (suc n) f g h = ap₂ ◌∷◌ (h 0 (omega arith)) (tabulate_ext n (λ i. f (suc i)) (λ i. g (suc i)) (λ i l. h (suc i) (omega arith)))

-- The last entry of one more.
pub tabulate_last {ℓ} : {A : Type ℓ} (n : ℕ) (f : ℕ → A) → tabulate (suc n) f ≡ tabulate n f ++ (f n ∷ [])
unfolding tabulate
tabulate_last zero f = refl
tabulate_last {A = A} (suc n) f = ap {B = List A} (λ l. f 0 ∷ l) (tabulate_last n (λ i. f (suc i)))

-- ---- found, or not
pub is_none_lem {ℓ} : {A : Type ℓ} (o : Option A) → is_none o ≡ true → o ≡ none
is_none_lem none e = refl
is_none_lem (some x) e = absurd (false≢true e)

pub is_some {ℓ} : {A : Type ℓ} (o : Option A) → is_none o ≡ false → (x : A) × (o ≡ some x)
is_some none e = absurd (false≢true (sym e))
is_some (some x) e = (x, refl)

-- What is found is q, where something is found, and nothing below or above q;
found : (o : Option ℕ) (q : ℕ) → (o ≡ none → ⊥) → ((p : ℕ) → o ≡ some p → (p < q → ⊥) × (q < p → ⊥)) → o ≡ some q
found none q n u = absurd (n refl)
found (some p) q n u = let w = u p refl in ap {B = Option ℕ} some (by_cases (ℕ_discrete p q) (λ s. s) (λ s. by_cases (dec_le p q) (λ l. absurd (w.0 (omega arith))) (λ l. absurd (w.1 (omega arith)))))

-- nothing is, where no number is.
not_found : (o : Option ℕ) → ((p : ℕ) → o ≡ some p → ⊥) → o ≡ none
not_found none n = refl
not_found (some p) n = absurd (n p refl)

-- ---- least
none≢some : {p : ℕ} → ◌≡◌ {A = Option ℕ} none (some p) → ⊥
none≢some e = let z : ◌≡◌ {A = ℕ} 0 1 = cc in omega arith

pub record Least (p n : ℕ) (f : ℕ → Bool) (q : ℕ) : Type 0 where
  pub from : p ≤ q
  pub below : q < p + n
  pub holds : f q ≡ true
  pub first : (i : ℕ) → p ≤ i → i < q → f i ≡ false

pub least_from_some : (n p : ℕ) (f : ℕ → Bool) (q : ℕ) → least_from p n f ≡ some q → Least p n f q
unfolding least_from
least_from_some zero p f q e = absurd (none≢some e)
least_from_some (suc n) p f q e = go (f p) refl e (least_from_some n (p + 1) f q)
  where
    go : (v : Bool) → f p ≡ v → cond v (some p) (least_from (p + 1) n f) ≡ some q → (least_from (p + 1) n f ≡ some q → Least (p + 1) n f q) → Least p (suc n) f q
    go true t e later =
        let s : p ≡ q = cc in
        record { from = omega arith; below = omega arith; holds = ap f (sym s) ∙ t; first = λ i l h. absurd (omega arith) }
    go false t e later =
        let r = later e in
        record {
          from = omega arith;
          below = omega arith;
          holds = r.holds;
          first = λ i l h. by_cases (ℕ_discrete i p) (λ s. ap f s ∙ t) (λ s. r.first i (omega arith) h);
        }

pub least_from_none : (n p : ℕ) (f : ℕ → Bool) → least_from p n f ≡ none → (i : ℕ) → p ≤ i → i < p + n → f i ≡ false
unfolding least_from
least_from_none zero p f e i l h = absurd (omega arith)
least_from_none (suc n) p f e i l h = go (f p) refl e (least_from_none n (p + 1) f)
  where
    go : (v : Bool) → f p ≡ v → cond v (some p) (least_from (p + 1) n f) ≡ none → (least_from (p + 1) n f ≡ none → (i : ℕ) → p + 1 ≤ i → i < p + 1 + n → f i ≡ false) → f i ≡ false
    go true t e later = absurd (none≢some (sym e))
    go false t e later = by_cases (ℕ_discrete i p) (λ s. ap f s ∙ t) (λ s. later e i (omega arith) (omega arith))

-- The least number below n of which f holds is q: it is below n, f holds of it, and of none before it.
pub least_some : (n : ℕ) (f : ℕ → Bool) (q : ℕ) → least n f ≡ some q → (q < n) × (f q ≡ true) × ((i : ℕ) → i < q → f i ≡ false)
unfolding least
least_some n f q e =
    let r = least_from_some n 0 f q e in
    (omega arith, r.holds, λ i h. r.first i (omega arith) h)

pub least_none : (n : ℕ) (f : ℕ → Bool) → least n f ≡ none → (i : ℕ) → i < n → f i ≡ false
unfolding least
least_none n f e i h = least_from_none n 0 f e i (omega arith) (omega arith)

pub least_is : (n : ℕ) (f : ℕ → Bool) (q : ℕ) → q < n → f q ≡ true → ((i : ℕ) → i < q → f i ≡ false) → least n f ≡ some q
least_is n f q h t first =
    found (least n f) q
    (λ e. false≢true (sym (least_none n f e q h) ∙ t))
    (λ p e.
    let r = least_some n f p e in
    (λ l. false≢true (sym (first p l) ∙ r.1), λ l. false≢true (sym (r.2 q l) ∙ t)))

pub least_is_none : (n : ℕ) (f : ℕ → Bool) → ((i : ℕ) → i < n → f i ≡ false) → least n f ≡ none
least_is_none n f h =
    not_found (least n f) (λ p e.
    let r = least_some n f p e in
    false≢true (sym (h p r.0) ∙ r.1))

pub least_ext : (n : ℕ) (f g : ℕ → Bool) → ((i : ℕ) → i < n → f i ≡ g i) → least n f ≡ least n g
least_ext n f g h = go (least n g) refl
  where
    go : (o : Option ℕ) → least n g ≡ o → least n f ≡ least n g
    go none e = least_is_none n f (λ i l. h i l ∙ least_none n g e i l) ∙ sym e
    go (some q) e =
        let r = least_some n g q e in
        least_is n f q r.0 (h q r.0 ∙ r.1) (λ i l. h i (omega arith) ∙ r.2 i l) ∙ sym e

-- ---- greatest
pub record Greatest (n : ℕ) (f : ℕ → Bool) (k : ℕ) : Type 0 where
  pub below : k < n
  pub holds : f k ≡ true
  pub last : (i : ℕ) → k < i → i < n → f i ≡ false

pub greatest_some : (n : ℕ) (f : ℕ → Bool) (k : ℕ) → greatest n f ≡ some k → Greatest n f k
unfolding greatest
greatest_some zero f k e = absurd (none≢some e)
greatest_some (suc n) f k e = go (f n) refl e (greatest_some n f k)
  where
    go : (v : Bool) → f n ≡ v → cond v (some n) (greatest n f) ≡ some k → (greatest n f ≡ some k → Greatest n f k) → Greatest (suc n) f k
    go true t e lower =
        let s : n ≡ k = cc in
        record { below = omega arith; holds = ap f (sym s) ∙ t; last = λ i l h. absurd (omega arith) }
    go false t e lower =
        let r = lower e in
        record {
          below = omega (arith, r.below);
          holds = r.holds;
          last = λ i l h. by_cases (ℕ_discrete i n) (λ s. ap f s ∙ t) (λ s. r.last i l (omega arith));
        }

pub greatest_none : (n : ℕ) (f : ℕ → Bool) → greatest n f ≡ none → (i : ℕ) → i < n → f i ≡ false
unfolding greatest
greatest_none zero f e i h = absurd (omega arith)
greatest_none (suc n) f e i h = go (f n) refl e (greatest_none n f)
  where
    go : (v : Bool) → f n ≡ v → cond v (some n) (greatest n f) ≡ none → (greatest n f ≡ none → (i : ℕ) → i < n → f i ≡ false) → f i ≡ false
    go true t e lower = absurd (none≢some (sym e))
    go false t e lower = by_cases (ℕ_discrete i n) (λ s. ap f s ∙ t) (λ s. lower e i (omega arith))

pub greatest_is : (n : ℕ) (f : ℕ → Bool) (k : ℕ) → Greatest n f k → greatest n f ≡ some k
greatest_is n f k g =
    found (greatest n f) k
    (λ e. false≢true (sym (greatest_none n f e k g.below) ∙ g.holds))
    (λ j e.
    let r = greatest_some n f j e in
    (λ l. false≢true (sym (r.last k l g.below) ∙ g.holds), λ l. false≢true (sym (g.last j l r.below) ∙ r.holds)))

pub greatest_is_none : (n : ℕ) (f : ℕ → Bool) → ((i : ℕ) → i < n → f i ≡ false) → greatest n f ≡ none
greatest_is_none n f h =
    not_found (greatest n f) (λ k e.
    let r = greatest_some n f k e in
    false≢true (sym (h k r.below) ∙ r.holds))

-- ---- largest
pub record Largest (n : ℕ) (f : ℕ → Bool) (k : ℕ) : Type 0 where
  pub within : k ≤ n
  pub holds : f 0 ≡ true → f k ≡ true
  pub last : (i : ℕ) → k < i → i ≤ n → f i ≡ false

pub largest_is_largest : (n : ℕ) (f : ℕ → Bool) → Largest n f (largest n f)
unfolding largest
largest_is_largest n f = go (greatest (suc n) f) refl
  where
    go : (o : Option ℕ) → greatest (suc n) f ≡ o → Largest n f (Option.get_or o 0)
    go none e = record { within = omega arith; holds = λ h. h; last = λ i l h. greatest_none (suc n) f e i (omega arith) }
    go (some k) e =
        let r = greatest_some (suc n) f k e in
        record { within = omega (arith, r.below); holds = λ h. r.holds; last = λ i l h. r.last i l (omega arith) }

pub largest_unique : (n : ℕ) (f : ℕ → Bool) (k : ℕ) → k ≤ n → f k ≡ true → ((i : ℕ) → k < i → i ≤ n → f i ≡ false) → largest n f ≡ k
unfolding largest
largest_unique n f k h t last =
    ap (λ (o : Option ℕ). Option.get_or o 0)
    (greatest_is (suc n) f k (record { below = omega arith; holds = t; last = λ i l m. last i l (omega arith) }))

-- ---- in turn
-- What there is for one more comes last;
pub turn_next {ℓ} : {A : Type ℓ} (n : ℕ) (f : ℕ → List A) → in_turn (suc n) f ≡ in_turn n f ++ f n
unfolding in_turn
turn_next n f = refl

-- what there is for the first n comes first.
pub turn_append {ℓ} : {A : Type ℓ} (n m : ℕ) (f : ℕ → List A) → in_turn (n + m) f ≡ in_turn n f ++ in_turn m (λ i. f (n + i))
unfolding in_turn
turn_append n zero f = rw (add-zero n) (sym (append-nil (in_turn n f)))
turn_append {A = A} n (suc m) f =
    rw (add-suc n m) (ap (λ (l : List A). l ++ f (n + m)) (turn_append n m f) ∙ append_assoc (in_turn n f) (in_turn m (λ i. f (n + i))) (f (n + m)))

pub turn_first {ℓ} : {A : Type ℓ} (n m : ℕ) (f : ℕ → List A) → n ≤ m → in_turn m f ≡ in_turn n f ++ in_turn (m - n) (λ i. f (n + i))
turn_first n m f l =
    let e : n + (m - n) ≡ m = omega arith in
    rw e at (turn_append n (m - n) f)

pub turn_ext {ℓ} : {A : Type ℓ} (n : ℕ) (f g : ℕ → List A) → ((i : ℕ) → i < n → f i ≡ g i) → in_turn n f ≡ in_turn n g
unfolding in_turn
turn_ext zero f g h = refl
turn_ext (suc n) f g h = ap₂ ◌++◌ (turn_ext n f g (λ i l. h i (omega arith))) (h n (omega arith))

-- Something is in it exactly if it is there for a number below n.
pub turn_at {ℓ} : {A : Type ℓ} (n : ℕ) (f : ℕ → List A) (a : A) → In a (in_turn n f) → (i : ℕ) × (i < n) × In a (f i)
unfolding in_turn
turn_at zero f a m = absurd (Memᴰ.not-nil m)
turn_at (suc n) f a m =
    ⊎_elim (λ q. let w = turn_at n f a q in (w.0, omega arith, w.2)) (λ q. (n, omega arith, q)) (Memᴰ.append_cases (in_turn n f) m)

pub turn_of {ℓ} : {A : Type ℓ} (n : ℕ) (f : ℕ → List A) (a : A) (i : ℕ) → i < n → In a (f i) → In a (in_turn n f)
unfolding in_turn
turn_of zero f a i l m = absurd (omega arith)
turn_of (suc n) f a i l m =
    by_cases (ℕ_discrete i n)
    (λ q. Memᴰ.append_right (in_turn n f) (subst (λ (j : ℕ). In a (f j)) q m))
    (λ q. Memᴰ.append_left (f n) (turn_of n f a i (omega arith) m))

-- ---- those
pub those_next : (n : ℕ) (f : ℕ → Bool) → those (suc n) f ≡ those n f ++ cond (f n) (n ∷ []) []
unfolding those
those_next n f = turn_next n (λ i. cond (f i) (i ∷ []) [])

pub those_more : (n : ℕ) (f : ℕ → Bool) → f n ≡ true → those (suc n) f ≡ those n f ++ (n ∷ [])
those_more n f e = rw e at (those_next n f)

pub those_same : (n : ℕ) (f : ℕ → Bool) → f n ≡ false → those (suc n) f ≡ those n f
those_same n f e = rw (e, append-nil (those n f)) at (those_next n f)

-- The first n of them come first.
pub those_first : (n m : ℕ) (f : ℕ → Bool) → n ≤ m → (later : List ℕ) × (those m f ≡ those n f ++ later)
unfolding those
those_first n m f l = (in_turn (m - n) (λ i. cond (f (n + i)) ((n + i) ∷ []) []), turn_first n m (λ i. cond (f i) (i ∷ []) []) l)

pub those_ext : (n : ℕ) (f g : ℕ → Bool) → ((i : ℕ) → i < n → f i ≡ g i) → those n f ≡ those n g
unfolding those
those_ext n f g h = turn_ext n (λ i. cond (f i) (i ∷ []) []) (λ i. cond (g i) (i ∷ []) []) (λ i l. ap (λ (v : Bool). cond v (i ∷ []) []) (h i l))

-- A number is one of those exactly if it is below n and the test holds of it.
one_at : (v : Bool) (i a : ℕ) → In a (cond v (i ∷ []) []) → (a ≡ i) × (v ≡ true)
one_at true i a m = (Memᴰ.eq_of_singleton m, refl)
one_at false i a m = absurd (Memᴰ.not-nil m)

pub those_at : (n : ℕ) (f : ℕ → Bool) (a : ℕ) → In a (those n f) → (a < n) × (f a ≡ true)
unfolding those
those_at n f a m =
    let w = turn_at n (λ i. cond (f i) (i ∷ []) []) a m in
    let q = one_at (f w.0) w.0 a w.2 in
    (omega (arith, q.0), ap f q.0 ∙ q.1)

pub those_of : (n : ℕ) (f : ℕ → Bool) (a : ℕ) → a < n → f a ≡ true → In a (those n f)
unfolding those
those_of n f a l e = turn_of n (λ i. cond (f i) (i ∷ []) []) a a l (rw e (In.head refl))

-- There are at most n.
pub those_most : (n : ℕ) (f : ℕ → Bool) → length (those n f) ≤ n
unfolding those in_turn
those_most zero f = omega arith
those_most (suc n) f = go (f n) (those_most n f)
  where
    go : (v : Bool) → length (those n f) ≤ n → length (those n f ++ cond v (n ∷ []) []) ≤ suc n
    go true l = omega (arith, length-append (those n f) (n ∷ []))
    go false l = omega (arith, length-append (those n f) [])

-- Of none there is none.
pub those_none : (n : ℕ) (f : ℕ → Bool) → ((i : ℕ) → i < n → f i ≡ false) → those n f ≡ []
unfolding those
those_none zero f h = refl
those_none (suc n) f h = those_same n f (h n (omega arith)) ∙ those_none n f (λ i l. h i (omega arith))

-- ---- what is in a list
-- The entry at each place is,
pub in_at : {A : Type 0} (l : List A) (i : ℕ) (d : A) → i < length l → In (get_or l i d) l
in_at [] i d h = absurd (omega arith)
in_at (x ∷ l) zero d h = In.head refl
in_at (x ∷ l) (suc i) d h = In.tail (in_at l i d (omega arith))

-- and what a function takes the entries to is in the list that it takes it to.
module _ {A B : Type 0} (f : A → B) where
  pub map_at : (l : List A) (b : B) → In b (map f l) → (a : A) × In a l × (f a ≡ b)
  map_at [] b m = absurd (Memᴰ.not-nil m)
  map_at (x ∷ l) b m =
      ⊎_elim (λ q. (x, In.head refl, sym q)) (λ q. let w = map_at l b q in (w.0, In.tail w.1, w.2)) (Memᴰ.cases_cons m)

  pub map_of : {a : A} (l : List A) → In a l → In (f a) (map f l)
  map_of l (In.head e) = In.head (ap f e)
  map_of l (In.tail {xs = xs} m) = In.tail (map_of xs m)

-- ---- what comes before what
-- R holds of each entry with each later one.
abbrev pub Ordered : {A : Type 0} → (A → A → Type 0) → List A → Type 0
Ordered R [] = Unit {0}
Ordered {A} R (a ∷ l) = ((b : A) → In b l → R a b) × Ordered R l

module _ {A : Type 0} (R : A → A → Type 0) where
  -- So it is of two lists one after the other, where it is of each and across;
  pub ordered_append : (xs ys : List A) → Ordered R xs → Ordered R ys → ((a b : A) → In a xs → In b ys → R a b) → Ordered R (xs ++ ys)
  ordered_append [] ys p q across = q
  ordered_append (x ∷ xs) ys p q across =
      let later = ordered_append xs ys p.1 q (λ a b m. across a b (In.tail m)) in
      (λ b m. ⊎_elim (λ n. p.0 b n) (λ n. across x b (In.head refl) n) (Memᴰ.append_cases xs m), later)

  -- and back.
  pub ordered_across : (xs ys : List A) → Ordered R (xs ++ ys) → (a b : A) → In a xs → In b ys → R a b
  ordered_across [] ys p a b m n = absurd (Memᴰ.not-nil m)
  ordered_across (x ∷ xs) ys p a b m n =
      ⊎_elim (λ q. subst (λ (z : A). R z b) (sym q) (p.0 b (Memᴰ.append_right xs n))) (λ q. ordered_across xs ys p.1 a b q n) (Memᴰ.cases_cons m)

  -- So it is in turn, where it is of what there is for each number, and across.
  pub turn_ordered : (n : ℕ) (f : ℕ → List A) → ((i : ℕ) → Ordered R (f i)) → ((i j : ℕ) → i < j → (a b : A) → In a (f i) → In b (f j) → R a b) → Ordered R (in_turn n f)
  unfolding in_turn
  turn_ordered zero f each across = tt
  turn_ordered (suc n) f each across =
      ordered_append (in_turn n f) (f n) (turn_ordered n f each across) (each n) (λ a b p q. let w = turn_at n f a p in across w.0 n w.1 a b w.2 q)

-- What follows from R, for entries of the list, holds so too.
pub ordered_so : {A : Type 0} (R Q : A → A → Type 0) (l : List A) → ((a b : A) → In a l → In b l → R a b → Q a b) → Ordered R l → Ordered Q l
ordered_so R Q [] so p = tt
ordered_so R Q (x ∷ l) so p =
    (λ b m. so x b (In.head refl) (In.tail m) (p.0 b m), ordered_so R Q l (λ a b m n. so a b (In.tail m) (In.tail n)) p.1)

-- So it is by two places,
pub ordered_at : {A : Type 0} (R : A → A → Type 0) (l : List A) (d : A) → Ordered R l → (i j : ℕ) → i < j → j < length l → R (get_or l i d) (get_or l j d)
ordered_at R [] d p i j l h = absurd (omega arith)
ordered_at R (x ∷ xs) d p i zero l h = absurd (omega arith)
ordered_at R (x ∷ xs) d p zero (suc j) l h = p.0 (get_or xs j d) (in_at xs j d (omega arith))
ordered_at R (x ∷ xs) d p (suc i) (suc j) l h = ordered_at R xs d p.1 i j (omega arith) (omega arith)

-- and of what a function takes the entries to.
pub ordered_map : {A B : Type 0} (f : A → B) (R : B → B → Type 0) (l : List A) → Ordered (λ a b. R (f a) (f b)) l → Ordered R (map f l)
ordered_map f R [] p = tt
ordered_map {B = B} f R (x ∷ l) p =
    (λ b m. let w = map_at f l b m in subst (λ (y : B). R (f x) y) w.2 (p.0 w.0 w.1), ordered_map f R l p.1)

-- Those rise.
one_ordered : (v : Bool) (i : ℕ) → Ordered (λ a b. a < b) (cond v (i ∷ []) [])
one_ordered true i = (λ b m. absurd (Memᴰ.not-nil m), tt)
one_ordered false i = tt

pub those_rise : (n : ℕ) (f : ℕ → Bool) → Ordered (λ a b. a < b) (those n f)
unfolding those
those_rise n f =
    turn_ordered (λ a b. a < b) n (λ i. cond (f i) (i ∷ []) []) (λ i. one_ordered (f i) i)
    (λ i j l a b p q. omega (arith, (one_at (f i) i a p).0, (one_at (f j) j b q).0))
