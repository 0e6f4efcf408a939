-- What soundness means, over endless time.
use mathlib.Core.Path.{◌≡◌, refl, sym, ap, ap₂, ◌∙◌}
use mathlib.Core.Bool.{Bool, true, false, ◌||◌, ◌&&◌, not, or-true, false≢true}
use mathlib.Core.Logic.{by_cases, ◌↔◌}
use mathlib.Core.List.{List, [], ◌∷◌}
use Prim.Native.Nat.{ℕ, zero, suc, ◌%◌, ◌^◌, ◌<◌, ◌≤◌}
use native.Mathlib.Decide.{ℕ_discrete, dec_le}
use native.Mathlib.Omega.{arith}
use lib.ListN.{length}
use lib.Dec.{leb}
use borrow.Author.Tests.{le-leb, leb-true, lt-ltb, ltb-true}
use Rattle.rules.specs.declared.Connection.{Connection}
use Rattle.rules.specs.declared.Schedule.{Schedule}
use Rattle.rules.specs.Below.{any}
use Rattle.rules.specs.Time.{list_blocks}
use Rattle.rules.specs.Ownership.{handles, largest_k, at, belongs, owns, taken, owned_twice}
use Rattle.rules.specs.Classes.{depth, free}
use Rattle.rules.specs.Sound.{numbers_within, NumbersWithin, sound_numbers, Numbers, all_sound, apart, sound_connections, sound}
use Rattle.rules.specs.Good.{Good, with_connections}
use Rattle.basics.proofs.BoolLaws.{bool_iff, both, is_false, not_true_is_false}
use Rattle.basics.proofs.BelowLaws.{any_none, none_at}
use Rattle.blocks.proofs.EndlessTime.{belongs_mod}
use Rattle.blocks.proofs.ClassLaws.{within_depth, Periodic, free_ever}

-- ---- the numbers of one connection
pub numbers_within_lem : (most : ℕ) (c : Connection) → (numbers_within most c ≡ true) ↔ NumbersWithin most c
unfolding numbers_within
numbers_within_lem most c = (
  λ e.
      let p₁ = both _ _ e in
      let p₂ = both _ _ p₁.0 in
      let p₃ = both _ _ p₂.0 in
      let p₄ = both _ _ p₃.0 in
      let p₅ = both _ _ p₄.0 in
      let p₆ = both _ _ p₅.0 in
      record {
        deep = leb-true _ _ p₆.0;
        anchored = ltb-true _ _ p₆.1;
        positive = leb-true _ _ p₅.1;
        floored = leb-true _ _ p₄.1;
        ceiled = leb-true _ _ p₃.1;
        whole = leb-true _ _ p₂.1;
        metered = leb-true _ _ p₁.1;
      },
  λ n.
      rw (
        le-leb _ _ n.deep,
        lt-ltb _ _ n.anchored,
        le-leb _ _ n.positive,
        le-leb _ _ n.floored,
        le-leb _ _ n.ceiled,
        le-leb _ _ n.whole,
        le-leb _ _ n.metered,
      ),
)

abbrev pub numbers_sound : (c : Connection) → (sound_numbers c ≡ true) ↔ Numbers c
numbers_sound = numbers_within_lem largest_k

-- Of another bound only k is asked anew.
deep_within : (m n : ℕ) (c : Connection) → numbers_within m c ≡ true → c.k ≤ n → numbers_within n c ≡ true
deep_within m n c e l =
    let w = (numbers_within_lem m c).0 e in
    (numbers_within_lem n c).1 (record { deep = l; anchored = w.anchored; positive = w.positive; floored = w.floored; ceiled = w.ceiled; whole = w.whole; metered = w.metered })

-- A smaller one asks the same, and that k is within it.
pub numbers_less : (m n : ℕ) → m ≤ n → (c : Connection) → numbers_within m c ≡ numbers_within n c && leb c.k m
numbers_less m n l c =
    bool_iff (numbers_within m c) (numbers_within n c && leb c.k m)
    (λ e.
    let d = ((numbers_within_lem m c).0 e).deep in
    ap₂ ◌&&◌ (deep_within m n c e (omega (arith, d))) (le-leb _ _ d))
    (λ e.
    let p = both (numbers_within n c) (leb c.k m) e in
    deep_within n m c p.0 (leb-true _ _ p.1))

-- ---- every live connection
live_or : (live v : Bool) → not live || v ≡ true → live ≡ true → v ≡ true
live_or true v e l = e
live_or false v e l = absurd (false≢true l)

pub all_sound_at : (cs : List Connection) → all_sound cs ≡ true → (h : ℕ) → (at cs h).live ≡ true → Numbers (at cs h)
unfolding all_sound
all_sound_at [] e h l = absurd (false≢true l)
all_sound_at (c ∷ cs) e zero l = (numbers_sound c).0 (live_or c.live (sound_numbers c) (both (not c.live || sound_numbers c) (all_sound cs) e).0 l)
all_sound_at (c ∷ cs) e (suc h) l = all_sound_at cs (both (not c.live || sound_numbers c) (all_sound cs) e).1 h l

pub all_sound_of : (cs : List Connection) → ((h : ℕ) → (at cs h).live ≡ true → Numbers (at cs h)) → all_sound cs ≡ true
unfolding all_sound
all_sound_of [] n = refl
all_sound_of (c ∷ cs) n = ap₂ ◌&&◌ (go c.live refl) (all_sound_of cs (λ h. n (suc h)))
  where
    go : (v : Bool) → c.live ≡ v → not c.live || sound_numbers c ≡ true
    go true l = rw (l, (numbers_sound c).1 (n 0 l))
    go false l = rw l

-- ---- who owns a block
pub owns_parts : (c : Connection) (b : ℕ) → owns c b ≡ true → (c.live ≡ true) × (belongs c b ≡ true)
unfolding owns
owns_parts c b e = both c.live (belongs c b) e

pub taken_at : (cs : List Connection) (b : ℕ) → taken cs b ≡ true → (h : ℕ) × (owns (at cs h) b ≡ true)
unfolding taken
taken_at [] b e = absurd (false≢true e)
taken_at (c ∷ cs) b e = go (owns c b) refl e (taken_at cs b)
  where
    go : (v : Bool) → owns c b ≡ v → v || taken cs b ≡ true → (taken cs b ≡ true → (h : ℕ) × (owns (at cs h) b ≡ true)) → (h : ℕ) × (owns (at (c ∷ cs) h) b ≡ true)
    go true q e later = (0, q)
    go false q e later = let w = later e in (suc w.0, w.1)

pub taken_of : (cs : List Connection) (h b : ℕ) → owns (at cs h) b ≡ true → taken cs b ≡ true
unfolding taken owns
taken_of [] h b e = absurd (false≢true e)
taken_of (c ∷ cs) zero b e = ap (λ (v : Bool). v || taken cs b) e
taken_of (c ∷ cs) (suc h) b e = ap (λ (v : Bool). owns c b || v) (taken_of cs h b e) ∙ or-true (owns c b)

-- A block that belongs to two live connections, by their handles.
abbrev pub Twice : List Connection → ℕ → Type 0
Twice cs b = (h : ℕ) × (j : ℕ) × (h < j) × (owns (at cs h) b ≡ true) × (owns (at cs j) b ≡ true)

pub owned_twice_at : (cs : List Connection) (b : ℕ) → owned_twice cs b ≡ true → Twice cs b
unfolding owned_twice
owned_twice_at [] b e = absurd (false≢true e)
owned_twice_at (c ∷ cs) b e = go (owns c b) (taken cs b) refl refl e (owned_twice_at cs b)
  where
    here : owns c b ≡ true → taken cs b ≡ true → Twice (c ∷ cs) b
    here q t = let w = taken_at cs b t in (0, suc w.0, omega arith, q, w.1)

    there : Twice cs b → Twice (c ∷ cs) b
    there w = (suc w.0, suc w.1, omega arith, w.3, w.4)

    go : (u v : Bool) → owns c b ≡ u → taken cs b ≡ v → u && v || owned_twice cs b ≡ true → (owned_twice cs b ≡ true → Twice cs b) → Twice (c ∷ cs) b
    go true true q t e later = here q t
    go true false q t e later = there (later e)
    go false v q t e later = there (later e)

pub owned_twice_of : (cs : List Connection) (b h j : ℕ) → h < j → owns (at cs h) b ≡ true → owns (at cs j) b ≡ true → owned_twice cs b ≡ true
unfolding owned_twice owns
owned_twice_of [] b h j l p q = absurd (false≢true p)
owned_twice_of (c ∷ cs) b h zero l p q = absurd (omega arith)
owned_twice_of (c ∷ cs) b zero (suc j) l p q =
    ap₂ (λ (u v : Bool). u && v || owned_twice cs b) p (taken_of cs j b q)
owned_twice_of (c ∷ cs) b (suc h) (suc j) l p q =
    ap (λ (v : Bool). owns c b && taken cs b || v) (owned_twice_of cs b h j (omega arith) p q) ∙ or-true (owns c b && taken cs b)

-- ---- the list says it all
-- Where its numbers are sound, a connection owns a block as it owns the block's remainder by 512.
pub owns_mod : (c : Connection) (b : ℕ) → (c.live ≡ true → Numbers c) → owns c (b % list_blocks) ≡ owns c b
unfolding owns
owns_mod c b n = go c.live refl
  where
    go : (v : Bool) → c.live ≡ v → c.live && belongs c (b % 512) ≡ c.live && belongs c b
    go true l = ap (λ (v : Bool). c.live && v) (belongs_mod c b depth (within_depth (n l).deep))
    go false l = rw l

-- What sound connections take repeats with the list.
pub taken_periodic : (cs : List Connection) → all_sound cs ≡ true → Periodic (taken cs)
taken_periodic cs e b =
    bool_iff (taken cs (b % 512)) (taken cs b)
    (λ t. let w = taken_at cs (b % 512) t in taken_of cs w.0 b (sym (owns_mod (at cs w.0) b (all_sound_at cs e w.0)) ∙ w.1))
    (λ t. let w = taken_at cs b t in taken_of cs w.0 (b % 512) (owns_mod (at cs w.0) b (all_sound_at cs e w.0) ∙ w.1))

-- ---- soundness
-- Each live connection has sound numbers, and no block of endless time belongs to two.
pub record Sound (cs : List Connection) : Type 0 where
  pub numbers : (h : ℕ) → (at cs h).live ≡ true → Numbers (at cs h)
  pub apart_ever : (b h j : ℕ) → owns (at cs h) b ≡ true → owns (at cs j) b ≡ true → h ≡ j

pub sound_exactly : (cs : List Connection) → (sound_connections cs ≡ true) ↔ Sound cs
unfolding sound_connections apart
sound_exactly cs = (to, from)
  where
    to : all_sound cs && not (any 512 (owned_twice cs)) ≡ true → Sound cs
    to e =
        let p = both (all_sound cs) (not (any 512 (owned_twice cs))) e in
        let n = all_sound_at cs p.0 in
        let none = not_true_is_false (any 512 (owned_twice cs)) p.1 in
        let never : (b h j : ℕ) → h < j → owns (at cs h) b ≡ true → owns (at cs j) b ≡ true → ⊥ =
        λ b h j l x y.
        false≢true (sym (none_at 512 (owned_twice cs) none (b % 512) (omega arith))
        ∙ owned_twice_of cs (b % 512) h j l (owns_mod (at cs h) b (n h) ∙ x) (owns_mod (at cs j) b (n j) ∙ y)) in
        record {
          numbers = n;
          apart_ever = λ b h j x y.
              by_cases (ℕ_discrete h j)
              (λ q. q)
              (λ q. by_cases (dec_le h j)
              (λ l. absurd (never b h j (omega arith) x y))
              (λ l. absurd (never b j h (omega arith) y x)));
        }

    from : Sound cs → all_sound cs && not (any 512 (owned_twice cs)) ≡ true
    from s =
        ap₂ (λ (u v : Bool). u && not v) (all_sound_of cs s.numbers)
        (any_none 512 (owned_twice cs) (λ b l. is_false (owned_twice cs b) (λ t.
        let w = owned_twice_at cs b t in
        let q : w.0 ≡ w.1 = s.apart_ever b w.0 w.1 w.3 w.4 in
        omega arith)))

pub sound_all : (cs : List Connection) → sound_connections cs ≡ true → all_sound cs ≡ true
unfolding sound_connections
sound_all cs e = (both (all_sound cs) (apart cs) e).0

-- In a sound schedule a class is free exactly if none of its blocks, in endless time, belongs to a live connection.
pub class_free_ever : (cs : List Connection) (k r : ℕ) → sound_connections cs ≡ true → k ≤ depth → r < 2 ^ k
    → (free (taken cs) k r ≡ true) ↔ ((b h : ℕ) → b % 2 ^ k ≡ r → owns (at cs h) b ≡ false)
class_free_ever cs k r s hk hr =
    let ever = free_ever (taken cs) k r hk hr (taken_periodic cs (sound_all cs s)) in (
      λ e b h m. is_false (owns (at cs h) b) (λ t. false≢true (sym (ever.0 e b m) ∙ taken_of cs h b t)),
      λ none. ever.1 (λ b m. is_false (taken cs b) (λ t. let w = taken_at cs b t in false≢true (sym (none b w.0 m) ∙ w.1))),
    )

-- The connections of a good schedule are sound,
pub good_connections : (s : Schedule) → Good s → sound_connections s.connections ≡ true
unfolding sound
good_connections s good = good.is_sound

-- and a schedule with 64 sound connections and their tree is good.
pub connected_good : (s : Schedule) (cs : List Connection) → length cs ≡ handles → sound_connections cs ≡ true → Good (with_connections s cs)
unfolding sound with_connections
connected_good s cs l e = record { places = l; is_sound = e; has_tree = refl }
