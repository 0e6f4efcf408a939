-- Checks 10 and 18, of every record: those that are sound with k to 9 are sound as a schedule's are exactly if none says a k above 8.
use mathlib.Core.Path.{◌≡◌, refl, sym, ap, ap₂, ◌∙◌}
use mathlib.Core.Bool.{Bool, true, false, ◌||◌, ◌&&◌, not, or-true, and_assoc, and_comm, false≢true}
use mathlib.Core.Logic.{◌↔◌}
use mathlib.Core.List.{List, [], ◌∷◌, map}
use Prim.Native.Nat.{ℕ, zero, suc, ◌<◌, ◌≤◌}
use native.Mathlib.Omega.{arith}
use lib.Dec.{leb, ltb}
use lib.ListN.{length}
use borrow.Author.Tests.{le-leb, leb-true, lt-ltb, ltb-true, le-ltb, ltb-false}
use Rattle.rules.specs.Ownership.{handles, largest_k}
use Rattle.rules.specs.Sound.{numbers_within, NumbersWithin}
use Rattle.rules.specs.Records.{Piece}
use Rattle.rules.specs.Fields.{handle_in, connection_in}
use Rattle.rules.specs.Load.{largest_record_k, all_numbers_within, rising, records_within, any_illegal}
use Rattle.basics.proofs.BoolLaws.{bool_iff, both, not_true_is_false}
use Rattle.blocks.proofs.SoundLaws.{numbers_within_lem, numbers_less}
use Rattle.images.proofs.RisingLaws.{sound_from, sound_from_lem, Rising, rising_exactly}
use Rattle.images.proofs.PieceLaws.{nth}

-- ---- check 10, of every record
-- Each handle is below 64 and each number in its bounds, and of two records the later has the higher handle.
pub record Within (most : ℕ) (rs : List Piece) : Type 0 where
  pub handle : (i : ℕ) → i < length rs → handle_in (nth rs i) < handles
  pub numbers : (i : ℕ) → i < length rs → NumbersWithin most (connection_in (nth rs i))
  pub order : (i j : ℕ) → i < j → j < length rs → handle_in (nth rs i) < handle_in (nth rs j)

-- From a handle on.
record WithinFrom (most h : ℕ) (rs : List Piece) : Type 0 where
  within : Within most rs
  from : (i : ℕ) → i < length rs → h ≤ handle_in (nth rs i)

from_to : (most h : ℕ) (rs : List Piece) → sound_from most h rs ≡ true → WithinFrom most h rs
from_to most h [] e = record { within = record { handle = λ i l. absurd (omega arith); numbers = λ i l. absurd (omega arith); order = λ i j m l. absurd (omega arith) }; from = λ i l. absurd (omega arith) }
from_to most h (r ∷ rs) e = go ((rising_exactly most h r rs).0 e) (from_to most (suc (handle_in r)) rs ((rising_exactly most h r rs).0 e).later)
  where
    go : Rising most h r rs → WithinFrom most (suc (handle_in r)) rs → WithinFrom most h (r ∷ rs)
    go p w = record { within = record { handle = handle; numbers = numbers; order = order }; from = from }
      where
        handle : (i : ℕ) → i < length (r ∷ rs) → handle_in (nth (r ∷ rs) i) < handles
        handle zero l = p.below
        handle (suc i) l = w.within.handle i (omega arith)

        numbers : (i : ℕ) → i < length (r ∷ rs) → NumbersWithin most (connection_in (nth (r ∷ rs) i))
        numbers zero l = (numbers_within_lem most (connection_in r)).0 p.numbers
        numbers (suc i) l = w.within.numbers i (omega arith)

        order : (i j : ℕ) → i < j → j < length (r ∷ rs) → handle_in (nth (r ∷ rs) i) < handle_in (nth (r ∷ rs) j)
        order i zero m l = absurd (omega arith)
        order zero (suc j) m l = w.from j (omega arith)
        order (suc i) (suc j) m l = w.within.order i j (omega arith) (omega arith)

        from : (i : ℕ) → i < length (r ∷ rs) → h ≤ handle_in (nth (r ∷ rs) i)
        from zero l = p.above
        from (suc i) l = omega (arith, p.above, w.from i (omega arith))

from_of : (most h : ℕ) (rs : List Piece) → WithinFrom most h rs → sound_from most h rs ≡ true
unfolding sound_from
from_of most h [] w = refl
from_of most h (r ∷ rs) w =
    let c = w.within in
    (rising_exactly most h r rs).1
    (record {
      below = c.handle 0 (omega arith);
      above = w.from 0 (omega arith);
      numbers = (numbers_within_lem most (connection_in r)).1 (c.numbers 0 (omega arith));
      later =
          from_of most (suc (handle_in r)) rs
          (record {
            within = record {
              handle = λ i l. c.handle (suc i) (omega arith);
              numbers = λ i l. c.numbers (suc i) (omega arith);
              order = λ i j m l. c.order (suc i) (suc j) (omega arith) (omega arith);
            };
            from = λ i l. c.order 0 (suc i) (omega arith) (omega arith);
          });
    })

pub within_exactly : (most : ℕ) (rs : List Piece) → (records_within most rs ≡ true) ↔ Within most rs
within_exactly most rs = (
  λ e. (from_to most 0 rs (sym (sound_from_lem most rs) ∙ e)).within,
  λ w. sound_from_lem most rs ∙ from_of most 0 rs (record { within = w; from = λ i l. omega arith }),
)

-- ---- check 18: some record says a k above 8
-- One of the records says such a k.
pub record Says (such : ℕ → Type 0) (rs : List Piece) : Type 0 where
  pub place : ℕ
  pub inside : place < length rs
  pub said : such (connection_in (nth rs place)).k

abbrev pub Illegal : List Piece → Type 0
Illegal = Says (λ k. largest_k < k)

pub illegal_exactly : (rs : List Piece) → (any_illegal rs ≡ true) ↔ Illegal rs
unfolding any_illegal
illegal_exactly [] = (λ e. absurd (false≢true e), λ d. absurd (omega (arith, d.inside)))
illegal_exactly (r ∷ rs) = (to (ltb largest_k (connection_in r).k) refl (illegal_exactly rs).0, λ d. of (illegal_exactly rs).1 d.place d.inside d.said)
  where
    to : (v : Bool) → ltb largest_k (connection_in r).k ≡ v → (any_illegal rs ≡ true → Illegal rs) → v || any_illegal rs ≡ true → Illegal (r ∷ rs)
    to true q later e = record { place = 0; inside = omega arith; said = ltb-true _ _ q }
    to false q later e =
        let d = later e in
        record { place = suc d.place; inside = omega (arith, d.inside); said = d.said }

    of : (Illegal rs → any_illegal rs ≡ true) → (i : ℕ) → i < length (r ∷ rs) → largest_k < (connection_in (nth (r ∷ rs) i)).k → ltb largest_k (connection_in r).k || any_illegal rs ≡ true
    of later zero l d = ap (λ (v : Bool). v || any_illegal rs) (lt-ltb _ _ d)
    of later (suc i) l d =
        ap (λ (v : Bool). ltb largest_k (connection_in r).k || v) (later (record { place = i; inside = omega arith; said = d }))
        ∙ or-true (ltb largest_k (connection_in r).k)

-- ---- both checks together
deep_or_not : (k : ℕ) → leb k largest_k ≡ not (ltb largest_k k)
deep_or_not k =
    bool_iff (leb k largest_k) (not (ltb largest_k k))
    (λ e. ap not (le-ltb largest_k k (leb-true k largest_k e)))
    (λ e. le-leb k largest_k (ltb-false largest_k k (not_true_is_false (ltb largest_k k) e)))

-- Of one record and the others: handle, numbers, k, numbers of the others, their k.
regroup : (h n d ns ds : Bool) → h && (n && not d) && (ns && not ds) ≡ h && n && ns && not (d || ds)
regroup false n d ns ds = refl
regroup true false d ns ds = refl
regroup true true true true ds = refl
regroup true true true false ds = refl
regroup true true false ns ds = refl

numbers_legal : (rs : List Piece) → all_numbers_within largest_k rs ≡ all_numbers_within largest_record_k rs && not (any_illegal rs)
unfolding all_numbers_within any_illegal
numbers_legal [] = refl
numbers_legal (r ∷ rs) =
    let h = ltb (handle_in r) handles in
    let c = connection_in r in
    let n = numbers_within largest_record_k c in
    ap₂ (λ (a b : Bool). h && a && b) (numbers_less largest_k largest_record_k (omega arith) c ∙ ap (λ (v : Bool). n && v) (deep_or_not c.k)) (numbers_legal rs)
    ∙ regroup h n (ltb largest_k c.k) (all_numbers_within largest_record_k rs) (any_illegal rs)

-- Sound with k to 8 is sound with k to 9, and no k above 8.
pub records_legal : (rs : List Piece) → records_within largest_k rs ≡ records_within largest_record_k rs && not (any_illegal rs)
unfolding records_within
records_legal rs =
    let n = all_numbers_within largest_record_k rs in
    let d = not (any_illegal rs) in
    let r = rising (map handle_in rs) in
    ap (λ (v : Bool). v && r) (numbers_legal rs) ∙ and_assoc n d r ∙ ap (λ (v : Bool). n && v) (and_comm d r) ∙ sym (and_assoc n r d)

pub legal_of : (rs : List Piece) → records_within largest_record_k rs ≡ true → any_illegal rs ≡ false → records_within largest_k rs ≡ true
legal_of rs p q = records_legal rs ∙ ap₂ (λ (a b : Bool). a && not b) p q

pub legal_told : (rs : List Piece) → records_within largest_k rs ≡ true → (records_within largest_record_k rs ≡ true) × (any_illegal rs ≡ false)
legal_told rs e =
    let w = both (records_within largest_record_k rs) (not (any_illegal rs)) (sym (records_legal rs) ∙ e) in
    (w.0, not_true_is_false (any_illegal rs) w.1)

-- Where they are sound with k to 9, a k above 8 is one of 9.
abbrev pub Nine : List Piece → Type 0
Nine = Says (λ k. k ≡ 9)

pub nine_exactly : (rs : List Piece) → Within largest_record_k rs → (any_illegal rs ≡ true) ↔ Nine rs
nine_exactly rs w = (
  λ e.
      let d = (illegal_exactly rs).0 e in
      record { place = d.place; inside = d.inside; said = omega (arith, d.said, (w.numbers d.place d.inside).deep) },
  λ n. (illegal_exactly rs).1 (record { place = n.place; inside = n.inside; said = omega (arith, n.said) }),
)
