-- The laws of bytes parted at each separator.
use mathlib.Core.Path.{◌≡◌, refl, sym, ap, ap₂, ◌∙◌}
use mathlib.Core.Logic.{◌≢◌, by_cases}
use mathlib.Core.List.{List, [], ◌∷◌, ◌++◌}
use Prim.Native.Nat.{ℕ, suc, ◌<◌, ◌≤◌}
use native.Mathlib.Decide.{ℕ_discrete}
use native.Mathlib.Omega.{arith}
use lib.ListN.{length, take, drop, length-take}
use lib.Seq.{take_all}
use borrow.Author.Tests.{eq-eqb, ne_eqb}
use Rattle.rules.specs.Split.{Parts, longer, parted, before}

-- Each piece with its separator, and then the tail.
unfoldable pub rejoined : ℕ → List (List ℕ) → List ℕ → List ℕ
rejoined separator [] tail = tail
rejoined separator (p ∷ ps) tail = p ++ separator ∷ rejoined separator ps tail

-- No byte is the separator.
abbrev pub Without : ℕ → List ℕ → Type 0
Without separator [] = Unit {0}
Without separator (b ∷ bs) = (b ≢ separator) × Without separator bs

-- No byte of any piece is.
abbrev pub EachWithout : ℕ → List (List ℕ) → Type 0
EachWithout separator [] = Unit {0}
EachWithout separator (p ∷ ps) = Without separator p × EachWithout separator ps

pub without_append : (separator : ℕ) (xs ys : List ℕ) → Without separator xs → Without separator ys → Without separator (xs ++ ys)
without_append separator [] ys hx hy = hy
without_append separator (x ∷ xs) ys hx hy = (hx.0, without_append separator xs ys hx.1 hy)

-- ---- one byte at a time
module _ {separator b : ℕ} (bs : List ℕ) where
  -- A separator ends a piece, and what comes before the first one;
  split_separator : b ≡ separator → parted separator (b ∷ bs) ≡ record { pieces = [] ∷ (parted separator bs).pieces; tail = (parted separator bs).tail }
  unfolding parted
  split_separator e = rw (eq-eqb b separator e)

  before_separator : b ≡ separator → before separator (b ∷ bs) ≡ []
  unfolding before
  before_separator e = rw (eq-eqb b separator e)

  -- any other byte stands in front of them.
  split_other : b ≢ separator → parted separator (b ∷ bs) ≡ longer b (parted separator bs).pieces (parted separator bs).tail
  unfolding parted
  split_other e = rw (ne_eqb b separator e)

  before_other : b ≢ separator → before separator (b ∷ bs) ≡ b ∷ before separator bs
  unfolding before
  before_other e = rw (ne_eqb b separator e)

-- A byte in front of the parts is one in front of the bytes,
module _ (separator b : ℕ) where
  rejoined_longer : (ps : List (List ℕ)) (tail : List ℕ)
      → rejoined separator (longer b ps tail).pieces (longer b ps tail).tail ≡ b ∷ rejoined separator ps tail
  unfolding rejoined
  rejoined_longer [] tail = refl
  rejoined_longer (p ∷ ps) tail = refl

  -- and, if it is no separator, the parts are without one still.
  longer_without : (ps : List (List ℕ)) (tail : List ℕ) → b ≢ separator → EachWithout separator ps × Without separator tail
      → EachWithout separator (longer b ps tail).pieces × Without separator (longer b ps tail).tail
  longer_without [] tail e h = (tt, (e, h.1))
  longer_without (p ∷ ps) tail e h = (((e, h.0.0), h.0.1), h.1)

-- ---- all the bytes
-- The pieces, each with its separator, and the tail give back the bytes;
pub split_rejoined : (separator : ℕ) (bs : List ℕ) → rejoined separator (parted separator bs).pieces (parted separator bs).tail ≡ bs
unfolding parted rejoined
split_rejoined separator [] = refl
split_rejoined separator (b ∷ bs) =
    by_cases (ℕ_discrete b separator)
    (λ e. rw (split_separator bs e) (ap₂ {C = List ℕ} (λ x l. x ∷ l) (sym e) (split_rejoined separator bs)))
    (λ e. rw (split_other bs e, rejoined_longer) (ap {B = List ℕ} (λ l. b ∷ l) (split_rejoined separator bs)))

split_without : (separator : ℕ) (bs : List ℕ) → EachWithout separator (parted separator bs).pieces × Without separator (parted separator bs).tail
unfolding parted
split_without separator [] = (tt, tt)
split_without separator (b ∷ bs) =
    let later = split_without separator bs in
    by_cases (ℕ_discrete b separator)
    (λ e. rw (split_separator bs e) ((tt, later.0), later.1))
    (λ e. rw (split_other bs e) (longer_without separator b (parted separator bs).pieces (parted separator bs).tail e later))

-- no separator is in any of them;
pub split_pieces : (separator : ℕ) (bs : List ℕ) → EachWithout separator (parted separator bs).pieces
split_pieces separator bs = (split_without separator bs).0

pub split_tail : (separator : ℕ) (bs : List ℕ) → Without separator (parted separator bs).tail
split_tail separator bs = (split_without separator bs).1

-- A piece and its separator in front are one piece more;
pub split_piece : (separator : ℕ) (p bs : List ℕ) → Without separator p
    → parted separator (p ++ separator ∷ bs) ≡ record { pieces = p ∷ (parted separator bs).pieces; tail = (parted separator bs).tail }
split_piece separator [] bs h = split_separator bs refl
split_piece separator (b ∷ p) bs h =
    split_other (p ++ separator ∷ bs) h.0 ∙ ap (λ (s : Parts). longer b s.pieces s.tail) (split_piece separator p bs h.1)

-- bytes with no separator are all tail;
pub split_none : (separator : ℕ) (bs : List ℕ) → Without separator bs → parted separator bs ≡ record { pieces = []; tail = bs }
unfolding parted
split_none separator [] h = refl
split_none separator (b ∷ bs) h = split_other bs h.0 ∙ ap (λ (s : Parts). longer b s.pieces s.tail) (split_none separator bs h.1)

-- and they are the only such.
pub split_only : (separator : ℕ) (ps : List (List ℕ)) (tail : List ℕ) → EachWithout separator ps → Without separator tail
    → parted separator (rejoined separator ps tail) ≡ record { pieces = ps; tail = tail }
unfolding rejoined
split_only separator [] tail hs h = split_none separator tail h
split_only separator (p ∷ ps) tail hs h =
    split_piece separator p (rejoined separator ps tail) hs.0
    ∙ ap {B = Parts} (λ s. record { pieces = p ∷ s.pieces; tail = s.tail }) (split_only separator ps tail hs.1 h)

-- ---- what stands before the first separator
-- No separator is in it.
pub before_without : (separator : ℕ) (bs : List ℕ) → Without separator (before separator bs)
unfolding before
before_without separator [] = tt
before_without separator (b ∷ bs) =
    by_cases (ℕ_discrete b separator) (λ e. rw (before_separator bs e) tt) (λ e. rw (before_other bs e) (e, before_without separator bs))

-- It is a first part of the bytes,
pub before_take : (separator : ℕ) (bs : List ℕ) → before separator bs ≡ take (length (before separator bs)) bs
unfolding before
before_take separator [] = refl
before_take separator (b ∷ bs) =
    by_cases (ℕ_discrete b separator)
    (λ e. rw (before_separator bs e))
    (λ e. rw (before_other bs e) (ap {B = List ℕ} (λ l. b ∷ l) (before_take separator bs)))

pub before_le : (separator : ℕ) (bs : List ℕ) → length (before separator bs) ≤ length bs
before_le separator bs = omega (arith, ap length (before_take separator bs), length-take (length (before separator bs)) bs)

-- all of them if it is as long;
pub before_all : (separator : ℕ) (bs : List ℕ) → length bs ≤ length (before separator bs) → before separator bs ≡ bs
before_all separator bs h = before_take separator bs ∙ take_all (length (before separator bs)) bs h

-- else a separator comes next.
pub before_here : (separator : ℕ) (bs : List ℕ) → length (before separator bs) < length bs
    → bs ≡ before separator bs ++ separator ∷ drop (suc (length (before separator bs))) bs
before_here separator [] h = absurd (omega arith)
before_here separator (b ∷ bs) h =
    by_cases (ℕ_discrete b separator)
    (λ e. rw (before_separator bs e) (ap {B = List ℕ} (λ x. x ∷ bs) e))
    (λ e. let g = rw (before_other bs e) at h in rw (before_other bs e) (ap {B = List ℕ} (λ l. b ∷ l) (before_here separator bs (omega arith))))

-- Bytes with no separator are what stands before one that follows them, or before the end.
pub before_of : (separator : ℕ) (p bs : List ℕ) → Without separator p → before separator (p ++ separator ∷ bs) ≡ p
before_of separator [] bs h = before_separator bs refl
before_of separator (b ∷ p) bs h = before_other (p ++ separator ∷ bs) h.0 ∙ ap {B = List ℕ} (λ l. b ∷ l) (before_of separator p bs h.1)

pub before_of_all : (separator : ℕ) (bs : List ℕ) → Without separator bs → before separator bs ≡ bs
unfolding before
before_of_all separator [] h = refl
before_of_all separator (b ∷ bs) h = before_other bs h.0 ∙ ap {B = List ℕ} (λ l. b ∷ l) (before_of_all separator bs h.1)
