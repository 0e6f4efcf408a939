-- Ranges: the values that follow from the request's words, worked out by hand, as one table under one statement; and the command program's lines.
use Prim.Native.Nat.{ℕ}
use mathlib.Core.Path.{◌≡◌, refl}
use mathlib.Core.List.{List, [], ◌∷◌, ◌++◌, map}
use Rattle.rules.specs.Text.{text}
use Rattle.rules.specs.Good.{fresh}
use Rattle.rules.specs.Answers.{refused, ok}
use Rattle.rules.specs.Admit.{admit}
use Rattle.rules.specs.Program.{program}
use Rattle.rules.proofs.TableP.{Entry, says, Row, ◌∼◌}

-- The answer of an admission by a range, on a fresh schedule.
range : ℕ → ℕ → Entry
unfolding admit fresh
range smallest largest = says (admit fresh 0 smallest largest 1 1).answer

-- "the largest 6 × 2^k that is not above the largest and not below the smallest": both bounds count, and the whole range gives the longest.
given : List Row
unfolding range
given =
    range 12 12 ∼ says (ok 2 0 1)
    ∷ range 13 24 ∼ says (ok 4 0 1)
    ∷ range 12 30 ∼ says (ok 4 0 1)
    ∷ range 6 48 ∼ says (ok 8 0 1)
    ∷ range 1536 1536 ∼ says (ok 256 0 1)
    ∷ range 1536 3071 ∼ says (ok 256 0 1)
    ∷ range 1536 3200 ∼ says (ok 256 0 1)
    ∷ range 6 3200 ∼ says (ok 256 0 1)
    ∷ []

-- "That rule may find none", and "a range whose smallest is above 1,536 gets 15".
none : List Row
unfolding range
none =
    range 7 11 ∼ says (refused 15)
    ∷ range 13 23 ∼ says (refused 15)
    ∷ range 1537 3071 ∼ says (refused 15)
    ∷ range 1537 3200 ∼ says (refused 15)
    ∷ range 3072 3072 ∼ says (refused 15)
    ∷ range 3073 3200 ∼ says (refused 15)
    ∷ range 3200 3200 ∼ says (refused 15)
    ∷ []

-- "that turns F 1 away altogether": ranges whose longest interval is 6.
whole : List Row
unfolding range
whole = range 6 6 ∼ says (refused 20) ∷ range 6 11 ∼ says (refused 20) ∷ []

-- "either bound outside 6 to 3,200 or smallest above largest"
outside : List Row
unfolding range
outside =
    range 5 6 ∼ says (refused 4)
    ∷ range 6 3201 ∼ says (refused 4)
    ∷ range 12 11 ∼ says (refused 4)
    ∷ range 0 0 ∼ says (refused 4)
    ∷ []

pub ranges : List Row
unfolding given none whole outside
ranges = given ++ none ++ whole ++ outside

pub table_ranges : map (λ (r : Row). r.given) ranges ≡ map (λ (r : Row). r.sheet) ranges
unfolding ranges
table_ranges = refl

-- "a five-number form has the smallest before the largest": a range that is taken, one with no interval, one the other way round, and one from 6,
-- of which the four-number command says the same in its place; six numbers are bad.
pub range_lines : program
    (text "admit 0 12 30 1 1\n"
    ++ text "admit 1 13 23 1 1\n"
    ++ text "admit 1 30 12 1 1\n"
    ++ text "admit 1 6 48 1 1\n"
    ++ text "drop 1\n"
    ++ text "admit 1 48 1 1\n"
    ++ text "admit 2 6 48 1 1 1\n")
    ≡ text "ok 4 0 1\n"
    ++ text "no 15\n"
    ++ text "no 4\n"
    ++ text "ok 8 2 1\n"
    ++ text "ok\n"
    ++ text "ok 8 2 1\n"
    ++ text "bad\n"
unfolding program
range_lines = refl
