-- The tidy calls of the request's case, computed from the definitions, and where its rules could be misread.
use Prim.Native.Nat.{ℕ}
use mathlib.Core.Path.{◌≡◌, refl}
use mathlib.Core.Bool.{true, false, not}
use mathlib.Core.List.{List, [], ◌∷◌, ◌++◌}
use lib.ListN.{length, replicate}
use Rattle.rules.specs.declared.Connection.{Connection}
use Rattle.rules.specs.declared.Schedule.{Schedule}
use Rattle.rules.specs.Below.{those}
use Rattle.rules.specs.Time.{list_blocks}
use Rattle.rules.specs.Ownership.{nobody, taken}
use Rattle.rules.specs.Sound.{sound}
use Rattle.rules.specs.Good.{fresh, with_connections}
use Rattle.rules.specs.Answers.{refusing_list, ok, refused, tidied}
use Rattle.rules.specs.Admit.{admit}
use Rattle.rules.specs.Drop.{drop_handle}
use Rattle.rules.specs.Tidy.{tidy_order, tidy}
use Rattle.rules.proofs.Readings.{single}

-- What each number of the lent list holds before.
abbrev old : ℕ → List ℕ
old n = replicate n 2779096485

-- A schedule of these connections, handles from 0 on.
abbrev having : List Connection → ℕ → Schedule
having cs free = with_connections fresh (cs ++ replicate free nobody)

-- What an admission from 6 on with floor and ceiling n leaves.
abbrev joining : Schedule → ℕ → ℕ → ℕ → Schedule
joining s h interval n = (admit s h 6 interval n n).schedule

-- "admit H 48 1 1, H 0 to 7": anchors 0 4 2 6 1 5 3 7.
pub eight : Schedule
unfolding fresh with_connections
eight =
    having
    (single 3 0 5000 ∷ single 3 4 5000 ∷ single 3 2 5000 ∷ single 3 6 5000 ∷ single 3 1 5000 ∷ single 3 5 5000 ∷ single 3 3 5000 ∷ single 3 7 5000 ∷ []) 56

pub joins_eight : joining (joining (joining (joining (joining (joining (joining (joining fresh 0 48 1) 1 48 1) 2 48 1) 3 48 1) 4 48 1) 5 48 1) 6 48 1) 7 48 1 ≡ eight
unfolding fresh eight admit
joins_eight = refl

-- "drop 0 and drop 4"
pub holes : Schedule
unfolding fresh with_connections
holes =
    having (nobody ∷ single 3 4 5000 ∷ single 3 2 5000 ∷ single 3 6 5000 ∷ nobody ∷ single 3 5 5000 ∷ single 3 3 5000 ∷ single 3 7 5000 ∷ []) 56

pub drops_two : (drop_handle (drop_handle eight 0).schedule 4).schedule ≡ holes
unfolding eight holes drop_handle
drops_two = refl

-- "128 blocks are free", and there is no anchor of F 4.
pub no_anchor : (length (those list_blocks (λ b. not (taken holes.connections b))) ≡ 128) × ((admit holes 8 6 24 1 1).answer ≡ refused 6)
unfolding holes those taken admit
no_anchor = (refl, refl)

-- Five entries and two numbers are too few for six moves; in six and two numbers they stand by rising handle.
pub too_short : tidy holes (old 17) ≡ refusing_list holes (old 17) 14
unfolding holes tidy
too_short = refl

pub closed : Schedule
unfolding fresh with_connections
closed =
    having (nobody ∷ single 3 0 5000 ∷ single 3 4 5000 ∷ single 3 2 5000 ∷ nobody ∷ single 3 6 5000 ∷ single 3 1 5000 ∷ single 3 5 5000 ∷ []) 56

pub closes : tidy holes (old 20)
    ≡ record { answer = tidied 6; schedule = closed; list = 1 ∷ 4 ∷ 0 ∷ 2 ∷ 2 ∷ 4 ∷ 3 ∷ 6 ∷ 2 ∷ 5 ∷ 5 ∷ 6 ∷ 6 ∷ 3 ∷ 1 ∷ 7 ∷ 7 ∷ 5 ∷ old 2 }
unfolding holes closed tidy
closes = refl

pub joined : Schedule
unfolding fresh with_connections
joined =
    having (nobody ∷ single 3 0 5000 ∷ single 3 4 5000 ∷ single 3 2 5000 ∷ nobody ∷ single 3 6 5000 ∷ single 3 1 5000 ∷ single 3 5 5000 ∷ single 2 3 5000 ∷ []) 55

-- Now there is one.
pub then_an_anchor : admit closed 8 6 24 1 1 ≡ record { answer = ok 4 3 1; schedule = joined }
unfolding closed joined admit
then_an_anchor = refl

-- It is placed first, of the smaller factor, and every other moves.
pub smaller_factor_first : tidy_order joined.connections ≡ 8 ∷ 1 ∷ 2 ∷ 3 ∷ 5 ∷ 6 ∷ 7 ∷ []
unfolding joined tidy_order
smaller_factor_first = refl

pub moved : Schedule
unfolding fresh with_connections
moved =
    having (nobody ∷ single 3 2 5000 ∷ single 3 6 5000 ∷ single 3 1 5000 ∷ nobody ∷ single 3 5 5000 ∷ single 3 3 5000 ∷ single 3 7 5000 ∷ single 2 0 5000 ∷ []) 55

pub all_move : (tidy joined [] ≡ refusing_list joined [] 14)
    × (tidy joined (old 21)
    ≡ record { answer = tidied 7; schedule = moved; list = 1 ∷ 0 ∷ 2 ∷ 2 ∷ 4 ∷ 6 ∷ 3 ∷ 2 ∷ 1 ∷ 5 ∷ 6 ∷ 5 ∷ 6 ∷ 1 ∷ 3 ∷ 7 ∷ 5 ∷ 7 ∷ 8 ∷ 3 ∷ 0 ∷ [] })
unfolding joined moved tidy
all_move = (refl, refl)

-- Nothing is left to move: no list is needed.
pub again : tidy moved [] ≡ record { answer = tidied 0; schedule = moved; list = [] }
unfolding moved tidy
again = refl

-- "19 .. when some connection in that order finds no anchor": the present places fit, and in that order the two of F 4 take the even blocks, so that
-- no two classes of F 8 in a row are left. It is not '0 moves'.
pub wide : Schedule
unfolding fresh with_connections
wide = having (record { live = true; k = 3; anchor = 0; length = 2; floor = 2; ceiling = 2; estimate = 12500 } ∷ single 2 2 5000 ∷ single 2 3 5000 ∷ []) 61

pub joins_three : joining (joining (joining fresh 0 48 2) 1 24 1) 2 24 1 ≡ wide
unfolding fresh wide admit
joins_three = refl

pub fits_and_is_refused : (sound wide ≡ true) × (tidy wide [] ≡ refusing_list wide [] 19)
unfolding wide sound tidy
fits_and_is_refused = (refl, refl)

-- "with its present length in the place of the floor": beside one that has grown to two blocks of four the first free anchors are 2 and 3, not 2 and 1.
pub grown_house : Schedule
unfolding fresh with_connections
grown_house = having (record { live = true; k = 2; anchor = 0; length = 2; floor = 1; ceiling = 2; estimate = 12500 } ∷ single 2 3 5000 ∷ single 2 2 5000 ∷ []) 61

pub present_length : ((tidy grown_house (old 6)).answer ≡ tidied 2) × ((tidy grown_house (old 6)).list ≡ 1 ∷ 3 ∷ 2 ∷ 2 ∷ 2 ∷ 3 ∷ [])
unfolding grown_house tidy
present_length = (refl, refl)

-- A slot that is free has no move, whatever stands in it, and is zeros afterwards.
pub dusty : Schedule
unfolding fresh with_connections
dusty = having (single 3 0 5000 ∷ record { live = false; k = 3; anchor = 5; length = 1; floor = 1; ceiling = 1; estimate = 5000 } ∷ []) 62

pub no_move : tidy dusty [] ≡ record { answer = tidied 0; schedule = having (single 3 0 5000 ∷ []) 63; list = [] }
unfolding fresh with_connections dusty tidy
no_move = refl
