-- Where a definition could be misread: computed examples that settle it.
use Prim.Native.Nat.{ℕ}
use mathlib.Core.Path.{◌≡◌, refl}
use mathlib.Core.Bool.{true}
use mathlib.Core.List.{List, [], ◌∷◌, ◌++◌}
use lib.ListN.{length, replicate}
use Rattle.rules.specs.declared.Connection.{Connection}
use Rattle.rules.specs.declared.Schedule.{Schedule}
use Rattle.rules.specs.declared.Report.{Report}
use Rattle.rules.specs.Sound.{sound}
use Rattle.rules.specs.Good.{fresh, with_connections, with_connection}
use Rattle.rules.specs.Answers.{refusing, refusing_list, refused, tight, reported, tidied}
use Rattle.rules.specs.Handles.{connection, each_live}
use Rattle.rules.specs.Admit.{admit}
use Rattle.rules.specs.Report.{report}
use Rattle.rules.specs.Reports.{report_all}
use Rattle.rules.specs.Records.{Piece, joined}
use Rattle.rules.specs.Form.{tree_kind, tree_size}
use Rattle.rules.specs.Image.{count_piece, connection_piece, connection_pieces}
use Rattle.rules.specs.Load.{load}
use Rattle.rules.specs.Tidy.{tidy}

-- Two connections with one block in eight, side by side; the first may grow, and cannot.
pub neighbour : ℕ → Connection
neighbour A = record { live = true; k = 3; anchor = A; length = 1; floor = 1; ceiling = 2; estimate = 5000 }

pub neighbours : Schedule
unfolding neighbour fresh with_connections
neighbours = with_connection (with_connection fresh 0 (neighbour 0)) 1 (neighbour 1)

-- "The new estimate is stored in all four": when it is tight, too.
pub tight_stores : ((report neighbours 0 7500).answer ≡ tight 1) × ((connection (report neighbours 0 7500).schedule 0).estimate ≡ 5312)
unfolding neighbours report
tight_stores = (refl, refl)

pub neighbours_sound : sound neighbours ≡ true
unfolding neighbours sound
neighbours_sound = refl

-- The checks go in order: where two would refuse, the first gives its number. An admission of a handle above 63 with everything else wrong, of one that
-- is live, of bounds in the wrong order between which there is no interval, of such a range and a share, of a share and
-- a ceiling above half, of such a ceiling and no room, of no room alone;
pub admission_in_order : ((admit neighbours 64 11 7 0 0).answer ≡ refused 1)
    × ((admit neighbours 0 11 7 0 0).answer ≡ refused 2)
    × ((admit neighbours 2 11 7 0 0).answer ≡ refused 4)
    × ((admit neighbours 2 7 11 0 0).answer ≡ refused 15)
    × ((admit neighbours 2 6 11 0 1).answer ≡ refused 5)
    × ((admit neighbours 2 6 11 1 1).answer ≡ refused 20)
    × ((admit neighbours 2 6 12 1 1).answer ≡ refused 6)
unfolding admit neighbours
admission_in_order = (refl, refl, refl, refl, refl, refl, refl)

-- a report of a handle above 63, of one that is not live, of a sample above its run.
pub report_in_order : ((report neighbours 64 1).answer ≡ refused 1) × ((report neighbours 2 1).answer ≡ refused 3) × ((report neighbours 0 7501).answer ≡ refused 7)
unfolding report neighbours
report_in_order = (refl, refl, refl)

-- ---- a list of reports
-- One logger of one block in eight, which may grow to four.
pub alone : Schedule
unfolding fresh with_connections
alone = with_connection fresh 0 (record { live = true; k = 3; anchor = 0; length = 1; floor = 1; ceiling = 4; estimate = 5000 })

abbrev of : ℕ → ℕ → Report
of handle sample = record { handle = handle; sample = sample }

-- What the lent entries hold before.
abbrev old : ℕ
old = 2779096485

-- Three reports: the first grows, the second is refused, and the third is made in what they left.
abbrev three : List Report
three = of 0 7500 ∷ of 9 0 ∷ of 0 7500 ∷ []

-- The third is kept, by the estimate that the first and the third moved. The fourth entry is as it was.
pub each_in_turn : ((report_all alone three (old ∷ old ∷ old ∷ old ∷ [])).answer ≡ reported 3)
    × ((report_all alone three (old ∷ old ∷ old ∷ old ∷ [])).list ≡ 131074 ∷ 3 ∷ 65538 ∷ old ∷ [])
    × ((connection (report_all alone three (old ∷ old ∷ old ∷ old ∷ [])).schedule 0).length ≡ 2)
    × ((connection (report_all alone three (old ∷ old ∷ old ∷ old ∷ [])).schedule 0).estimate ≡ 5585)
unfolding alone report_all
each_in_turn = (refl, refl, refl, refl)

-- Two reports of one handle: grown then kept, and the other way round kept then grown; grown then shrunk, and kept twice.
pub order_counts : ((report_all alone (of 0 7500 ∷ of 0 5000 ∷ []) (old ∷ old ∷ [])).list ≡ 131074 ∷ 65538 ∷ [])
    × ((report_all alone (of 0 5000 ∷ of 0 7500 ∷ []) (old ∷ old ∷ [])).list ≡ 65537 ∷ 131074 ∷ [])
    × ((report_all alone (of 0 7500 ∷ of 0 0 ∷ []) (old ∷ old ∷ [])).list ≡ 131074 ∷ 196609 ∷ [])
    × ((report_all alone (of 0 0 ∷ of 0 7500 ∷ []) (old ∷ old ∷ [])).list ≡ 65537 ∷ 65537 ∷ [])
unfolding alone report_all
order_counts = (refl, refl, refl, refl)

-- 14 before any report; 13 first; neither in a list that just holds them, nor of no reports.
pub lists_in_order : (report_all alone three (old ∷ old ∷ []) ≡ refusing_list alone (old ∷ old ∷ []) 14)
    × (report_all alone (replicate 65 (of 0 7500)) [] ≡ refusing_list alone [] 13)
    × ((report_all alone (of 9 0 ∷ []) (old ∷ [])).answer ≡ reported 1)
    × ((report_all alone [] []).answer ≡ reported 0)
unfolding alone report_all
lists_in_order = (refl, refl, refl, refl)

-- ---- a tidy
-- A list is short of the moves, and not of the connections: of one that stays where it is no entry is asked for.
pub nothing_moves : (tidy alone []).answer ≡ tidied 0
unfolding alone tidy
nothing_moves = refl

-- ---- a load of records with a k of 9
-- A connection of length 1.
abbrev pub single : ℕ → ℕ → ℕ → Connection
single k A e = record { live = true; k = k; anchor = A; length = 1; floor = 1; ceiling = 1; estimate = e }

-- These records before an empty tree; and those of these connections, handles from 0 on.
unfoldable pub before : List Piece → List ℕ
unfolding joined count_piece
before rs = joined (count_piece (length rs) ∷ (rs ++ (record { kind = tree_kind; payload = replicate tree_size 0 } ∷ [])))

unfoldable pub treeless : List Connection → List ℕ
unfolding before connection_piece each_live
treeless cs = before (connection_pieces 0 cs)

-- 9 and 10 go before 18: a byte is left over; the anchor is not below 512; k is 10; another record is unsound, after it and before it; the handles fall.
pub before_18 : (s : Schedule) → (load s (treeless (single 9 0 5000 ∷ []) ++ (0 ∷ [])) ≡ refusing s 9)
    × (load s (treeless (single 9 512 5000 ∷ [])) ≡ refusing s 10)
    × (load s (treeless (single 10 0 5000 ∷ [])) ≡ refusing s 10)
    × (load s (treeless (single 9 0 5000 ∷ single 3 5 7501 ∷ [])) ≡ refusing s 10)
    × (load s (treeless (single 3 5 7501 ∷ single 9 0 5000 ∷ [])) ≡ refusing s 10)
    × (load s (before (connection_piece 1 (single 9 0 5000) ∷ connection_piece 0 (single 9 1 5000) ∷ [])) ≡ refusing s 10)
unfolding treeless before connection_piece load
before_18 s = (refl, refl, refl, refl, refl, refl)

-- 11 and 12 go after it: two of k 9 on one anchor; one with the tree of no connection. And it asks every record: neither the last alone nor the first.
pub after_18 : (s : Schedule) → (load s (treeless (single 9 5 5000 ∷ single 9 5 5000 ∷ [])) ≡ refusing s 18)
    × (load s (treeless (single 9 5 5000 ∷ [])) ≡ refusing s 18)
    × (load s (treeless (single 9 5 5000 ∷ single 3 0 5000 ∷ [])) ≡ refusing s 18)
    × (load s (treeless (single 3 0 5000 ∷ single 9 5 5000 ∷ [])) ≡ refusing s 18)
unfolding treeless load
after_18 s = (refl, refl, refl, refl)
