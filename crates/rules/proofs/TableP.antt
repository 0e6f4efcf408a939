-- The table P: every value that the rule sheet marks P, as the requests leave it, and those of 20, as one table under one statement.
use Prim.Native.Nat.{ℕ, ◌^◌}
use mathlib.Core.Path.{◌≡◌, refl}
use mathlib.Core.Bool.{true}
use mathlib.Core.List.{List, [], ◌∷◌, ◌++◌, map}
use Rattle.rules.specs.declared.Schedule.{Schedule}
use Rattle.rules.specs.declared.Command.TheVariants.{Admit}
use Rattle.rules.specs.Sound.{sound}
use Rattle.rules.specs.Good.{fresh, with_connections, with_connection}
use Rattle.rules.specs.Answers.{Answer, refused, ok, shrunk, owner}
use Rattle.rules.specs.Handles.{connection}
use Rattle.rules.specs.Admit.{k_of}
use Rattle.rules.specs.Obey.{obey}
use Rattle.rules.specs.Meter.{moved, need}
use Rattle.rules.specs.Report.{report}
use Rattle.rules.specs.Owner.{owner_of}

-- An entry of the table: an answer or a number.
pub data Entry : Type 0 where
  says : Answer → Entry
  is : ℕ → Entry

-- A row: what the definitions give, and what the sheet says.
pub record Row : Type 0 where
  pub given : Entry
  pub sheet : Entry

infix 70 ◌∼◌
abbrev pub ◌∼◌ : Entry → Entry → Row
given ∼ sheet = record { given = given; sheet = sheet }

-- The answer of an admission of one interval; that of one whose floor and ceiling are the share, and the schedule after it.
asks : Schedule → ℕ → ℕ → ℕ → ℕ → Entry
unfolding obey
asks s handle interval floor ceiling = says (obey s (Admit handle interval floor ceiling)).answer

admits : Schedule → ℕ → ℕ → ℕ → Entry
unfolding asks
admits s handle interval share = asks s handle interval share share

and_then : Schedule → ℕ → ℕ → ℕ → Schedule
unfolding obey
and_then s handle interval share = (obey s (Admit handle interval share share)).schedule

-- One live connection, of handle 0.
alone : ℕ → ℕ → ℕ → ℕ → ℕ → ℕ → Schedule
unfolding fresh with_connections
alone k A L floor ceiling e =
    with_connection fresh 0 (record { live = true; k = k; anchor = A; length = L; floor = floor; ceiling = ceiling; estimate = e })

-- The schedules that the sheet writes down: "One live connection F 4, anchor 1, L 2"; "e 5,000, L 1"; "e 5,312, L 2, floor 1"; "e 0".
pub one_live : Schedule
unfolding alone
one_live = alone 2 1 2 2 2 12500

pub e5000 : Schedule
unfolding alone
e5000 = alone 3 0 1 1 2 5000

pub e5312 : Schedule
unfolding alone
e5312 = alone 3 0 2 1 2 5312

pub e0 : Schedule
unfolding alone
e0 = alone 3 0 1 1 2 0

-- The answer of a report of handle 0, and the estimate after it.
reports : Schedule → ℕ → Entry
unfolding report
reports s sample = says (report s 0 sample).answer

estimates : Schedule → ℕ → Entry
unfolding report
estimates s sample = is (connection (report s 0 sample).schedule 0).estimate

-- "Interval 5: refusal 4. 6 and 11: F 1. 12: F 2. 3,071: F 256." "One interval of 3,072 to 3,200 gives F 256, which amends 01's case". "3,201: refusal 4."
-- 6 and 11 are still F 1; as admissions they "now give the new number".
intervals : List Row
unfolding admits fresh k_of
intervals =
    admits fresh 0 5 1 ∼ says (refused 4)
    ∷ is (2 ^ k_of 6) ∼ is 1
    ∷ is (2 ^ k_of 11) ∼ is 1
    ∷ admits fresh 0 6 1 ∼ says (refused 20)
    ∷ admits fresh 0 11 1 ∼ says (refused 20)
    ∷ admits fresh 0 12 1 ∼ says (ok 2 0 1)
    ∷ admits fresh 0 3071 1 ∼ says (ok 256 0 1)
    ∷ admits fresh 0 3072 1 ∼ says (ok 256 0 1)
    ∷ admits fresh 0 3200 1 ∼ says (ok 256 0 1)
    ∷ admits fresh 0 3201 1 ∼ says (refused 4)
    ∷ []

-- "Refuse an admission where twice the ceiling is above F", "20, after 5 and before 6": F 2 and F 8, up to half and above it; with a share that is wrong,
-- too; a handle that is live; and F 1 where nothing is free.
halves : List Row
unfolding asks admits and_then fresh
halves =
    let s₁ = and_then fresh 0 12 1 in
    let s₂ = and_then s₁ 1 12 1 in
    asks fresh 0 12 1 2 ∼ says (refused 20)
    ∷ asks fresh 0 48 1 4 ∼ says (ok 8 0 1)
    ∷ asks fresh 0 48 1 5 ∼ says (refused 20)
    ∷ asks fresh 0 48 0 5 ∼ says (refused 5)
    ∷ asks fresh 0 48 1 9 ∼ says (refused 5)
    ∷ admits s₁ 0 6 1 ∼ says (refused 2)
    ∷ admits s₂ 2 6 1 ∼ says (refused 20)
    ∷ admits s₂ 2 12 1 ∼ says (refused 6)
    ∷ []

-- "Four admissions at interval 48, floor and ceiling 1 throughout, on a fresh schedule: anchors 0, 4, 2, 6. Then interval 12:
-- F 2, anchor 1. Then interval 48: refusal 6."
mirrored_order : List Row
unfolding admits and_then fresh
mirrored_order =
    let s₁ = and_then fresh 0 48 1 in
    let s₂ = and_then s₁ 1 48 1 in
    let s₃ = and_then s₂ 2 48 1 in
    let s₄ = and_then s₃ 3 48 1 in
    let s₅ = and_then s₄ 4 12 1 in
    admits fresh 0 48 1 ∼ says (ok 8 0 1)
    ∷ admits s₁ 1 48 1 ∼ says (ok 8 4 1)
    ∷ admits s₂ 2 48 1 ∼ says (ok 8 2 1)
    ∷ admits s₃ 3 48 1 ∼ says (ok 8 6 1)
    ∷ admits s₄ 4 12 1 ∼ says (ok 2 1 1)
    ∷ admits s₅ 5 48 1 ∼ says (refused 6)
    ∷ []

-- "Interval 24, floor 2, ceiling 2, fresh: anchor 0; again: 2; again: refusal 6."
pairs : List Row
unfolding admits and_then fresh
pairs =
    let s₁ = and_then fresh 0 24 2 in
    let s₂ = and_then s₁ 1 24 2 in
    admits fresh 0 24 2 ∼ says (ok 4 0 2)
    ∷ admits s₁ 1 24 2 ∼ says (ok 4 2 2)
    ∷ admits s₂ 2 24 2 ∼ says (refused 6)
    ∷ []

-- "One live connection F 4, anchor 1, L 2; interval 24 with floor and ceiling 2: anchor 3, blocks 3 and 0."
round_the_end : List Row
unfolding admits and_then one_live owner_of
round_the_end =
    let s₁ = and_then one_live 1 24 2 in
    admits one_live 1 24 2 ∼ says (ok 4 3 2)
    ∷ says (owner_of s₁ 3) ∼ says (owner 1)
    ∷ says (owner_of s₁ 0) ∼ says (owner 1)
    ∷ says (owner_of s₁ 1) ∼ says (owner 0)
    ∷ says (owner_of s₁ 2) ∼ says (owner 0)
    ∷ []

-- "e 5,000, L 1: sample 5,007 keeps 5,000; 5,008 gives 5,001 and need 2; 4,999 gives 4,999; 7,501 is refusal 7. e 5,312, L 2,
-- floor 1, sample 0: estimate 4,648, shrunk to 1. e 0, sample 0: 0."
meters : List Row
unfolding reports estimates e5000 e5312 e0 moved
meters =
    estimates e5000 5007 ∼ is 5000
    ∷ estimates e5000 5008 ∼ is 5001
    ∷ is (need (moved 5000 5008)) ∼ is 2
    ∷ estimates e5000 4999 ∼ is 4999
    ∷ reports e5000 7501 ∼ says (refused 7)
    ∷ estimates e5312 0 ∼ is 4648
    ∷ reports e5312 0 ∼ says (shrunk 1)
    ∷ estimates e0 0 ∼ is 0
    ∷ []

pub table_p : List Row
unfolding intervals halves mirrored_order pairs round_the_end meters
table_p = intervals ++ halves ++ mirrored_order ++ pairs ++ round_the_end ++ meters

-- Each row gives what the sheet says.
pub table_P : map (λ (r : Row). r.given) table_p ≡ map (λ (r : Row). r.sheet) table_p
unfolding table_p
table_P = refl

-- And what it writes down is sound, as is every schedule that is given to a call.
pub table_P_sound : (sound one_live ≡ true) × (sound e5000 ≡ true) × (sound e5312 ≡ true) × (sound e0 ≡ true)
unfolding one_live e5000 e5312 e0 sound
table_P_sound = (refl, refl, refl, refl)
