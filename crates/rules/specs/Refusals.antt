-- The refusal table, and the order of a call's checks.
use Rattle.std.specs.Prelude.{ℕ, Bool, cond, List, [], ◌∷◌}
use Rattle.rules.specs.declared.Refusal.{Refusal}
use Rattle.rules.specs.declared.Refusal.TheVariants.{HandleAbove63, HandleLive, HandleNotLive, IntervalOutside, ShareWrong, NoOpenAnchor, SampleAboveRun, BufferShort, RecordsWrong, NumbersUnsound, BlockOwnedTwice, TreeDiffers, ReportsMany, ListShort, NoInterval, MessageWrong, ValuesForbidden, FactorIllegal, NoAnchorForAll, CeilingAboveHalf}

-- The table's number of each named refusal.
abbrev pub number : Refusal → ℕ
number HandleAbove63 = 1
number HandleLive = 2
number HandleNotLive = 3
number IntervalOutside = 4
number ShareWrong = 5
number NoOpenAnchor = 6
number SampleAboveRun = 7
number BufferShort = 8
number RecordsWrong = 9
number NumbersUnsound = 10
number BlockOwnedTwice = 11
number TreeDiffers = 12
number ReportsMany = 13
number ListShort = 14
number NoInterval = 15
number MessageWrong = 16
number ValuesForbidden = 17
number FactorIllegal = 18
number NoAnchorForAll = 19
number CeilingAboveHalf = 20

-- A check of a call: the refusal that it gives, and whether it refuses.
pub record Check : Type 0 where
  pub why : Refusal
  pub refuses : Bool

abbrev pub check : Refusal → Bool → Check
check why refuses = record { why = why; refuses = refuses }

-- The checks go in order: the first that refuses gives its number; where none does, the call is carried out.
unfoldable pub decided {ℓ} : {A : Type ℓ} → List Check → (ℕ → A) → A → A
decided [] refused accepted = accepted
decided (c ∷ cs) refused accepted =
    let later = decided cs refused accepted in
    cond c.refuses (refused (number c.why)) later
