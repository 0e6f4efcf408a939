-- The step of a load that reads the numbers of the records: the number of each of its cases, and what it says.
use Rattle.std.specs.Prelude.{Bool, not, List, [], ◌∷◌, Result, Ok, Err}
use Rattle.rules.specs.declared.Refusal.{Refusal}
use Rattle.rules.specs.declared.Refusal.TheVariants.{NumbersUnsound, FactorIllegal}
use Rattle.rules.specs.Refusals.{number, check, decided}
use Rattle.rules.specs.Steps.{Step, passes, refuses}
use Rattle.rules.specs.Records.{Piece}
use Rattle.rules.specs.Load.{largest_record_k, records_within, any_illegal}

abbrev pub of_soundness : Result (Unit {0}) Refusal → Step
of_soundness (Ok u) = passes
of_soundness (Err r) = refuses (number r)

-- 10, and then 18.
unfoldable pub checked : Bool → Bool → Step
unfolding decided
checked sound illegal = decided (check NumbersUnsound (not sound) ∷ check FactorIllegal illegal ∷ []) refuses passes

-- Of the records of the connections, each over all of them.
unfoldable pub records_step : List Piece → Step
unfolding records_within any_illegal checked
records_step rs = checked (records_within largest_record_k rs) (any_illegal rs)
