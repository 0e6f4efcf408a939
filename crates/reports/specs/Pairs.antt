-- The reports that numbers say: handle, sample, handle, sample; "a last odd number being none".
use Rattle.std.specs.Prelude.{ℕ, List, [], ◌∷◌}
use Rattle.rules.specs.declared.Report.{Report}

unfoldable pub reports_of : List ℕ → List Report
reports_of [] = []
reports_of (handle ∷ []) = []
reports_of (handle ∷ sample ∷ numbers) = record { handle = handle; sample = sample } ∷ reports_of numbers
