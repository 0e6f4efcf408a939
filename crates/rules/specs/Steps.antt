-- What a step of a call answers.
use Rattle.std.specs.Prelude.{ℕ}

-- A value, a place (k and the anchor), that it passes, or the number of the check that refuses.
pub data Step : Type 0 where
  gives : ℕ → Step
  places : ℕ → ℕ → Step
  passes : Step
  refuses : ℕ → Step
