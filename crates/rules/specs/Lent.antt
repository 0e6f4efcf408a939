-- What is lent to a call, for it to write.
use Rattle.std.specs.Prelude.{ℕ, List, ◌++◌, length, drop}

-- Written from its start; "the rest .. is unchanged".
abbrev pub over : List ℕ → List ℕ → List ℕ
over new old = new ++ drop (length new) old
