-- What is taken once a class or a run is taken, or given back.
use Rattle.std.specs.Prelude.{ℕ, ◌^◌, Bool, false, not, ◌||◌, ◌&&◌, cond, leb, ltb}
use Rattle.rules.specs.Time.{minus_mod}
use Rattle.rules.specs.Classes.{in_class}

-- No block is taken.
abbrev pub nothing : ℕ → Bool
nothing b = false

-- What is taken once a class is taken too.
abbrev pub with_class : ℕ → ℕ → (ℕ → Bool) → ℕ → Bool
with_class k r taken b = in_class k r b || taken b

-- What is taken once a class is given back.
abbrev pub without_class : ℕ → ℕ → (ℕ → Bool) → ℕ → Bool
without_class k r taken b = not (in_class k r b) && taken b

-- The run of a connection with the factor 2^k and the anchor A, from its block `from` to before its block `to`.
abbrev pub in_run : ℕ → ℕ → ℕ → ℕ → ℕ → Bool
in_run k A from to b = leb from (minus_mod b A (2 ^ k)) && ltb (minus_mod b A (2 ^ k)) to

-- What is taken once every block of a run is taken (true), or given back (false).
abbrev pub set_run : ℕ → ℕ → ℕ → ℕ → Bool → (ℕ → Bool) → ℕ → Bool
set_run k A from to bit taken b = cond (in_run k A from to b) bit (taken b)
