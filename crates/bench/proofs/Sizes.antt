-- The sizes that calls answer.
use mathlib.Core.Path.{◌≡◌, refl}
use Prim.Native.Nat.{ℕ}
use Rattle.std.specs.Prelude.{Result, Ok, Err, IfOk}
use Rattle.rules.specs.declared.Refusal.{Refusal}

-- A call's size, if it answers one, is as each that it can answer.
pub if_size : (a : Result ℕ Refusal) (P : ℕ → Type 0) → ((n : ℕ) → a ≡ Ok n → P n) → IfOk a P
if_size (Ok n) P f = f n refl
if_size (Err r) P f = tt
