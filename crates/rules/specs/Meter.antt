-- The meter of one connection, its estimate e in µs with its length L in blocks, and the rule that moves it.
use Rattle.std.specs.Prelude.{ℕ, ◌+◌, ◌-◌, ◌/◌, min, max, Bool, cond, eqb, ltb, ℤ, pos, negsuc, ◌+ℤ◌, ◌-ℤ◌, nat_abs}
use Rattle.rules.specs.Time.{block_micros, guard_micros}
use Rattle.rules.specs.Answers.{Answer, kept, grown, shrunk, tight}

-- Division "rounded toward minus infinity": -(n + 1) by d is -(n / d + 1).
unfoldable pub floor_div : ℤ → ℕ → ℤ
floor_div (pos n) d = pos (n / d)
floor_div (negsuc n) d = negsuc (n / d)

-- "e becomes e + floor((s - e) / 8) for sample s"
unfoldable pub moved : ℕ → ℕ → ℕ
unfolding floor_div
moved e sample = nat_abs (pos e +ℤ floor_div (pos sample -ℤ pos e) 8)

-- "Need is (e + 2,500) / 7,500 rounded up."
abbrev pub need : ℕ → ℕ
need e = (e + guard_micros + (block_micros - 1)) / block_micros

-- "The target is need, raised to the floor or lowered to the ceiling."
abbrev pub target : ℕ → ℕ → ℕ → ℕ
target needed floor ceiling = min (max needed floor) ceiling

-- The target once a sample has moved the estimate.
abbrev pub aimed : ℕ → ℕ → ℕ → ℕ → ℕ
aimed estimate sample floor ceiling = target (need (moved estimate sample)) floor ceiling

-- "Target equal to L: kept. Below L: shrunk to the target, the last blocks given back. Above L (it is then L + 1): grown,
-- if the class of (A + L) mod F is free, otherwise tight with L unchanged."
unfoldable pub change : ℕ → ℕ → Bool → Answer
change L aim room = cond (eqb aim L) (kept L) (cond (ltb aim L) (shrunk aim) (cond room (grown (L + 1)) (tight L)))

-- The length afterwards: kept, L; shrunk, the target; grown, L + 1; tight, "L unchanged".
unfoldable pub new_length : ℕ → ℕ → Bool → ℕ
new_length L aim room = cond (eqb aim L) L (cond (ltb aim L) aim (cond room (L + 1) L))
