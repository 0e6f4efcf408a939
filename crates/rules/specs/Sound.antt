-- Sound schedules.
use Rattle.std.specs.Prelude.{ℕ, ◌*◌, ◌<◌, ◌≤◌, Bool, true, not, ◌||◌, ◌&&◌, List, [], ◌∷◌, leb, ltb}
use Rattle.rules.specs.declared.Connection.{Connection}
use Rattle.rules.specs.declared.Schedule.{Schedule}
use Rattle.rules.specs.Below.{any}
use Rattle.rules.specs.Time.{block_micros, list_blocks}
use Rattle.rules.specs.Ownership.{largest_k, factor, owned_twice}

-- "a factor F = 2^k", here with k to `most`, "an anchor A from 0 to F - 1", and
-- "1 ≤ floor ≤ L ≤ ceiling ≤ F and estimate ≤ L × 7,500".
unfoldable pub numbers_within : ℕ → Connection → Bool
numbers_within most c =
    leb c.k most
    && ltb c.anchor (factor c)
    && leb 1 c.floor
    && leb c.floor c.length
    && leb c.length c.ceiling
    && leb c.ceiling (factor c)
    && leb c.estimate (c.length * block_micros)

-- What these bounds mean.
pub record NumbersWithin (most : ℕ) (c : Connection) : Type 0 where
  pub deep : c.k ≤ most
  pub anchored : c.anchor < factor c
  pub positive : 1 ≤ c.floor
  pub floored : c.floor ≤ c.length
  pub ceiled : c.length ≤ c.ceiling
  pub whole : c.ceiling ≤ factor c
  pub metered : c.estimate ≤ c.length * block_micros

-- "k in an admission and in a sound schedule is now at most 8"
abbrev pub sound_numbers : Connection → Bool
sound_numbers c = numbers_within largest_k c

abbrev pub Numbers : Connection → Type 0
Numbers c = NumbersWithin largest_k c

-- So it is for each live connection.
unfoldable pub all_sound : List Connection → Bool
unfolding numbers_within
all_sound [] = true
all_sound (c ∷ cs) = (not c.live || sound_numbers c) && all_sound cs

-- "no block belongs to two"
unfoldable pub apart : List Connection → Bool
unfolding any owned_twice
apart cs = not (any list_blocks (owned_twice cs))

-- "for each live connection 1 ≤ floor ≤ L ≤ ceiling ≤ F and estimate ≤ L × 7,500, and no block belongs to two"
unfoldable pub sound_connections : List Connection → Bool
unfolding all_sound apart
sound_connections cs = all_sound cs && apart cs

-- "A schedule is sound when" its connections are.
unfoldable pub sound : Schedule → Bool
unfolding sound_connections
sound s = sound_connections s.connections
