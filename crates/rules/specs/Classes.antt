-- The classes of blocks, and when one is free. Which blocks are taken is a test of a block, whoever takes them.
use Rattle.std.specs.Prelude.{ℕ, ◌+◌, ◌-◌, ◌*◌, ◌%◌, ◌^◌, Bool, not, eqb}
use Rattle.rules.specs.Below.{any, every}

-- The depth of the tree, and of the list: it has 2^9 blocks.
abbrev pub depth : ℕ
depth = 9

-- "The class of r for a factor F is all blocks with remainder r by F", F being 2^k.
abbrev pub in_class : ℕ → ℕ → ℕ → Bool
in_class k r b = eqb (b % 2 ^ k) r

-- How often a class comes in the list: 512 / F periods.
abbrev pub periods : ℕ → ℕ
periods k = 2 ^ (depth - k)

-- Some block of the class, in one of its periods, is taken.
unfoldable pub class_taken : (ℕ → Bool) → ℕ → ℕ → Bool
unfolding any
class_taken taken k r = any (periods k) (λ i. taken (r + i * 2 ^ k))

-- "it is free if none of them belongs to a live connection"
unfoldable pub free : (ℕ → Bool) → ℕ → ℕ → Bool
unfolding class_taken
free taken k r = not (class_taken taken k r)

-- The classes of a run of n blocks from A on, round the end of the cycle, are all free.
unfoldable pub run_free : (ℕ → Bool) → ℕ → ℕ → ℕ → Bool
unfolding every free
run_free taken k A n = every n (λ j. free taken k ((A + j) % 2 ^ k))
