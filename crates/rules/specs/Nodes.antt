-- The nodes of the tree of taken blocks.
use Rattle.std.specs.Prelude.{ℕ, zero, suc, ◌-◌, ◌^◌, Bool, false, leb}
use Rattle.rules.specs.Below.{largest}
use Rattle.rules.specs.Classes.{depth, class_taken, in_class}
use Rattle.rules.specs.Mirror.{mirrored}

-- "Nodes are numbered 1 to 1023. Node n has children 2n and 2n + 1; leaves are 512 to 1023." So the node n = 2^k + p is at
-- depth k, the largest with 2^k not above n, and at position p.
unfoldable pub depth_of : ℕ → ℕ
unfolding largest
depth_of n = largest depth (λ k. leb (2 ^ k) n)

unfoldable pub position_of : ℕ → ℕ
unfolding depth_of
position_of n = n - 2 ^ depth_of n

-- "The node 2^k + p at depth k covers the blocks whose remainder by 2^k is p with its k bits in mirrored order."
abbrev pub covers : ℕ → ℕ → ℕ → Bool
covers k p b = in_class k (mirrored k p) b

-- "A node's bit is 1 exactly if some block under it belongs to a live connection"; "node 0 is always 0".
unfoldable pub node_bit : (ℕ → Bool) → ℕ → Bool
unfolding depth_of position_of mirrored class_taken
node_bit taken zero = false
node_bit taken (suc m) = class_taken taken (depth_of (suc m)) (mirrored (depth_of (suc m)) (position_of (suc m)))
