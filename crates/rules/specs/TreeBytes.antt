-- The bytes of the tree, as a function of which blocks are taken.
use Rattle.std.specs.Prelude.{ℕ, zero, suc, ◌+◌, ◌*◌, ◌/◌, ◌%◌, ◌^◌, Bool, cond, List, eqb, get_or}
use Rattle.rules.specs.Below.{tabulate}
use Rattle.rules.specs.Nodes.{node_bit}

-- The number whose bit j is the test of j, for j below w.
unfoldable pub packed : ℕ → (ℕ → Bool) → ℕ
packed zero test = 0
packed (suc w) test = cond (test 0) 1 0 + 2 * packed w (λ j. test (suc j))

-- "Node n is bit n mod 8 (bit 0 lowest) of byte n div 8 of 128 bytes."
abbrev pub tree_bytes : ℕ
tree_bytes = 128

unfoldable pub tree_byte : (ℕ → Bool) → ℕ → ℕ
unfolding packed node_bit
tree_byte taken i = packed 8 (λ j. node_bit taken (8 * i + j))

unfoldable pub tree_of : (ℕ → Bool) → List ℕ
unfolding tabulate tree_byte
tree_of taken = tabulate tree_bytes (tree_byte taken)

-- Bit j of a number.
abbrev pub bit_of : ℕ → ℕ → Bool
bit_of x j = eqb (x / 2 ^ j % 2) 1

-- The bit of node n in the bytes of a tree.
abbrev pub bit_at : List ℕ → ℕ → Bool
bit_at bytes n = bit_of (get_or bytes (n / 8) 0) (n % 8)
