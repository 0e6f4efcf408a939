-- What the tree's functions promise of the bytes before and after.
use Rattle.std.specs.Prelude.{ℕ, ◌+◌, ◌*◌, ◌/◌, ◌<◌, ◌^◌, ◌≡◌, Bool, false, cond, ◌||◌, List, eqb}
use Rattle.rules.specs.Time.{list_blocks}
use Rattle.rules.specs.Classes.{depth, free, in_class}
use Rattle.blocks.specs.Taking.{with_class, without_class}
use Rattle.rules.specs.Mirror.{mirrored}
use Rattle.rules.specs.TreeBytes.{tree_of, bit_at}
use Rattle.blocks.specs.Children.{Sized, OrOfChildren}
use Rattle.tree.specs.Under.{under}

pub record Mirrored (k p r : ℕ) : Type 0 where
  pub is : r ≡ mirrored k p
  pub below : r < 2 ^ k

-- Node n has the new bit, and every other node its old one.
pub record Writes (n : ℕ) (bit : Bool) (before after : List ℕ) : Type 0 where
  pub sized : Sized after
  pub bits : (m : ℕ) → bit_at after m ≡ cond (eqb m n) bit (bit_at before m)

-- So have node n and all nodes under it, l levels down.
pub record WritesBelow (l n : ℕ) (bit : Bool) (before after : List ℕ) : Type 0 where
  pub sized : Sized after
  pub bits : (m : ℕ) → bit_at after m ≡ cond (under l n m) bit (bit_at before m)

-- Node n is the OR of its children, and every other node has its old bit; so has node n where nothing changed.
pub record Joins (n : ℕ) (before after : List ℕ) (changed : Bool) : Type 0 where
  pub sized : Sized after
  pub bits : (m : ℕ) → bit_at after m ≡ cond (eqb m n) (bit_at before (2 * n) || bit_at before (2 * n + 1)) (bit_at before m)
  pub same : changed ≡ false → bit_at after n ≡ bit_at before n

-- Every inner node is the OR of its children, but perhaps for the one over n.
abbrev pub MissingOver : ℕ → List ℕ → Type 0
MissingOver n t = (a : ℕ) → 0 < a → a < list_blocks → eqb a (n / 2) ≡ false → OrOfChildren t a

-- Now every inner node is; only nodes above n may have a new bit.
pub record JoinsAbove (n : ℕ) (before after : List ℕ) : Type 0 where
  pub sized : Sized after
  pub joined : (a : ℕ) → 0 < a → a < list_blocks → OrOfChildren after a
  pub others : (m : ℕ) → 0 < m → under depth m (n / 2) ≡ false → bit_at after m ≡ bit_at before m
  pub zeroth : bit_at after 0 ≡ bit_at before 0

-- The bytes are the tree of what some test says is taken.
abbrev pub IsTree : List ℕ → Type 0
IsTree bytes = (taken : ℕ → Bool) × (bytes ≡ tree_of taken)

-- Where the bytes are the tree of what is taken, x is what the rule gives for that.
abbrev pub ByTree : {A : Type 0} → List ℕ → A → ((ℕ → Bool) → A) → Type 0
ByTree bytes x rule = (taken : ℕ → Bool) → bytes ≡ tree_of taken → x ≡ rule taken

-- Whether the class is free.
abbrev pub FreeSays : ℕ → ℕ → List ℕ → Bool → Type 0
FreeSays k r bytes says = ByTree bytes says (λ taken. free taken k r)

-- Every block of the class is taken, or none is; every other block as before.
abbrev pub WritesClass : ℕ → ℕ → Bool → List ℕ → List ℕ → Type 0
WritesClass k r bit before after = ByTree before after (λ taken. tree_of (λ b. cond (in_class k r b) bit (taken b)))

-- The class is taken too.
abbrev pub Takes : ℕ → ℕ → List ℕ → List ℕ → Type 0
Takes k r before after = ByTree before after (λ taken. tree_of (with_class k r taken))

-- The class is given back.
abbrev pub GivesBack : ℕ → ℕ → List ℕ → List ℕ → Type 0
GivesBack k r before after = ByTree before after (λ taken. tree_of (without_class k r taken))
