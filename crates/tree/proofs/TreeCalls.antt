-- The laws of what the tree's functions promise.
use mathlib.Core.Path.{◌≡◌, refl, sym, ◌∙◌}
use mathlib.Core.Bool.{Bool, true}
use mathlib.Core.List.{List}
use Prim.Native.Nat.{ℕ, ◌^◌, ◌<◌, ◌≤◌}
use Rattle.rules.specs.Classes.{depth, free}
use Rattle.blocks.specs.Taking.{with_class, without_class}
use Rattle.rules.specs.TreeBytes.{tree_of}
use Rattle.blocks.proofs.TreeLaws.{tree_restored}
use Rattle.tree.specs.Promises.{IsTree, ByTree, Takes, GivesBack}

-- Two outcomes that meet one of these promises are equal: the class's being free, and every byte after it is taken or given
-- back.
pub by_tree_unique : {A : Type 0} (bytes : List ℕ) (a b : A) (rule : (ℕ → Bool) → A) → IsTree bytes → ByTree bytes a rule → ByTree bytes b rule → a ≡ b
by_tree_unique bytes a b rule t p q = p t.0 t.1 ∙ sym (q t.0 t.1)

-- What is left is a tree again.
pub takes_tree : (k r : ℕ) (before after : List ℕ) → IsTree before → Takes k r before after → IsTree after
takes_tree k r before after t p = (with_class k r t.0, p t.0 t.1)

pub gives_tree : (k r : ℕ) (before after : List ℕ) → IsTree before → GivesBack k r before after → IsTree after
gives_tree k r before after t p = (without_class k r t.0, p t.0 t.1)

-- Giving back a class that was free before it was taken restores the bytes.
pub gives_restores : (k r : ℕ) (taken : ℕ → Bool) (mid after : List ℕ) → k ≤ depth → r < 2 ^ k → free taken k r ≡ true
    → Takes k r (tree_of taken) mid → GivesBack k r mid after → after ≡ tree_of taken
gives_restores k r taken mid after hk hr f p q =
    q (with_class k r taken) (p taken refl) ∙ tree_restored taken k r hk hr f
