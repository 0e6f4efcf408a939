-- What the search for a place promises.
use Rattle.std.specs.Prelude.{ℕ, ◌+◌, ◌^◌, ◌<◌, ◌≡◌, Bool, true, false, List, get_or, Option, Result}
use Rattle.rules.specs.declared.Refusal.{Refusal}
use Rattle.rules.specs.declared.Plan.{Plan}
use Rattle.rules.specs.Ownership.{largest_k}
use Rattle.rules.specs.Classes.{class_taken}
use Rattle.rules.specs.Mirror.{mirrored}
use Rattle.rules.specs.TreeBytes.{tree_of}
use Rattle.place.specs.Steps.{of_place, of_plan, place_step, plan_step}
use Rattle.tree.specs.Promises.{ByTree}

-- A row of the search has a place for each class of the largest factor.
abbrev pub row_classes : ℕ
row_classes = 2 ^ largest_k

-- The anchors of depth k in node order.
abbrev pub Anchors : ℕ → List ℕ → Type 0
Anchors k anchors = (p : ℕ) → p < 2 ^ k → get_or anchors p 0 ≡ mirrored k p

-- From each class of depth k on, so many are free, up to the last of the depth; none where it is taken.
pub record Stretches (k : ℕ) (taken : ℕ → Bool) (room : List ℕ) : Type 0 where
  pub shut : (A : ℕ) → A < 2 ^ k → get_or room A 0 ≡ 0 → class_taken taken k A ≡ true
  pub clear : (A i : ℕ) → A < 2 ^ k → i < get_or room A 0 → (A + i < 2 ^ k) × (class_taken taken k (A + i) ≡ false)

-- So it is by what an answer to each class may be.
pub record StretchesBy (k : ℕ) (says : ℕ → Bool → Type 0) (room : List ℕ) : Type 0 where
  pub shut : (A : ℕ) → A < 2 ^ k → get_or room A 0 ≡ 0 → says A true
  pub clear : (A i : ℕ) → A < 2 ^ k → i < get_or room A 0 → (A + i < 2 ^ k) × says (A + i) false

-- The stretches, by the tree of what is taken.
abbrev pub Measures : ℕ → List ℕ → List ℕ → Type 0
Measures k tree room = (taken : ℕ → Bool) → tree ≡ tree_of taken → Stretches k taken room

-- Of what the one row has stretches of the other has, too.
abbrev pub Lengthens : ℕ → List ℕ → List ℕ → Type 0
Lengthens k row room = (taken : ℕ → Bool) → Stretches k taken row → Stretches k taken room

-- The stretches of what some test says is taken.
abbrev pub IsRoom : ℕ → List ℕ → Type 0
IsRoom k room = (taken : ℕ → Bool) × Stretches k taken room

-- The first open anchor, by the stretches of what is free.
abbrev pub Searches : ℕ → ℕ → List ℕ → Option ℕ → Type 0
Searches k floor room r = (taken : ℕ → Bool) → Stretches k taken room → of_place r ≡ place_step taken k floor

-- The first open anchor, by the tree of what is taken.
abbrev pub FindsFirst : ℕ → ℕ → List ℕ → Option ℕ → Type 0
FindsFirst k floor tree r = ByTree tree (of_place r) (λ taken. place_step taken k floor)

abbrev pub Plans : Bool → ℕ → ℕ → ℕ → ℕ → List ℕ → Result Plan Refusal → Type 0
Plans live smallest largest floor ceiling tree r = ByTree tree (of_plan r) (λ taken. plan_step live taken smallest largest floor ceiling)
