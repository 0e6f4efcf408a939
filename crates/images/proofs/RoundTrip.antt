-- What is saved comes back: the image of a sound schedule, loaded over whatever schedule.
use mathlib.Core.Path.{◌≡◌, refl, sym, ap, ◌∙◌}
use mathlib.Core.Bool.{Bool, true, cond}
use mathlib.Core.List.{List, [], ◌∷◌}
use Prim.Native.Nat.{ℕ, zero, suc}
use lib.ListN.{length}
use Rattle.rules.specs.declared.Connection.{Connection}
use Rattle.rules.specs.declared.Schedule.{Schedule}
use Rattle.rules.specs.Ownership.{handles, nobody, at, owns}
use Rattle.rules.specs.Handles.{connection}
use Rattle.rules.specs.Sound.{sound}
use Rattle.rules.specs.Good.{Good, FreeSlotsZero, fresh, with_connections}
use Rattle.rules.specs.Owner.{owner_or, owner_of}
use Rattle.rules.specs.Answers.{Outcome, loaded}
use Rattle.rules.specs.Image.{image}
use Rattle.rules.specs.Load.{load}
use Rattle.basics.proofs.BelowLaws.{least_ext}
use Rattle.calls.proofs.EachLaws.{live_count}
use Rattle.images.proofs.ImageLaws.{cleared, cleared_owns, cleared_tree, cleared_same, load_image}

cleared_live : (cs : List Connection) (h : ℕ) → (at cs h).live ≡ true → at (cleared cs) h ≡ at cs h
unfolding cleared
cleared_live [] h e = refl
cleared_live (c ∷ cs) zero e = ap (λ (v : Bool). cond v c nobody) e
cleared_live (c ∷ cs) (suc h) e = cleared_live cs h e

module _ (s t : Schedule) (long : length t.connections ≡ handles) (is_sound : sound t ≡ true) where
  comes_back : load s (image t) ≡ record { answer = loaded (live_count t.connections); schedule = with_connections fresh (cleared t.connections) }
  comes_back = load_image s t long is_sound

  back : (load s (image t)).schedule ≡ with_connections fresh (cleared t.connections)
  back = ap (λ (o : Outcome). o.schedule) comes_back

  -- Each live connection is the same.
  pub round_connection : (h : ℕ) → (connection t h).live ≡ true → connection (load s (image t)).schedule h ≡ connection t h
  unfolding with_connections
  round_connection h e = ap (λ (x : Schedule). connection x h) back ∙ cleared_live t.connections h e

  -- So is the owner of every block.
  pub round_owner : (b : ℕ) → owner_of (load s (image t)).schedule b ≡ owner_of t b
  unfolding owner_of with_connections
  round_owner b =
      ap (λ (x : Schedule). owner_of x b) back
      ∙ ap owner_or (least_ext handles (λ h. owns (connection (with_connections fresh (cleared t.connections)) h) b) (λ h. owns (connection t h) b) (λ h l. cleared_owns t.connections b h))

module _ (s t : Schedule) (good : Good t) where
  -- And so is every byte of the tree.
  pub round_tree : (load s (image t)).schedule.tree.bytes ≡ t.tree.bytes
  unfolding with_connections
  round_tree = ap (λ (x : Schedule). x.tree.bytes) (back s t good.places good.is_sound) ∙ cleared_tree t.connections ∙ sym good.has_tree

  its_own : with_connections fresh t.connections ≡ t
  unfolding with_connections
  its_own = ap (λ (x : List ℕ). record { connections = t.connections; tree = record { bytes = x } }) (sym good.has_tree)

  -- Where free slots are zeros, which every call keeps, it is the equal value.
  pub round_value : FreeSlotsZero t → load s (image t) ≡ record { answer = loaded (live_count t.connections); schedule = t }
  round_value z =
      comes_back s t good.places good.is_sound
      ∙ ap (λ (x : Schedule). record { answer = loaded (live_count t.connections); schedule = x }) (ap (with_connections fresh) (cleared_same t.connections z) ∙ its_own)
