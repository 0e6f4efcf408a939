-- What a load comes to at its exits.
use mathlib.Core.Path.{◌≡◌, refl, sym, ap, ap₂, ◌∙◌, subst}
use mathlib.Core.Bool.{Bool, true, false, not, ◌&&◌}
use mathlib.Core.Logic.{⊎_elim}
use native.Mathlib.Omega.{arith}
use Rattle.std.specs.Prelude.{Result, Ok, Err, is_ok, if◌then◌else◌}
use Rattle.std.proofs.lemmas.Bool.{not-true, not-false}
use Rattle.std.specs.Cmp.Lexicographic.{pointwise}
use lib.Dec.{eqb}
use mathlib.Core.List.{List, [], ◌∷◌}
use Prim.Native.Nat.{ℕ, suc, ◌+◌, ◌-◌}
use mir.Syntax.{w8}
use mir.Val.{Fits}
use lib.ListN.{length, get_or, take, drop}
use Rattle.rules.specs.declared.Refusal.{Refusal}
use Rattle.rules.specs.declared.Connection.{Connection}
use Rattle.rules.specs.declared.Schedule.{Schedule}
use Rattle.rules.specs.declared.Refusal.TheVariants.{BlockOwnedTwice, TreeDiffers}
use Rattle.rules.specs.declared.Done.{Done}
use Rattle.rules.specs.Ownership.{largest_k}
use Rattle.rules.specs.Sound.{apart}
use Rattle.rules.specs.TreeBytes.{tree_bytes}
use Rattle.rules.specs.Good.{Good, tree_for, fresh, with_connections}
use Rattle.rules.specs.Refusals.{number}
use Rattle.rules.specs.Answers.{Outcome, refusing, loaded, of_loading, outcome}
use Rattle.rules.specs.Bytes.{same}
use Rattle.rules.specs.Records.{begin, pieces_of}
use Rattle.rules.specs.Framing.{Framed}
use Rattle.rules.specs.Fields.{tree_in}
use Rattle.rules.specs.Load.{records_within, at_handles, connections_of, load}
use Rattle.basics.proofs.BytesLaws.{AllBytes}
use Rattle.images.proofs.ImageLaws.{load_good}
use Rattle.images.proofs.FrameLaws.{connections_long, tree_place, tree_stands}
use Rattle.images.proofs.LoadLaws.{load_10, load_18, load_11, load_12, load_ok}
use Rattle.restore.specs.Promises.{records, Restores}
use Rattle.restore.specs.LoadSteps.{of_soundness, records_step}
use Rattle.restore.proofs.Calls.{restores_apart, checked_refuses}
use Rattle.image.specs.Promises.{ReadsImage, Loads}

schedule_tree : (cs : List Connection) (s : Schedule) → s ≡ with_connections fresh cs → s.tree.bytes ≡ tree_for cs
unfolding with_connections
schedule_tree cs s e = ap (λ (x : Schedule). x.tree.bytes) e

-- `==` on slices of numbers is the rule's test.
same_is : (xs ys : List ℕ) → pointwise eqb xs ys ≡ same xs ys
unfolding same
same_is [] [] = refl
same_is [] (y ∷ ys) = refl
same_is (x ∷ xs) [] = refl
same_is (x ∷ xs) (y ∷ ys) = ap (λ (v : Bool). eqb x y && v) (same_is xs ys)

-- The whole result is what the rule gives, and so the schedule is good again.
pub loads : (s : Schedule) → Good s → (bytes : List ℕ) → ((i : ℕ) → Fits w8 (get_or bytes i 0)) → (r : Done (Result ℕ Refusal)) → outcome of_loading r ≡ load s bytes → Loads s bytes r
loads s good bytes fits r e = record { is = e; good = subst Good (sym (ap (λ (o : Outcome). o.schedule) e)) (load_good s good bytes (λ i. (fits i).fits)) }

-- ---- the exits of the reading, each after the checks before it
module _ (bytes : List ℕ) (fits : (i : ℕ) → Fits w8 (get_or bytes i 0)) (n : ℕ) (f : Framed bytes n) where
  b : AllBytes bytes
  b i = (fits i).fits

  -- Check 10 or check 18 refuses.
  pub refused_records : (r : Refusal) → of_soundness (Err r) ≡ records_step (records bytes) → (s : Schedule) → refusing s (number r) ≡ load s bytes
  refused_records r e s = ⊎_elim (λ w. ap (refusing s) w.0 ∙ load_10 s bytes n f w.1) (λ w. ap (refusing s) w.0 ∙ load_18 s bytes n f w.1 w.2) (checked_refuses (records bytes) (number r) e)

  module _ (p : records_within largest_k (records bytes) ≡ true) where
    pub owned_twice_lem : apart (at_handles (records bytes)) ≡ false → (s : Schedule) → refusing s (number BlockOwnedTwice) ≡ load s bytes
    unfolding connections_of
    owned_twice_lem q s = load_11 s bytes n f p q

    module _ (new : Schedule) (end : ℕ) (t : Restores bytes new (Ok end)) where
      tree_is : new.tree.bytes ≡ tree_for (at_handles (records bytes))
      tree_is = schedule_tree (at_handles (records bytes)) new (restores_apart bytes new end t).0

      -- The tree's record is the one after the connections'.
      end_is : end ≡ begin (pieces_of bytes) (suc n)
      end_is = (restores_apart bytes new end t).1 ∙ ap (λ (k : ℕ). begin (pieces_of bytes) (suc k)) (connections_long bytes n f b)

      pub tree_last : end + 4 + tree_bytes ≡ length bytes
      tree_last = ap (λ (k : ℕ). k + 4 + tree_bytes) end_is ∙ tree_place bytes n f b

      -- What is compared with the tree's bytes: those of the image from the end on.
      abbrev rest : List ℕ
      rest = take (length bytes - (end + 4)) (drop (end + 4) bytes)

      compared : (v : Bool) → pointwise eqb rest new.tree.bytes ≡ v → same (tree_in (pieces_of bytes)) (tree_for (connections_of (pieces_of bytes))) ≡ v
      unfolding connections_of
      compared v d =
          let size : length bytes - (end + 4) ≡ tree_bytes = omega (arith, tree_last) in
          let stands : rest ≡ tree_in (pieces_of bytes) =
          ap (λ (k : ℕ). take k (drop (end + 4) bytes)) size
          ∙ ap (λ (k : ℕ). take tree_bytes (drop (k + 4) bytes)) end_is
          ∙ tree_stands bytes n f b in
          ap₂ same (sym stands) (sym tree_is) ∙ sym (same_is rest new.tree.bytes) ∙ d

      pub differs : true ≡ not (pointwise eqb rest new.tree.bytes) → (s : Schedule) → refusing s (number TreeDiffers) ≡ load s bytes
      unfolding connections_of
      differs d s = load_12 s bytes n f p t.says.0 (compared false (not-true _ (sym d)))

      pub accepted : false ≡ not (pointwise eqb rest new.tree.bytes) → (s : Schedule) → ◌≡◌ {A = Outcome} (record { answer = loaded n; schedule = new }) (load s bytes)
      unfolding connections_of
      accepted d s =
          ap (λ (o : Schedule). record { answer = loaded n; schedule = o }) (restores_apart bytes new end t).0
          ∙ load_ok s bytes n f p t.says.0 (compared true (not-false _ (sym d)))

-- ---- the schedule that is left
pub loads_read : (s : Schedule) → Good s → (bytes : List ℕ) → ((i : ℕ) → Fits w8 (get_or bytes i 0)) → (new : Schedule) (r : Result ℕ Refusal)
    → ReadsImage bytes new r → Loads s bytes (record { answer = r; schedule = if is_ok r then new else s })
loads_read s good bytes fits new (Ok n) p = loads s good bytes fits _ (p s)
loads_read s good bytes fits new (Err why) p = loads s good bytes fits _ (p s)
