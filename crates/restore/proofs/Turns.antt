-- The connections and the tree of the first i records, and one record more.
use mathlib.Core.Path.{◌≡◌, refl, sym, ap, ◌∙◌, subst}
use mathlib.Core.Bool.{Bool, true, false}
use mathlib.Core.List.{List, [], ◌∷◌, ◌++◌}
use Prim.Native.Nat.{ℕ, suc, ◌+◌, ◌<◌}
use native.Mathlib.Numerals.{add-one}
use native.Mathlib.Omega.{arith}
use lib.ListN.{length, take, set}
use lib.Seq.{take-length, take-suc}
use Rattle.rules.specs.declared.Connection.{Connection}
use Rattle.rules.specs.declared.Schedule.{Schedule}
use Rattle.std.specs.Prelude.{Ok, Err}
use Rattle.rules.specs.Ownership.{handles, largest_k, taken}
use Rattle.rules.specs.Classes.{run_free}
use Rattle.blocks.specs.Taking.{set_run}
use Rattle.rules.specs.TreeBytes.{tree_of}
use Rattle.rules.specs.Sound.{Numbers, apart}
use Rattle.rules.specs.Good.{tree_for, fresh, with_connections}
use Rattle.rules.specs.Records.{Piece}
use Rattle.rules.specs.Fields.{handle_in, connection_in}
use Rattle.rules.specs.Load.{records_within, at_handles}
use Rattle.images.proofs.RestoreLaws.{numbers_here, handle_here, placed_here, run_apart, run_clash, run_tree, sound_next, clash_first, apart_none}
use Rattle.tree.specs.Promises.{IsTree}
use Rattle.run.specs.Promises.{RunFreeSays, SetsRun}
use Rattle.restore.specs.Promises.{records, most_apart, Restores}
use Rattle.rules.specs.Records.{begin, pieces_of}
use Rattle.restore.proofs.Calls.{most_all, most_clash}
use Rattle.images.proofs.PieceLaws.{nth}

-- The first i records are taken, and no block belongs to two of them.
pub record FirstTaken (rs : List Piece) (i : ℕ) (cs : List Connection) (tree : List ℕ) : Type 0 where
  pub placed : cs ≡ at_handles (take i rs)
  pub marked : tree ≡ tree_of (taken (at_handles (take i rs)))
  pub separate : apart (at_handles (take i rs)) ≡ true

pub taken_none : (rs : List Piece) (s : Schedule) → s ≡ fresh → FirstTaken rs 0 s.connections s.tree.bytes
unfolding at_handles fresh tree_for
taken_none rs s e = rw e (record { placed = refl; marked = refl; separate = apart_none })

pub taken_tree : (rs : List Piece) (i : ℕ) (cs : List Connection) (tree : List ℕ) → FirstTaken rs i cs tree → IsTree tree
taken_tree rs i cs tree w = (taken (at_handles (take i rs)), w.marked)

module _ (rs : List Piece) (i : ℕ) (l : i < length rs) (e : records_within largest_k rs ≡ true) (c : Connection) (ec : c ≡ connection_in (nth rs i)) where
  pub turn_numbers : Numbers c
  turn_numbers = subst Numbers (sym ec) (numbers_here (take i rs) (nth rs i) (sound_next rs e i l))

  pub turn_handle : handle_in (nth rs i) < handles
  turn_handle = handle_here (take i rs) (nth rs i) (sound_next rs e i l)

  module _ (cs : List Connection) (tree : List ℕ) (w : FirstTaken rs i cs tree) where
    said : (says : Bool) → RunFreeSays c.k c.anchor c.length tree says
        → run_free (taken (at_handles (take i rs))) (connection_in (nth rs i)).k (connection_in (nth rs i)).anchor (connection_in (nth rs i)).length ≡ says
    said says f =
        sym (f (taken (at_handles (take i rs))) w.marked
        ∙ ap (λ (x : Connection). run_free (taken (at_handles (take i rs))) x.k x.anchor x.length) ec)

    -- Its run is not free: it clashes with those before it.
    pub turn_clash : RunFreeSays c.k c.anchor c.length tree false → apart (at_handles (take (suc i) rs)) ≡ false
    turn_clash f =
        ap (λ (xs : List Piece). apart (at_handles xs)) (take-suc rs i _ l)
        ∙ run_clash (take i rs) (nth rs i) (sound_next rs e i l) w.separate (said false f)

    -- It is free, and is taken.
    pub turn_takes : (after : List ℕ) (h : ℕ) → h ≡ handle_in (nth rs i) → RunFreeSays c.k c.anchor c.length tree true
        → SetsRun c.k c.anchor 0 c.length true tree after → FirstTaken rs (i + 1) (set cs h c) after
    unfolding tree_for
    turn_takes after h eh f s =
        let first = take i rs in
        let more : first ++ (nth rs i ∷ []) ≡ take (suc i) rs = sym (take-suc rs i _ l) in
        let sound_so = sound_next rs e i l in
        rw (add-one i)
        (record {
          placed = rw (w.placed, eh, ec) (sym (placed_here first (nth rs i) sound_so) ∙ ap at_handles more);
          marked =
              s (taken (at_handles first)) w.marked
              ∙ ap (λ (x : Connection). tree_of (set_run x.k x.anchor 0 x.length true (taken (at_handles first)))) ec
              ∙ run_tree first (nth rs i) sound_so
              ∙ ap (λ (xs : List Piece). tree_of (taken (at_handles xs))) more;
          separate =
              ap (λ (xs : List Piece). apart (at_handles xs)) (sym more)
              ∙ run_apart first (nth rs i) sound_so w.separate (said true f);
        })

-- ---- the answers
module _ (bytes : List ℕ) (i : ℕ) (new : Schedule) (w : FirstTaken (records bytes) i new.connections new.tree.bytes) where
  restored : most_apart (records bytes) ≡ i → new ≡ with_connections fresh (at_handles (take (most_apart (records bytes)) (records bytes)))
  unfolding with_connections tree_for
  restored m = rw m (λ j. record { connections = w.placed j; tree = record { bytes = w.marked j } })

  -- Every record is taken.
  pub restores_all : (end : ℕ) → end ≡ begin (pieces_of bytes) (suc i) → i ≡ length (records bytes) → Restores bytes new (Ok end)
  restores_all end at q =
      let all : apart (at_handles (records bytes)) ≡ true = sym (ap (λ (k : ℕ). apart (at_handles (take k (records bytes)))) q ∙ ap (λ (xs : List Piece). apart (at_handles xs)) (take-length (records bytes))) ∙ w.separate in
      let m : most_apart (records bytes) ≡ i = most_all (records bytes) all ∙ sym q in
      record { is = restored m; says = (all, rw m at) }

  -- One clashes with those before it.
  pub restores_not : i < length (records bytes) → records_within largest_k (records bytes) ≡ true → apart (at_handles (take (suc i) (records bytes))) ≡ false
      → (end : ℕ) → end ≡ begin (pieces_of bytes) (suc i) → Restores bytes new (Err end)
  restores_not l e c end at =
      let all : apart (at_handles (records bytes)) ≡ false =
      ap (λ (xs : List Piece). apart (at_handles xs)) (sym (take-length (records bytes)))
      ∙ clash_first (records bytes) e (length (records bytes)) (suc i) l (omega arith) c in
      let m = most_clash (records bytes) i l e w.separate c in
      record { is = restored m; says = (all, rw m at) }
