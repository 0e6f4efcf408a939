-- The connections of one depth placed one after the other, and the depths one after the other.
use mathlib.Core.Path.{◌≡◌, refl, sym, ap, ◌∙◌, subst, subst⁻¹}
use mathlib.Core.Bool.{Bool, true, false, cond, false≢true}
use mathlib.Core.Logic.{by_cases}
use mathlib.Core.List.{List, [], ◌∷◌, ◌++◌}
use mathlib.Core.Option.{Option, none, some, Option-elim}
use Prim.Native.Nat.{ℕ, suc, ◌+◌, ◌-◌, ◌^◌, ◌<◌, ◌≤◌}
use native.Mathlib.Decide.{ℕ_discrete}
use native.Mathlib.Numerals.{add-one}
use native.Mathlib.Omega.{arith}
use lib.Dec.{eqb}
use lib.ListN.{length, get_or, set, replicate, length-set, length-replicate}
use borrow.Author.Tests.{eqb-true}
use Rattle.rules.specs.declared.Connection.{Connection}
use Rattle.rules.specs.declared.Schedule.{Schedule}
use Rattle.rules.specs.declared.Refusal.TheVariants.{NoOpenAnchor, NoAnchorForAll}
use Rattle.std.specs.Prelude.{Result, Ok, Err, is_ok}
use Rattle.rules.specs.declared.Refusal.{Refusal}
use Rattle.rules.specs.Below.{in_turn, those}
use Rattle.rules.specs.Ownership.{handles, largest_k, nobody, free_slots, at, taken}
use Rattle.rules.specs.Mirror.{mirrored}
use Rattle.rules.specs.TreeBytes.{tree_of}
use Rattle.rules.specs.Good.{Good, tree_for, fresh, with_connections}
use Rattle.rules.specs.Refusals.{number}
use Rattle.rules.specs.Steps.{gives, refuses}
use Rattle.rules.specs.Admit.{first_open}
use Rattle.rules.specs.Tidy.{at_depth, of_depth, tidy_order, placed_next, with_anchor, place_all, arranged}
use Rattle.basics.proofs.BoolLaws.{both}
use Rattle.basics.proofs.BelowLaws.{turn_next, turn_first, those_more, those_same, those_first}
use Rattle.blocks.specs.Taking.{set_run}
use Rattle.blocks.proofs.ClassLaws.{within_depth}
use Rattle.blocks.proofs.MirrorLaws.{mirror_lt}
use Rattle.blocks.proofs.ScheduleLaws.{at_free, taken_nobody, at_same, at_other, good_sound, joined_tree}
use Rattle.calls.proofs.ArrangeLaws.{place_then, place_stuck, place_one_found, place_one_none}
use Rattle.tree.specs.Promises.{IsTree}
use Rattle.run.specs.Promises.{SetsRun}
use Rattle.place.specs.Steps.{place_at, place_step}
use Rattle.place.specs.Promises.{row_classes, Stretches}
use Rattle.tidy.specs.Promises.{Row, Widens, TakesRow, Reaches, DepthEnds, ArrangesDepth, Arranges}
use Rattle.tidy.proofs.RowLaws.{Coarse, row_stretches, row_widened, row_taken}

-- ---- one connection
-- What the search answers is where the connection goes beside those placed.
module _ (placed : List Connection) (c : Connection) where
  pub next_found : (A : ℕ) → gives A ≡ place_step (taken placed) c.k c.length → (placed_next placed c ≡ some A) × (A < 2 ^ c.k)
  unfolding place_step placed_next Option-elim
  next_found A = go (first_open (taken placed) c.k c.length)
    where
      go : (o : Option ℕ) → gives A ≡ place_at c.k o → (Option-elim o none (λ p. some (mirrored c.k p)) ≡ some A) × (A < 2 ^ c.k)
      go none e = let z : ◌≡◌ {A = ℕ} 0 1 = cc in absurd (omega arith)
      go (some p) e =
          let q : A ≡ mirrored c.k p = cc in
          (ap some (sym q), omega (arith, mirror_lt c.k p))

  pub next_none : refuses (number NoOpenAnchor) ≡ place_step (taken placed) c.k c.length → placed_next placed c ≡ none
  unfolding place_step placed_next Option-elim
  next_none = go (first_open (taken placed) c.k c.length)
    where
      go : (o : Option ℕ) → refuses (number NoOpenAnchor) ≡ place_at c.k o → Option-elim o none (λ p. some (mirrored c.k p)) ≡ none
      go none e = refl
      go (some p) e = let z : ◌≡◌ {A = ℕ} 0 1 = cc in absurd (omega arith)

-- ---- the connections of one depth
-- Those before handle h are placed, with their tree and their row; the others' slots are free.
pub record PlacingTo (cs : List Connection) (k h : ℕ) (start new : Schedule) (room : List ℕ) : Type 0 where
  pub found : place_all cs (those h (at_depth cs k)) start.connections ≡ some new.connections
  pub places : length new.connections ≡ handles
  pub has_tree : new.tree.bytes ≡ tree_for new.connections
  pub coarse : Coarse k new.connections
  pub deeper : (g : ℕ) → k < (at cs g).k → at new.connections g ≡ nobody
  pub ahead : (g : ℕ) → (at cs g).k ≡ k → h ≤ g → at new.connections g ≡ nobody
  pub long : length room ≡ row_classes
  pub row : Row (2 ^ k) new.connections room

-- Its run has a block, and is no longer than its period.
pub of_depth_fits : (s : Schedule) → Good s → (k h : ℕ) → at_depth s.connections k h ≡ true
    → (1 ≤ (at s.connections h).length) × ((at s.connections h).length ≤ 2 ^ k)
of_depth_fits s good k h e =
    let c = at s.connections h in
    let p = both c.live (eqb c.k k) e in
    let n = (good_sound s good).numbers h p.0 in
    (omega (arith, n.positive, n.floored), subst (λ (x : ℕ). c.length ≤ 2 ^ x) (eqb-true c.k k p.1) (omega (arith, n.ceiled, n.whole)))

pub placing_begins : (cs : List Connection) (k : ℕ) (new : Schedule) (entry room : List ℕ) → Reaches cs k new entry → Widens k entry room
    → PlacingTo cs k 0 new new room
unfolding those in_turn place_all
placing_begins cs k new entry room r w =
    let p = r.placed in
    record {
      found = refl;
      places = p.places;
      has_tree = p.has_tree;
      coarse = λ g live. omega (arith, p.coarse g live);
      deeper = λ g l. p.ahead g (omega arith);
      ahead = λ g e l. p.ahead g (omega arith);
      long = w.long;
      row = row_widened k new.connections entry room p.coarse r.row w;
    }

module _ (cs : List Connection) (k h : ℕ) (start new : Schedule) (room : List ℕ) (p : PlacingTo cs k h start new room) where
  -- It is not one of them.
  pub placing_skips : at_depth cs k h ≡ false → PlacingTo cs k (h + 1) start new room
  placing_skips e =
      record {
        found = ap (λ (hs : List ℕ). place_all cs hs start.connections) (rw (add-one h) (those_same h (at_depth cs k) e)) ∙ p.found;
        places = p.places;
        has_tree = p.has_tree;
        coarse = p.coarse;
        deeper = p.deeper;
        ahead = λ g q l. p.ahead g q (omega arith);
        long = p.long;
        row = p.row;
      }

  -- What the row and the tree are for.
  pub placing_stretches : k ≤ largest_k → Stretches k (taken new.connections) room
  placing_stretches hk = row_stretches k new.connections p.coarse room (within_depth hk) p.row

  pub placing_tree : IsTree new.tree.bytes
  unfolding tree_for
  placing_tree = (taken new.connections, p.has_tree)

  -- All of them.
  pub placing_ends : h ≡ handles → ArrangesDepth cs k start new room (Ok tt)
  unfolding of_depth
  placing_ends e =
      let one : suc k - 1 ≡ k = omega arith in
      subst⁻¹ (DepthEnds cs k new room (Ok tt)) (ap (λ (n : ℕ). place_all cs (those n (at_depth cs k)) start.connections) (sym e) ∙ p.found) (
        refl,
        refl,
        record {
          placed = record {
            places = p.places;
            has_tree = p.has_tree;
            coarse = λ g live. omega (arith, p.coarse g live);
            ahead = λ g l. p.deeper g (omega arith);
          };
          long = p.long;
          row = subst⁻¹ (λ (n : ℕ). Row (2 ^ n) new.connections room) one p.row;
        },
      )

  -- It is one of them.
  module _ (l : h < handles) (e : at_depth cs k h ≡ true) where
    is_live_lem : (at cs h).live ≡ true
    is_live_lem = (both (at cs h).live (eqb (at cs h).k k) e).0

    is_deep : (at cs h).k ≡ k
    is_deep = eqb-true (at cs h).k k (both (at cs h).live (eqb (at cs h).k k) e).1

    more : those (h + 1) (at_depth cs k) ≡ those h (at_depth cs k) ++ (h ∷ [])
    more = rw (add-one h) (those_more h (at_depth cs k) e)

    -- The search finds no anchor for it: one of the depth finds none.
    pub placing_stops : (after : Schedule) (exit : List ℕ) → refuses (number NoOpenAnchor) ≡ place_step (taken new.connections) k (at cs h).length
        → ArrangesDepth cs k start after exit (Err NoAnchorForAll)
    unfolding of_depth
    placing_stops after exit s =
        let w = those_first (h + 1) handles (at_depth cs k) (omega arith) in
        let none_here : placed_next new.connections (at cs h) ≡ none =
        next_none new.connections (at cs h) (s ∙ ap (λ (x : ℕ). place_step (taken new.connections) x (at cs h).length) (sym is_deep)) in
        let stuck : place_all cs (those handles (at_depth cs k)) start.connections ≡ none =
        ap (λ (hs : List ℕ). place_all cs hs start.connections) w.1
        ∙ place_stuck cs (those (h + 1) (at_depth cs k)) w.0 start.connections
        (ap (λ (hs : List ℕ). place_all cs hs start.connections) more
        ∙ place_then cs (those h (at_depth cs k)) (h ∷ []) start.connections new.connections p.found
        ∙ place_one_none cs h new.connections none_here) in
        subst⁻¹ (DepthEnds cs k after exit (Err NoAnchorForAll)) stuck refl

    -- It finds A: that is below F,
    module _ (A : ℕ) (s : gives A ≡ place_step (taken new.connections) k (at cs h).length) where
      here : (placed_next new.connections (at cs h) ≡ some A) × (A < 2 ^ (at cs h).k)
      here = next_found new.connections (at cs h) A (s ∙ ap (λ (x : ℕ). place_step (taken new.connections) x (at cs h).length) (sym is_deep))

      pub placing_small : A < 2 ^ k
      placing_small = subst (λ (x : ℕ). A < 2 ^ x) is_deep here.1

      -- and with its run taken in the row and the tree it is placed too.
      pub placing_takes : (after : Schedule) (exit : List ℕ) → after.connections ≡ set new.connections h (with_anchor (at cs h) A)
          → SetsRun k A 0 (at cs h).length true new.tree.bytes after.tree.bytes → TakesRow k A (at cs h).length room exit
          → PlacingTo cs k (h + 1) start after exit
      unfolding tree_for
      placing_takes after exit is tree t =
          let c = with_anchor (at cs h) A in
          let inside : h < length new.connections = omega (arith, p.places) in
          let free = p.ahead h is_deep (omega arith) in
          let same = at_same new.connections h c inside in
          let joined = set new.connections h c in
          let treed : after.tree.bytes ≡ tree_for joined =
          tree (taken new.connections) p.has_tree
          ∙ ap (λ (x : ℕ). tree_of (set_run x A 0 (at cs h).length true (taken new.connections))) (sym is_deep)
          ∙ joined_tree new.connections h inside c is_live_lem (ap (λ (x : Connection). x.live) free) in
          let shown : PlacingTo cs k (h + 1) start (record { connections = joined; tree = after.tree }) exit =
          record {
            found =
                ap (λ (hs : List ℕ). place_all cs hs start.connections) more
                ∙ place_then cs (those h (at_depth cs k)) (h ∷ []) start.connections new.connections p.found
                ∙ place_one_found cs h new.connections A here.0;
            places = length-set new.connections h c ∙ p.places;
            has_tree = treed;
            coarse = λ g live.
                by_cases (ℕ_discrete g h)
                (λ q. omega (arith, is_deep, ap (λ (x : Connection). x.k) (ap (at joined) q ∙ same)))
                (λ q.
                let o = at_other new.connections h c g q in
                omega (arith, ap (λ (x : Connection). x.k) o, p.coarse g (ap (λ (x : Connection). x.live) (sym o) ∙ live)));
            deeper = λ g m. at_other new.connections h c g (λ q. omega (arith, is_deep, ap (λ (x : ℕ). (at cs x).k) q)) ∙ p.deeper g m;
            ahead = λ g q m. at_other new.connections h c g (omega arith) ∙ p.ahead g q (omega arith);
            long = t.long;
            row = row_taken k new.connections h c room exit inside free is_live_lem is_deep p.row t;
          } in
          subst⁻¹ (λ (cs' : List Connection). PlacingTo cs k (h + 1) start (record { connections = cs'; tree = after.tree }) exit) is shown

-- ---- the depths
-- Those before depth k are placed.
pub record AllTo (cs : List Connection) (k : ℕ) (new : Schedule) (room : List ℕ) : Type 0 where
  pub found : place_all cs (in_turn k (of_depth cs)) free_slots ≡ some new.connections
  pub reaches : Reaches cs k new room

-- No connection is placed, and every class is free.
pub all_begins : (cs : List Connection) (new : Schedule) → new ≡ fresh → AllTo cs 0 new (replicate row_classes 1)
unfolding in_turn place_all fresh
all_begins cs new e =
    subst⁻¹ (λ (s : Schedule). AllTo cs 0 s (replicate row_classes 1)) e (
    record {
      found = refl;
      reaches = record {
        placed = record {
          places = length-replicate handles nobody;
          has_tree = refl;
          coarse = λ g live. absurd (false≢true (sym (ap (λ (c : Connection). c.live) (at_free handles g)) ∙ live));
          ahead = λ g l. at_free handles g;
        };
        long = length-replicate {A = ℕ} row_classes 1;
        row = λ A l.
            let z : A ≡ 0 = omega arith in
            ap (λ (x : ℕ). get_or (replicate row_classes 1) x 0) z ∙ sym (ap (λ (v : Bool). cond v 0 1) (taken_nobody handles A));
      };
    })

same_err : {a b : Refusal} → ◌≡◌ {A = Result Unit Refusal} (Err a) (Err b) → a ≡ b
same_err q = cc

-- A depth is not placed and stuck at once.
ended : {A : Type 0} {why : Refusal} → ◌≡◌ {A = Result Unit Refusal} (Ok tt) (Err why) → A
ended e = absurd (false≢true (sym (ap is_ok e)))

module _ (cs : List Connection) (k : ℕ) (new after : Schedule) (room exit : List ℕ) (p : AllTo cs k new room) (r : Result Unit Refusal) (d : ArrangesDepth cs k new after exit r) where
  deeper : place_all cs (in_turn (suc k) (of_depth cs)) free_slots ≡ place_all cs (of_depth cs k) new.connections
  deeper =
      ap (λ (hs : List ℕ). place_all cs hs free_slots) (turn_next k (of_depth cs))
      ∙ place_then cs (in_turn k (of_depth cs)) (of_depth cs k) free_slots new.connections p.found

  -- So are those of depth k.
  pub all_next : r ≡ Ok tt → AllTo cs (k + 1) after exit
  all_next all = rw (add-one k) (go (place_all cs (of_depth cs k) new.connections) deeper d)
    where
      go : (o : Option (List Connection)) → place_all cs (in_turn (suc k) (of_depth cs)) free_slots ≡ o → DepthEnds cs k after exit r o
          → AllTo cs (suc k) after exit
      go none e fails = ended (sym all ∙ fails)
      go (some placed) e w = record { found = e ∙ ap some (sym w.1); reaches = w.2 }

  -- One of them finds no anchor, so not all do.
  pub all_stops : k ≤ largest_k → (why : Refusal) → r ≡ Err why → Arranges (arranged cs) (Err why)
  unfolding arranged tidy_order
  all_stops hk why fails = go (place_all cs (of_depth cs k) new.connections) deeper d
    where
      go : (o : Option (List Connection)) → place_all cs (in_turn (suc k) (of_depth cs)) free_slots ≡ o → DepthEnds cs k after exit r o → Arranges (arranged cs) (Err why)
      go none e w =
          subst⁻¹ (λ (o : Option (List Connection)). Arranges o (Err why))
          (ap (λ (hs : List ℕ). place_all cs hs free_slots) (turn_first (suc k) (suc largest_k) (of_depth cs) (omega arith))
          ∙ place_stuck cs (in_turn (suc k) (of_depth cs)) (in_turn (suc largest_k - suc k) (λ i. of_depth cs (suc k + i))) free_slots e)
          (ap Err (same_err (sym fails ∙ w)))
      go (some placed) e w = ended (sym w.0 ∙ fails)

-- All are placed.
pub all_ends : (cs : List Connection) (k : ℕ) (new : Schedule) (room : List ℕ) → AllTo cs k new room → k ≡ suc largest_k
    → Arranges (arranged cs) (Ok new)
unfolding arranged tidy_order with_connections
all_ends cs k new room p e =
    subst⁻¹ (λ (o : Option (List Connection)). Arranges o (Ok new)) (ap (λ (n : ℕ). place_all cs (in_turn n (of_depth cs)) free_slots) (sym e) ∙ p.found)
    (ap (λ (bytes : List ℕ). Ok (record { connections = new.connections; tree = record { bytes = bytes } })) p.reaches.placed.has_tree)
