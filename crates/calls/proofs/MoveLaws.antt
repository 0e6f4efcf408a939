-- The moves of a tidy, and their entries in a lent list.
use mathlib.Core.Path.{◌≡◌, refl, sym, ap, ap₂, ◌∙◌, subst⁻¹}
use mathlib.Core.Bool.{true, not, ◌&&◌, false≢true}
use mathlib.Core.Logic.{◌≢◌, ◌↔◌}
use mathlib.Core.List.{List, [], ◌∷◌, map, Memᴰ as In}
use Prim.Native.Nat.{ℕ, zero, suc, ◌+◌, ◌*◌, ◌<◌, ◌≤◌}
use native.Mathlib.Omega.{arith}
use lib.ListN.{length, get_or, length-map, get_or-append}
use lib.Seq.{get_or-append-add}
use borrow.Author.Tests.{eqb-false, eq-eqb, ne_eqb}
use Rattle.rules.specs.declared.Connection.{Connection}
use Rattle.rules.specs.Ownership.{handles, at}
use Rattle.rules.specs.Tidy.{Move, differs, has_moved, movers, move_of, moves, move_width, entry_of, entries}
use Rattle.basics.proofs.BoolLaws.{both, not_true_is_false, is_false}
use Rattle.basics.proofs.BelowLaws.{those_at, those_of, those_most, those_none, those_rise, map_at, map_of, Ordered, ordered_map, ordered_at}
use Rattle.blocks.proofs.ScheduleLaws.{live_inside}

-- ---- which there are
module _ (old new : List Connection) where
  mover_at : (h : ℕ) → In h (movers old new) → ((at old h).live ≡ true) × ((at old h).anchor ≢ (at new h).anchor)
  unfolding movers
  mover_at h m =
      let w = both (at old h).live (differs (at old h) (at new h)) (those_at handles (has_moved old new) h m).1 in
      (w.0, eqb-false (at old h).anchor (at new h).anchor (not_true_is_false _ w.1))

  mover_of : (h : ℕ) → h < handles → (at old h).live ≡ true → (at old h).anchor ≢ (at new h).anchor → In h (movers old new)
  unfolding movers
  mover_of h l live d = those_of handles (has_moved old new) h l (ap₂ ◌&&◌ live (ap not (ne_eqb (at old h).anchor (at new h).anchor d)))

  -- A handle has a move exactly if it is live and its anchor differs; it has the old anchor and the new one.
  pub move_exactly : length old ≡ handles → (m : Move)
      → In m (moves old new) ↔ (((at old m.handle).live ≡ true) × ((at old m.handle).anchor ≢ (at new m.handle).anchor) × (m ≡ move_of old new m.handle))
  unfolding moves
  move_exactly places m = (
    λ i.
        let w = map_at (move_of old new) (movers old new) m i in
        let q : m.handle ≡ w.0 = ap (λ (n : Move). n.handle) (sym w.2) in
        let v = subst⁻¹ (λ (h : ℕ). ((at old h).live ≡ true) × ((at old h).anchor ≢ (at new h).anchor)) q (mover_at w.0 w.1) in
        (v.0, v.1, sym w.2 ∙ ap (move_of old new) (sym q)),
    λ v.
        let below : m.handle < handles = omega (arith, places, live_inside old m.handle v.0) in
        subst⁻¹ (λ (n : Move). In n (moves old new)) v.2 (map_of (move_of old new) (movers old new) (mover_of m.handle below v.0 v.1)),
  )

  -- Their handles strictly rise;
  pub moves_rise : Ordered (λ m n. m.handle < n.handle) (moves old new)
  unfolding moves movers
  moves_rise = ordered_map (move_of old new) (λ m n. m.handle < n.handle) (movers old new) (those_rise handles (has_moved old new))

  pub moves_rise_at : (i j : ℕ) (d : Move) → i < j → j < length (moves old new) → (get_or (moves old new) i d).handle < (get_or (moves old new) j d).handle
  moves_rise_at i j d = ordered_at (λ m n. m.handle < n.handle) (moves old new) d moves_rise i j

  -- there are at most 64;
  pub moves_most : length (moves old new) ≤ handles
  unfolding moves movers
  moves_most = omega (arith, length-map (movers old new) (move_of old new), those_most handles (has_moved old new))

  -- and none where no anchor differs.
  pub moves_none : ((h : ℕ) → (at old h).live ≡ true → (at old h).anchor ≡ (at new h).anchor) → moves old new ≡ []
  unfolding moves movers
  moves_none same =
      ap (map (move_of old new)) (those_none handles (has_moved old new) (λ h l. is_false (has_moved old new h) (λ t.
      let w = both (at old h).live (differs (at old h) (at new h)) t in
      false≢true (sym (ap not (eq-eqb (at old h).anchor (at new h).anchor (same h w.0))) ∙ w.1))))

-- ---- their entries
pub entries_length : (ms : List Move) → length (entries ms) ≡ move_width * length ms
unfolding entries
entries_length [] = refl
entries_length (m ∷ ms) = omega (arith, entries_length ms)

-- Entry i of a list is that of a move: its numbers are the move's.
abbrev pub Entry : List ℕ → ℕ → Move → Type 0
Entry list i m = (j d : ℕ) → j < move_width → get_or list (move_width * i + j) d ≡ get_or (entry_of m) j d

pub entry_at : (ms : List Move) (i : ℕ) (m : Move) → i < length ms → Entry (entries ms) i (get_or ms i m)
unfolding entries
entry_at [] i m l j d h = absurd (omega arith)
entry_at (x ∷ ms) zero m l j d h =
    let e : move_width * 0 + j ≡ j = omega arith in
    ap (λ (n : ℕ). get_or (entries (x ∷ ms)) n d) e ∙ get_or-append (entry_of x) (entries ms) d j h
entry_at (x ∷ ms) (suc i) m l j d h =
    let e : move_width * suc i + j ≡ length (entry_of x) + (move_width * i + j) = omega arith in
    ap (λ (n : ℕ). get_or (entries (x ∷ ms)) n d) e ∙ get_or-append-add (entry_of x) (entries ms) (move_width * i + j) d ∙ entry_at ms i m (omega arith) j d h
