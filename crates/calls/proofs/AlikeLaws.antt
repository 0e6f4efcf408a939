-- The new anchors depend only on which handles are live and with which factor and length.
use mathlib.Core.Path.{◌≡◌, refl, sym, ap, ap₂, ◌∙◌, fun_ext}
use mathlib.Core.Bool.{Bool, true, false, ◌||◌, ◌&&◌}
use mathlib.Core.Logic.{◌↔◌}
use mathlib.Core.List.{List, [], ◌∷◌, map, Memᴰ as In}
use mathlib.Core.Option
use mathlib.Core.Option.{Option, none, some, Option-elim, get_or, none-ne-some}
use Prim.Native.Nat.{ℕ, zero, suc}
use lib.Dec.{eqb}
use lib.ListN.{length, set, get_or-map}
use lib.Seq.{ext_get_or}
use Rattle.rules.specs.declared.Connection.{Connection}
use Rattle.rules.specs.Ownership.{handles, largest_k, nobody, free_slots, at, belongs, owns, taken}
use Rattle.rules.specs.Mirror.{mirrored}
use Rattle.rules.specs.Admit.{first_open}
use Rattle.rules.specs.Tidy.{at_depth, of_depth, tidy_order, placed_next, with_anchor, place_all, arranged, anew}
use Rattle.basics.proofs.BelowLaws.{turn_ext, those_ext}
use Rattle.blocks.proofs.SoundLaws.{Sound}
use Rattle.calls.proofs.ArrangeLaws.{Placing, order_live, placing_arranged, arranged_same, arranged_free, arranged_live}

-- ---- what decides who owns a block
-- Floor, ceiling and estimate do not.
abbrev run : Connection → Connection
run c = record { live = c.live; k = c.k; anchor = c.anchor; length = c.length; floor = 0; ceiling = 0; estimate = 0 }

abbrev runs : List Connection → List Connection
runs cs = map run cs

runs_taken : (cs : List Connection) (b : ℕ) → taken (runs cs) b ≡ taken cs b
unfolding taken owns belongs
runs_taken [] b = refl
runs_taken (c ∷ cs) b = ap (λ (v : Bool). owns c b || v) (runs_taken cs b)

runs_set : (cs : List Connection) (h : ℕ) (c : Connection) → runs (set cs h c) ≡ set (runs cs) h (run c)
runs_set [] h c = refl
runs_set (x ∷ cs) zero c = refl
runs_set (x ∷ cs) (suc h) c = ap {B = List Connection} (λ l. run x ∷ l) (runs_set cs h c)

-- A connection to be placed, without its anchor.
abbrev placeless : Connection → Connection
placeless c = run (with_anchor c 0)

runs_next : (placed : List Connection) (c : Connection) → placed_next placed c ≡ placed_next (runs placed) (placeless c)
unfolding placed_next
runs_next placed c =
    ap (λ (f : ℕ → Bool). Option-elim (first_open f c.k c.length) none (λ p. some (mirrored c.k p))) (sym (fun_ext (runs_taken placed)))

-- Connections that agree in it are placed alike.
place_alike : (cs ds : List Connection) (hs : List ℕ) (placed laid : List Connection)
    → ((h : ℕ) → In h hs → placeless (at cs h) ≡ placeless (at ds h)) → runs placed ≡ runs laid
    → Option.map runs (place_all cs hs placed) ≡ Option.map runs (place_all ds hs laid)
unfolding place_all Option-elim
place_alike cs ds [] placed laid same e = ap {B = Option (List Connection)} some e
place_alike cs ds (h ∷ hs) placed laid same e =
    let here = same h (In.head refl) in
    let q : placed_next placed (at cs h) ≡ placed_next laid (at ds h) =
    runs_next placed (at cs h) ∙ ap₂ placed_next e here ∙ sym (runs_next laid (at ds h)) in
    rw q (go (placed_next laid (at ds h)) (λ A.
    place_alike cs ds hs (set placed h (with_anchor (at cs h) A)) (set laid h (with_anchor (at ds h) A)) (λ g m. same g (In.tail m))
    (runs_set placed h (with_anchor (at cs h) A)
    ∙ ap₂ (λ (l : List Connection) (c : Connection). set l h (with_anchor c A)) e here
    ∙ sym (runs_set laid h (with_anchor (at ds h) A)))))
  where
    go : (o : Option ℕ)
        → ((A : ℕ) → Option.map runs (place_all cs hs (set placed h (with_anchor (at cs h) A))) ≡ Option.map runs (place_all ds hs (set laid h (with_anchor (at ds h) A))))
        → Option.map runs (Option-elim o none (λ A. place_all cs hs (set placed h (with_anchor (at cs h) A))))
        ≡ Option.map runs (Option-elim o none (λ A. place_all ds hs (set laid h (with_anchor (at ds h) A))))
    go none later = refl
    go (some A) later = later A

-- ---- the same handles are live, with the same factor and length
abbrev pub Alike : List Connection → List Connection → Type 0
Alike cs ds = (h : ℕ) → ((at cs h).live ≡ (at ds h).live) × ((at cs h).live ≡ true → ((at cs h).k ≡ (at ds h).k) × ((at cs h).length ≡ (at ds h).length))

module _ (cs ds : List Connection) (alike : Alike cs ds) where
  -- The order is the same;
  pub order_alike : tidy_order cs ≡ tidy_order ds
  unfolding tidy_order of_depth
  order_alike =
      turn_ext (suc largest_k) (of_depth cs) (of_depth ds) (λ k l.
      those_ext handles (at_depth cs k) (at_depth ds k) (λ h m. go k h (at cs h).live refl))
    where
      go : (k h : ℕ) (v : Bool) → (at cs h).live ≡ v → at_depth cs k h ≡ at_depth ds k h
      go k h true q = ap₂ (λ (x : Bool) (n : ℕ). x && eqb n k) (alike h).0 ((alike h).1 q).0
      go k h false q = let d : (at ds h).live ≡ false = sym (alike h).0 ∙ q in rw (q, d)

  arranged_alike : Option.map runs (arranged cs) ≡ Option.map runs (arranged ds)
  unfolding arranged
  arranged_alike =
      place_alike cs ds (tidy_order cs) free_slots free_slots
      (λ h m.
      let a = alike h in
      let w = a.1 (order_live cs h m) in
      cc) refl
      ∙ ap (λ (l : List ℕ). Option.map runs (place_all ds l free_slots)) order_alike

  -- all find an anchor, or neither do;
  pub none_alike : (arranged cs ≡ none) ↔ (arranged ds ≡ none)
  none_alike = (
    λ e. go (arranged ds) (sym arranged_alike ∙ ap (Option.map runs) e),
    λ e. go (arranged cs) (arranged_alike ∙ ap (Option.map runs) e),
  )
    where
      go : (o : Option (List Connection)) → Option.map runs o ≡ none → o ≡ none
      go none e = refl
      go (some l) e = absurd (none-ne-some (runs l) (sym e))

  -- and they are the same.
  pub anchors_alike : (new other : List Connection) → arranged cs ≡ some new → arranged ds ≡ some other → (h : ℕ) → (at new h).anchor ≡ (at other h).anchor
  anchors_alike new other p q h =
      let e : runs new ≡ runs other = cc arranged_alike in
      ap (λ (c : Connection). c.anchor) (sym (get_or-map run new h nobody) ∙ ap (λ (l : List Connection). at l h) e ∙ get_or-map run other h nobody)

  -- So where all find one, the anchors afterwards are the same.
  pub anew_alike : (arranged cs ≡ none → ⊥) → (h : ℕ) → (at (anew cs) h).anchor ≡ (at (anew ds) h).anchor
  anew_alike found h = go (arranged cs) (arranged ds) refl refl
    where
      go : (o q : Option (List Connection)) → arranged cs ≡ o → arranged ds ≡ q → (at (get_or o cs) h).anchor ≡ (at (get_or q ds) h).anchor
      go none q x y = absurd (found x)
      go (some new) none x y = absurd (found (none_alike.1 y))
      go (some new) (some other) x y = anchors_alike new other x y h

-- ---- once more
module _ (cs : List Connection) (places : length cs ≡ handles) (s : Sound cs) (new : List Connection) (e : arranged cs ≡ some new) where
  -- What is arranged has the same handles live, with the same factors and lengths,
  pub again_alike : Alike cs new
  again_alike h = (
    sym (arranged_live cs places s new e h),
    λ live.
        let q = arranged_same cs places s new e h live in
        (sym (ap (λ (c : Connection). c.k) q), sym (ap (λ (c : Connection). c.length) q)),
  )

  -- so all find an anchor again, and the same.
  pub arranged_again : arranged new ≡ some new
  arranged_again = go (arranged new) refl
    where
      p : Placing cs (tidy_order cs) new
      p = placing_arranged cs places s new e

      same : (other : List Connection) → arranged new ≡ some other → (h : ℕ) (v : Bool) → (at new h).live ≡ v → at other h ≡ at new h
      same other q h true live =
          arranged_same new p.long p.sounds other q h live
          ∙ ap (with_anchor (at new h)) (sym (anchors_alike cs new again_alike new other e q h))
      same other q h false dead =
          arranged_free new p.long p.sounds other q h dead ∙ sym (arranged_free cs places s new e h (sym (arranged_live cs places s new e h) ∙ dead))

      go : (o : Option (List Connection)) → arranged new ≡ o → arranged new ≡ some new
      go none q = absurd (none-ne-some new (sym ((none_alike cs new again_alike).1 q) ∙ e))
      go (some other) q =
          let long = (placing_arranged new p.long p.sounds other q).long in
          q ∙ ap {B = Option (List Connection)} some
          (ext_get_or nobody other new (long ∙ sym p.long) (λ h l. same other q h (at new h).live refl))
