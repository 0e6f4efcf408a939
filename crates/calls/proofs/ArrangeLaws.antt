-- The placing of connections, one after the other: what is placed, in which order, and which anchor each finds.
use mathlib.Core.Path.{◌≡◌, refl, sym, ap, ap₂, ◌∙◌, subst, subst⁻¹}
use mathlib.Core.Bool.{Bool, true, false, ◌&&◌, false≢true}
use mathlib.Core.Logic.{by_cases, ◌↔◌, ◌⊎◌, inl, inr, ⊎_elim}
use mathlib.Core.List.Memᴰ
use mathlib.Core.List.{List, [], ◌∷◌, ◌++◌, append-nil, Memᴰ as In}
use mathlib.Core.Option.{Option, none, some, Option-elim, none-ne-some}
use Prim.Native.Nat.{ℕ, suc, ◌+◌, ◌%◌, ◌^◌, ◌<◌, ◌≤◌}
use native.Mathlib.Decide.{ℕ_discrete}
use native.Mathlib.Omega.{arith}
use lib.Dec.{eqb}
use lib.ListN.{length, set, length-set, length-replicate}
use lib.Seq.{append_snoc}
use borrow.Author.Tests.{eqb-true, eq-eqb}
use Rattle.rules.specs.declared.Connection.{Connection}
use Rattle.rules.specs.Ownership.{handles, largest_k, nobody, free_slots, at, owns, taken}
use Rattle.rules.specs.Mirror.{mirrored}
use Rattle.rules.specs.Sound.{Numbers}
use Rattle.rules.specs.Admit.{is_open, first_open}
use Rattle.rules.specs.Tidy.{at_depth, of_depth, tidy_order, placed_next, with_anchor, place_all, arranged}
use Rattle.basics.proofs.BoolLaws.{both}
use Rattle.basics.proofs.BelowLaws.{turn_at, turn_of, those_at, those_of, Ordered, ordered_so, ordered_across, turn_ordered, those_rise}
use Rattle.blocks.proofs.ClassLaws.{within_depth}
use Rattle.blocks.proofs.MirrorLaws.{mirror_lt}
use Rattle.blocks.proofs.SoundLaws.{Sound, sound_exactly}
use Rattle.blocks.proofs.ScheduleLaws.{at_free, nobody_owns, free_sound, at_same, at_other, RunFreeEver, joined_sound, live_inside}
use Rattle.calls.proofs.AdmitLaws.{first_open_lem, first_ever, none_ever}

-- ---- one after the other
-- Those of xs ++ ys are placed as those of xs, and then those of ys beside them.
pub place_append : (cs : List Connection) (xs ys : List ℕ) (placed : List Connection)
    → place_all cs (xs ++ ys) placed ≡ Option-elim (place_all cs xs placed) none (λ p. place_all cs ys p)
unfolding place_all Option-elim
place_append cs [] ys placed = refl
place_append cs (h ∷ xs) ys placed = go (placed_next placed (at cs h)) (λ A. place_append cs xs ys (set placed h (with_anchor (at cs h) A)))
  where
    go : (o : Option ℕ)
        → ((A : ℕ) → place_all cs (xs ++ ys) (set placed h (with_anchor (at cs h) A))
        ≡ Option-elim (place_all cs xs (set placed h (with_anchor (at cs h) A))) none (λ p. place_all cs ys p))
        → Option-elim o none (λ A. place_all cs (xs ++ ys) (set placed h (with_anchor (at cs h) A)))
        ≡ Option-elim (Option-elim o none (λ A. place_all cs xs (set placed h (with_anchor (at cs h) A)))) none (λ p. place_all cs ys p)
    go none later = refl
    go (some A) later = later A

-- So the second go on where the first are placed, and where one of the first finds no anchor there is none.
module _ (cs : List Connection) (xs ys : List ℕ) (placed : List Connection) where
  pub place_then : (p : List Connection) → place_all cs xs placed ≡ some p → place_all cs (xs ++ ys) placed ≡ place_all cs ys p
  unfolding Option-elim
  place_then p e = rw e at (place_append cs xs ys placed)

  pub place_stuck : place_all cs xs placed ≡ none → place_all cs (xs ++ ys) placed ≡ none
  unfolding Option-elim
  place_stuck e = rw e at (place_append cs xs ys placed)

  pub place_parts : (q : List Connection) → place_all cs (xs ++ ys) placed ≡ some q
      → (p : List Connection) × (place_all cs xs placed ≡ some p) × (place_all cs ys p ≡ some q)
  unfolding Option-elim
  place_parts q e = go (place_all cs xs placed) (sym (place_append cs xs ys placed) ∙ e)
    where
      go : (o : Option (List Connection)) → Option-elim o none (λ p. place_all cs ys p) ≡ some q
          → (p : List Connection) × (o ≡ some p) × (place_all cs ys p ≡ some q)
      go none e = absurd (none-ne-some q e)
      go (some p) e = (p, refl, e)

-- One connection has the anchor that it finds; where it finds none, there is none.
module _ (cs : List Connection) (h : ℕ) (placed : List Connection) where
  pub place_one_found : (A : ℕ) → placed_next placed (at cs h) ≡ some A → place_all cs (h ∷ []) placed ≡ some (set placed h (with_anchor (at cs h) A))
  unfolding place_all Option-elim
  place_one_found A e = rw e

  pub place_one_none : placed_next placed (at cs h) ≡ none → place_all cs (h ∷ []) placed ≡ none
  unfolding place_all Option-elim
  place_one_none e = rw e

  -- Where it and others are placed, it found an anchor, and they went on from there.
  pub place_first : (hs : List ℕ) (p : List Connection) → place_all cs (h ∷ hs) placed ≡ some p
      → (A : ℕ) × (placed_next placed (at cs h) ≡ some A) × (place_all cs hs (set placed h (with_anchor (at cs h) A)) ≡ some p)
  unfolding place_all Option-elim
  place_first hs p e = go (placed_next placed (at cs h)) e
    where
      go : (o : Option ℕ) → Option-elim o none (λ A. place_all cs hs (set placed h (with_anchor (at cs h) A))) ≡ some p
          → (A : ℕ) × (o ≡ some A) × (place_all cs hs (set placed h (with_anchor (at cs h) A)) ≡ some p)
      go none e = absurd (none-ne-some p e)
      go (some A) e = (A, refl, e)

-- The connection of a handle that is not among them is as it was.
pub place_others : (cs : List Connection) (hs : List ℕ) (placed p : List Connection) (g : ℕ) → place_all cs hs placed ≡ some p → (In g hs → ⊥) → at p g ≡ at placed g
unfolding place_all
place_others cs [] placed p g e n = let q : placed ≡ p = cc in ap (λ (l : List Connection). at l g) (sym q)
place_others cs (h ∷ hs) placed p g e n =
    let w = place_first cs h placed hs p e in
    place_others cs hs (set placed h (with_anchor (at cs h) w.0)) p g w.2 (λ m. n (In.tail m))
    ∙ at_other placed h (with_anchor (at cs h) w.0) g (λ q. n (In.head q))

-- ---- where a connection goes
module _ (placed : List Connection) (c : Connection) where
  -- To the first open anchor in node order.
  next_open : (A : ℕ) → placed_next placed c ≡ some A → (p : ℕ) × (first_open (taken placed) c.k c.length ≡ some p) × (A ≡ mirrored c.k p)
  unfolding placed_next Option-elim
  next_open A = go (first_open (taken placed) c.k c.length)
    where
      go : (o : Option ℕ) → Option-elim o none (λ p. some (mirrored c.k p)) ≡ some A → (p : ℕ) × (o ≡ some p) × (A ≡ mirrored c.k p)
      go none e = absurd (none-ne-some A e)
      go (some p) e = (p, refl, cc)

  next_none : (placed_next placed c ≡ none) ↔ (first_open (taken placed) c.k c.length ≡ none)
  unfolding placed_next Option-elim
  next_none = (go (first_open (taken placed) c.k c.length), λ e. rw e)
    where
      go : (o : Option ℕ) → Option-elim o none (λ p. some (mirrored c.k p)) ≡ none → o ≡ none
      go none e = refl
      go (some p) e = absurd (none-ne-some (mirrored c.k p) (sym e))

  module _ (s : Sound placed) (deep : c.k ≤ largest_k) where
    -- Its anchor is the first in node order whose whole run is free, in endless time, of those placed;
    pub next_ever : (A : ℕ) → placed_next placed c ≡ some A
        → (p : ℕ) × (p < 2 ^ c.k) × (A ≡ mirrored c.k p) × RunFreeEver placed c.k c.length (mirrored c.k p)
        × ((q : ℕ) → q < p → RunFreeEver placed c.k c.length (mirrored c.k q) → ⊥)
    next_ever A e =
        let w = next_open A e in
        let f = first_ever placed c.k c.length ((sound_exactly placed).1 s) (within_depth deep) w.0 w.1 in
        (w.0, f.0, w.2, f.1, f.2)

    -- it finds none exactly if no anchor below F has it.
    pub next_shut : (placed_next placed c ≡ none) ↔ ((A : ℕ) → A < 2 ^ c.k → RunFreeEver placed c.k c.length A → ⊥)
    next_shut =
        let n = none_ever placed c.k c.length ((sound_exactly placed).1 s) (within_depth deep) in
        (λ e. n.0 (next_none.0 e), λ x. next_none.1 (n.1 x))

-- Its numbers stay sound.
next_numbers : (placed : List Connection) (c : Connection) (A : ℕ) → Numbers c → placed_next placed c ≡ some A → Numbers (with_anchor c A)
next_numbers placed c A n e =
    let w = next_open placed c A e in
    record {
      deep = n.deep;
      anchored = subst⁻¹ (λ (x : ℕ). x < 2 ^ c.k) w.2 (mirror_lt c.k w.0);
      positive = n.positive;
      floored = n.floored;
      ceiled = n.ceiled;
      whole = n.whole;
      metered = n.metered;
    }

-- ---- what is placed
-- Once those of `before` are placed on 64 free slots: sound connections, each of these as it was but for its anchor, and each other nobody.
pub record Placing (cs : List Connection) (before : List ℕ) (placed : List Connection) : Type 0 where
  pub long : length placed ≡ handles
  pub sounds : Sound placed
  pub each : (h : ℕ) → (In h before × (at placed h ≡ with_anchor (at cs h) (at placed h).anchor)) ⊎ ((In h before → ⊥) × (at placed h ≡ nobody))

pub placing_none : (cs : List Connection) → Placing cs [] free_slots
placing_none cs =
    record {
      long = length-replicate handles nobody;
      sounds = free_sound handles;
      each = λ h. inr (λ m. Memᴰ.not-nil m, at_free handles h);
    }

-- A live connection with sound numbers, in a slot.
pub record Fit (cs : List Connection) (h : ℕ) : Type 0 where
  pub below : h < handles
  pub live : (at cs h).live ≡ true
  pub numbers : Numbers (at cs h)

-- One more is placed;
placing_one : (cs : List Connection) (before : List ℕ) (placed : List Connection) (h A : ℕ) → Placing cs before placed → Fit cs h
    → placed_next placed (at cs h) ≡ some A → Placing cs (before ++ (h ∷ [])) (set placed h (with_anchor (at cs h) A))
unfolding is_open
placing_one cs before placed h A p f e =
    let c = with_anchor (at cs h) A in
    let l : h < length placed = omega (arith, f.below, p.long) in
    let w = next_open placed (at cs h) A e in
    let free = subst⁻¹ (λ (x : ℕ). is_open (taken placed) c.k c.length x ≡ true) w.2 (first_open_lem (taken placed) c.k c.length w.0 w.1).1 in
    record {
      long = length-set placed h c ∙ p.long;
      sounds = joined_sound placed h l c f.live p.sounds (next_numbers placed (at cs h) A f.numbers e) free;
      each = λ g.
          by_cases (ℕ_discrete g h)
          (λ q.
          let here : at (set placed h c) g ≡ c = ap (at (set placed h c)) q ∙ at_same placed h c l in
          inl (Memᴰ.append_right before (In.head q), here ∙ ap₂ (λ (j B : ℕ). with_anchor (at cs j) B) (sym q) (sym (ap (λ (x : Connection). x.anchor) here))))
          (λ q.
          let there = at_other placed h c g q in
          ⊎_elim
          (λ v. inl (Memᴰ.append_left (h ∷ []) v.0, there ∙ v.1 ∙ ap (λ (x : Connection). with_anchor (at cs g) x.anchor) (sym there)))
          (λ v. inr (λ m. ⊎_elim v.0 (λ x. q (Memᴰ.eq_of_singleton x)) (Memᴰ.append_cases before m), there ∙ v.1))
          (p.each g));
    }

-- and so all of them.
pub placing_all : (cs : List Connection) (hs before : List ℕ) (placed p : List Connection) → ((h : ℕ) → In h hs → Fit cs h) → Placing cs before placed
    → place_all cs hs placed ≡ some p → Placing cs (before ++ hs) p
unfolding place_all
placing_all cs [] before placed p fit w e =
    let q : placed ≡ p = cc in
    subst (Placing cs (before ++ [])) q (subst⁻¹ (λ (l : List ℕ). Placing cs l placed) (append-nil before) w)
placing_all cs (h ∷ hs) before placed p fit w e =
    let v = place_first cs h placed hs p e in
    subst (λ (l : List ℕ). Placing cs l p) (append_snoc before h hs)
    (placing_all cs hs (before ++ (h ∷ [])) (set placed h (with_anchor (at cs h) v.0)) p (λ g m. fit g (In.tail m))
    (placing_one cs before placed h v.0 w (fit h (In.head refl)) v.1) v.2)

-- ---- the order
-- "by rising factor, equal factors by rising handle"
abbrev pub Sooner : List Connection → ℕ → ℕ → Type 0
Sooner cs g h = ((at cs g).k < (at cs h).k) ⊎ (((at cs g).k ≡ (at cs h).k) × (g < h))

never_sooner : (cs : List Connection) (h : ℕ) → Sooner cs h h → ⊥
never_sooner cs h (inl l) = omega arith
never_sooner cs h (inr w) = omega (arith, w.1)

module _ (cs : List Connection) where
  depth_at : (k h : ℕ) → In h (of_depth cs k) → (h < handles) × ((at cs h).live ≡ true) × ((at cs h).k ≡ k)
  unfolding of_depth
  depth_at k h m =
      let w = those_at handles (at_depth cs k) h m in
      let v = both (at cs h).live (eqb (at cs h).k k) w.1 in
      (w.0, v.0, eqb-true _ _ v.1)

  depth_of_lem : (h : ℕ) → h < handles → (at cs h).live ≡ true → In h (of_depth cs (at cs h).k)
  unfolding of_depth
  depth_of_lem h l live = those_of handles (at_depth cs (at cs h).k) h l (ap₂ ◌&&◌ live (eq-eqb (at cs h).k (at cs h).k refl))

  -- It has live connections only.
  pub order_live : (h : ℕ) → In h (tidy_order cs) → (at cs h).live ≡ true
  unfolding tidy_order
  order_live h m = let w = turn_at (suc largest_k) (of_depth cs) h m in (depth_at w.0 h w.2).1

  -- Each comes before each later one by its factor, or by its handle where the factors are equal.
  pub order_rises : Ordered (Sooner cs) (tidy_order cs)
  unfolding tidy_order of_depth
  order_rises =
      turn_ordered (Sooner cs) (suc largest_k) (of_depth cs)
      (λ k.
      ordered_so (λ g h. g < h) (Sooner cs) (of_depth cs k) (λ g h m n l. inr ((depth_at k g m).2 ∙ sym (depth_at k h n).2, l))
      (those_rise handles (at_depth cs k)))
      (λ i j l g h m n. inl (omega (arith, (depth_at i g m).2, (depth_at j h n).2)))

  -- So by two places of the order.
  pub order_sooner : (xs ys zs : List ℕ) (g h : ℕ) → tidy_order cs ≡ (xs ++ (g ∷ ys)) ++ (h ∷ zs) → Sooner cs g h
  order_sooner xs ys zs g h e =
      ordered_across (Sooner cs) (xs ++ (g ∷ ys)) (h ∷ zs) (subst (Ordered (Sooner cs)) e order_rises) g h
      (Memᴰ.append_right xs (In.head refl)) (In.head refl)

  -- None comes twice.
  pub order_once : (xs ys : List ℕ) → tidy_order cs ≡ xs ++ ys → (h : ℕ) → In h xs → In h ys → ⊥
  order_once xs ys e h m n = never_sooner cs h (ordered_across (Sooner cs) xs ys (subst (Ordered (Sooner cs)) e order_rises) h h m n)

-- ---- all are placed
-- The whole run of n blocks at A is free, in endless time, of the connections of these handles.
abbrev pub FreeOf : List Connection → List ℕ → ℕ → ℕ → ℕ → Type 0
FreeOf new before k n A = (j : ℕ) → j < n → (b g : ℕ) → In g before → b % 2 ^ k ≡ (A + j) % 2 ^ k → owns (at new g) b ≡ false

-- So it is exactly if it is free of all that is placed, once these are placed where they stay.
free_exactly : (cs new placed : List Connection) (before : List ℕ) → Placing cs before placed → ((g : ℕ) → In g before → at new g ≡ at placed g)
    → (k n A : ℕ) → RunFreeEver placed k n A ↔ FreeOf new before k n A
free_exactly cs new placed before p stay k n A = (
  λ f j l b g m e. ap (λ (c : Connection). owns c b) (stay g m) ∙ f j l b g e,
  λ f j l b g e.
      ⊎_elim
      (λ v. ap (λ (c : Connection). owns c b) (sym (stay g v.0)) ∙ f j l b g v.0 e)
      (λ v. ap (λ (c : Connection). owns c b) v.1 ∙ nobody_owns b)
      (p.each g),
)

module _ (cs : List Connection) (places : length cs ≡ handles) (s : Sound cs) where
  -- The order has the handles of the live connections, each below 64.
  pub order_exactly : (h : ℕ) → In h (tidy_order cs) ↔ ((at cs h).live ≡ true)
  unfolding tidy_order
  order_exactly h = (
    order_live cs h,
    λ live.
        let below : h < handles = omega (arith, places, live_inside cs h live) in
        turn_of (suc largest_k) (of_depth cs) h (at cs h).k (omega (arith, (s.numbers h live).deep)) (depth_of_lem cs h below live),
  )

  pub order_fit : (h : ℕ) → In h (tidy_order cs) → Fit cs h
  order_fit h m =
      let live = (order_exactly h).0 m in
      record { below = omega (arith, places, live_inside cs h live); live = live; numbers = s.numbers h live }

  -- The first of them are placed.
  pub placing_first : (before later : List ℕ) → tidy_order cs ≡ before ++ later
      → (placed : List Connection) → place_all cs before free_slots ≡ some placed → Placing cs before placed
  placing_first before later o placed e =
      placing_all cs before [] free_slots placed (λ h m. order_fit h (subst⁻¹ (In h) o (Memᴰ.append_left later m))) (placing_none cs) e

  module _ (new : List Connection) (e : arranged cs ≡ some new) where
    pub placing_arranged : Placing cs (tidy_order cs) new
    unfolding arranged
    placing_arranged = placing_all cs (tidy_order cs) [] free_slots new order_fit (placing_none cs) e

    -- Of a live connection all but the anchor is what it was; a free slot is one, of zeros; so the same are live.
    pub arranged_same : (h : ℕ) → (at cs h).live ≡ true → at new h ≡ with_anchor (at cs h) (at new h).anchor
    arranged_same h live = ⊎_elim (λ v. v.1) (λ v. absurd (v.0 ((order_exactly h).1 live))) (placing_arranged.each h)

    pub arranged_free : (h : ℕ) → (at cs h).live ≡ false → at new h ≡ nobody
    arranged_free h dead = ⊎_elim (λ v. absurd (false≢true (sym dead ∙ (order_exactly h).0 v.0))) (λ v. v.1) (placing_arranged.each h)

    pub arranged_live : (h : ℕ) → (at new h).live ≡ (at cs h).live
    arranged_live h = go (at cs h).live refl
      where
        go : (v : Bool) → (at cs h).live ≡ v → (at new h).live ≡ (at cs h).live
        go true q = ap (λ (c : Connection). c.live) (arranged_same h q)
        go false q = ap (λ (c : Connection). c.live) (arranged_free h q) ∙ sym q

    -- Each has the first anchor in node order whose whole run is free, in endless time, of those before it in the order.
    pub arranged_first : (before later : List ℕ) (h : ℕ) → tidy_order cs ≡ before ++ (h ∷ later)
        → (p : ℕ) × (p < 2 ^ (at cs h).k) × ((at new h).anchor ≡ mirrored (at cs h).k p) × FreeOf new before (at cs h).k (at cs h).length (mirrored (at cs h).k p)
        × ((q : ℕ) → q < p → FreeOf new before (at cs h).k (at cs h).length (mirrored (at cs h).k q) → ⊥)
    unfolding arranged
    arranged_first before later h o =
        let k = (at cs h).k in
        let n = (at cs h).length in
        let w = place_parts cs before (h ∷ later) free_slots new (ap (λ (l : List ℕ). place_all cs l free_slots) (sym o) ∙ e) in
        let placed = w.0 in
        let p = placing_first before (h ∷ later) o placed w.1 in
        let v = place_first cs h placed later new w.2 in
        let f = order_fit h (subst⁻¹ (In h) o (Memᴰ.append_right before (In.head refl))) in
        let inside : h < length placed = omega (arith, f.below, p.long) in
        let here : at new h ≡ with_anchor (at cs h) v.0 =
        place_others cs later (set placed h (with_anchor (at cs h) v.0)) new h v.2
        (order_once cs (before ++ (h ∷ [])) later (o ∙ sym (append_snoc before h later)) h (Memᴰ.append_right before (In.head refl)))
        ∙ at_same placed h (with_anchor (at cs h) v.0) inside in
        let free = free_exactly cs new placed before p (λ g m. place_others cs (h ∷ later) placed new g w.2 (order_once cs before (h ∷ later) o g m)) in
        let x = next_ever placed (at cs h) p.sounds f.numbers.deep v.0 v.1 in
        (x.0, x.1, ap (λ (c : Connection). c.anchor) here ∙ x.2, (free k n (mirrored k x.0)).0 x.3, λ q l r. x.4 q l ((free k n (mirrored k q)).1 r))

-- ---- one finds no anchor
-- The first of them that finds none, beside those before it.
record Halt (cs : List Connection) (hs : List ℕ) (placed : List Connection) : Type 0 where
  pub before : List ℕ
  pub handle : ℕ
  pub later : List ℕ
  pub beside : List Connection
  pub order : hs ≡ before ++ (handle ∷ later)
  pub earlier : place_all cs before placed ≡ some beside
  pub nowhere : placed_next beside (at cs handle) ≡ none

halt : (cs : List Connection) (hs : List ℕ) (placed : List Connection) → place_all cs hs placed ≡ none → Halt cs hs placed
unfolding place_all Option-elim
halt cs [] placed e = absurd (none-ne-some placed (sym e))
halt cs (h ∷ hs) placed e = go (placed_next placed (at cs h)) refl e (λ A. halt cs hs (set placed h (with_anchor (at cs h) A)))
  where
    go : (o : Option ℕ) → placed_next placed (at cs h) ≡ o → Option-elim o none (λ A. place_all cs hs (set placed h (with_anchor (at cs h) A))) ≡ none
        → ((A : ℕ) → place_all cs hs (set placed h (with_anchor (at cs h) A)) ≡ none → Halt cs hs (set placed h (with_anchor (at cs h) A))) → Halt cs (h ∷ hs) placed
    go none q e later = record { before = []; handle = h; later = hs; beside = placed; order = refl; earlier = refl; nowhere = q }
    go (some A) q e later =
        let w = later A e in
        record {
          before = h ∷ w.before;
          handle = w.handle;
          later = w.later;
          beside = w.beside;
          order = ap {B = List ℕ} (λ l. h ∷ l) w.order;
          earlier = rw q w.earlier;
          nowhere = w.nowhere;
        }

-- Some connection of the order has, beside those before it at their new anchors, no anchor below F whose whole run is free in endless time.
pub record Stuck (cs : List Connection) : Type 0 where
  pub before : List ℕ
  pub handle : ℕ
  pub later : List ℕ
  pub placed : List Connection
  pub order : tidy_order cs ≡ before ++ (handle ∷ later)
  pub earlier : place_all cs before free_slots ≡ some placed
  pub shut : (A : ℕ) → A < 2 ^ (at cs handle).k → RunFreeEver placed (at cs handle).k (at cs handle).length A → ⊥

module _ (cs : List Connection) (places : length cs ≡ handles) (s : Sound cs) where
  finds_none : (before later : List ℕ) (h : ℕ) (placed : List Connection) → tidy_order cs ≡ before ++ (h ∷ later)
      → place_all cs before free_slots ≡ some placed
      → (placed_next placed (at cs h) ≡ none) ↔ ((A : ℕ) → A < 2 ^ (at cs h).k → RunFreeEver placed (at cs h).k (at cs h).length A → ⊥)
  finds_none before later h placed o e =
      next_shut placed (at cs h) (placing_first cs places s before (h ∷ later) o placed e).sounds
      (order_fit cs places s h (subst⁻¹ (In h) o (Memᴰ.append_right before (In.head refl)))).numbers.deep

  pub stuck_exactly : (arranged cs ≡ none) ↔ Stuck cs
  unfolding arranged place_all Option-elim
  stuck_exactly = (
    λ e.
        let w = halt cs (tidy_order cs) free_slots e in
        record {
          before = w.before;
          handle = w.handle;
          later = w.later;
          placed = w.beside;
          order = w.order;
          earlier = w.earlier;
          shut = (finds_none w.before w.later w.handle w.beside w.order w.earlier).0 w.nowhere;
        },
    λ t.
        let q = (finds_none t.before t.later t.handle t.placed t.order t.earlier).1 t.shut in
        ap (λ (l : List ℕ). place_all cs l free_slots) t.order
        ∙ place_then cs t.before (t.handle ∷ t.later) free_slots t.placed t.earlier
        ∙ rw q refl,
  )
