-- The laws of what there is for each live connection, whatever it is.
use mathlib.Core.Path.{◌≡◌, refl, sym, ap, ◌∙◌}
use mathlib.Core.Bool.{Bool, true, false, cond}
use mathlib.Core.List.{List, [], ◌∷◌, ◌++◌, append-nil}
use Prim.Native.Nat.{ℕ, suc, ◌+◌, ◌<◌, ◌≤◌}
use Rattle.std.specs.List.{filter}
use native.Mathlib.Nat.{add-zero}
use native.Mathlib.Numerals.{add-one}
use native.Mathlib.Omega.{arith}
use lib.ListN.{length, take, drop, length-append, length-take, take-append-drop}
use lib.Seq.{take-suc}
use Rattle.rules.specs.declared.Connection.{Connection}
use Rattle.rules.specs.Ownership.{nobody, at}
use Rattle.rules.specs.Handles.{each_live}

-- How many connections are live.
unfoldable pub live_count : List Connection → ℕ
live_count [] = 0
live_count (c ∷ cs) = cond c.live 1 0 + live_count cs

-- As many as pass the test.
pub count_filter : (cs : List Connection) → length (filter (λ (c : Connection). c.live) cs) ≡ live_count cs
unfolding live_count
count_filter [] = refl
count_filter (c ∷ cs) = go c.live (count_filter cs)
  where
    go : (v : Bool) → length (filter (λ (d : Connection). d.live) cs) ≡ live_count cs
        → length (cond v (c ∷ filter (λ (d : Connection). d.live) cs) (filter (λ (d : Connection). d.live) cs)) ≡ cond v 1 0 + live_count cs
    go true later = omega arith
    go false later = omega arith

-- At most as many as there are slots.
pub count_most : (cs : List Connection) → live_count cs ≤ length cs
unfolding live_count
count_most [] = omega arith
count_most (c ∷ cs) = go c.live (count_most cs)
  where
    go : (v : Bool) → live_count cs ≤ length cs → cond v 1 0 + live_count cs ≤ suc (length cs)
    go true later = omega arith
    go false later = omega arith

module _ {ℓ} {A : Type ℓ} (f : ℕ → Connection → A) where
  -- There are as many as live connections.
  pub each_count : (h : ℕ) (cs : List Connection) → length (each_live f h cs) ≡ live_count cs
  unfolding each_live live_count
  each_count h [] = refl
  each_count h (c ∷ cs) = go c.live (each_count (suc h) cs)
    where
      go : (v : Bool) → length (each_live f (suc h) cs) ≡ live_count cs → length (cond v (f h c ∷ each_live f (suc h) cs) (each_live f (suc h) cs)) ≡ cond v 1 0 + live_count cs
      go true later = omega arith
      go false later = omega arith

  -- They go on where the handles go on.
  pub each_append : (h : ℕ) (xs ys : List Connection) → each_live f h (xs ++ ys) ≡ each_live f h xs ++ each_live f (h + length xs) ys
  unfolding each_live
  each_append h [] ys = ap (λ (g : ℕ). each_live f g ys) (sym (add-zero h))
  each_append h (x ∷ xs) ys =
      let e : suc h + length xs ≡ h + suc (length xs) = omega arith in
      go x.live (each_append (suc h) xs ys ∙ ap (λ (g : ℕ). each_live f (suc h) xs ++ each_live f g ys) e)
    where
      go : (v : Bool) → each_live f (suc h) (xs ++ ys) ≡ each_live f (suc h) xs ++ each_live f (h + suc (length xs)) ys
          → cond v (f h x ∷ each_live f (suc h) (xs ++ ys)) (each_live f (suc h) (xs ++ ys))
          ≡ cond v (f h x ∷ each_live f (suc h) xs) (each_live f (suc h) xs) ++ each_live f (h + suc (length xs)) ys
      go true later = ap {B = List A} (λ l. f h x ∷ l) later
      go false later = later

  module _ (cs : List Connection) (h : ℕ) (l : h < length cs) where
    each_turn : each_live f 0 (take (h + 1) cs) ≡ each_live f 0 (take h cs) ++ each_live f h (at cs h ∷ [])
    each_turn =
        let n : 0 + length (take h cs) ≡ h = simp length-take (omega arith) in
        rw (add-one h) (ap (each_live f 0) (take-suc cs h nobody l)
        ∙ each_append 0 (take h cs) (at cs h ∷ [])
        ∙ ap (λ (g : ℕ). each_live f 0 (take h cs) ++ each_live f g (at cs h ∷ [])) n)

    -- One connection more: there is one more if it is live.
    pub each_live_lem : (at cs h).live ≡ true → each_live f 0 (take (h + 1) cs) ≡ each_live f 0 (take h cs) ++ (f h (at cs h) ∷ [])
    unfolding each_live
    each_live_lem e = rw e at each_turn

    pub each_dead : (at cs h).live ≡ false → each_live f 0 (take (h + 1) cs) ≡ each_live f 0 (take h cs)
    unfolding each_live
    each_dead e = rw (e, append-nil (each_live f 0 (take h cs))) at each_turn

    pub count_live : (at cs h).live ≡ true → length (each_live f 0 (take (h + 1) cs)) ≡ length (each_live f 0 (take h cs)) + 1
    count_live e = ap {B = ℕ} length (each_live_lem e) ∙ length-append (each_live f 0 (take h cs)) (f h (at cs h) ∷ [])

    pub count_dead : (at cs h).live ≡ false → length (each_live f 0 (take (h + 1) cs)) ≡ length (each_live f 0 (take h cs))
    count_dead e = ap {B = ℕ} length (each_dead e)

  -- For the first connections there are no more than for all.
  pub each_first : (cs : List Connection) (h : ℕ) → each_live f 0 cs ≡ each_live f 0 (take h cs) ++ each_live f (0 + length (take h cs)) (drop h cs)
  each_first cs h = ap (each_live f 0) (sym (take-append-drop h cs)) ∙ each_append 0 (take h cs) (drop h cs)

  pub each_most : (cs : List Connection) (h : ℕ) → length (each_live f 0 (take h cs)) ≤ length (each_live f 0 cs)
  each_most cs h =
      rw (each_first cs h) (omega (arith, length-append (each_live f 0 (take h cs)) (each_live f (0 + length (take h cs)) (drop h cs))))

  -- There is room for one more where the next is live.
  pub count_room : (cs : List Connection) (h : ℕ) → h < length cs → (at cs h).live ≡ true → length (each_live f 0 (take h cs)) + 1 ≤ length (each_live f 0 cs)
  count_room cs h l e = rw (count_live cs h l e) at (each_most cs (h + 1))
