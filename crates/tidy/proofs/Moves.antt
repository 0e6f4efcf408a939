-- The moves of the first h handles, counted and written.
use mathlib.Core.Path.{◌≡◌, refl, sym, ap, ◌∙◌}
use mathlib.Core.Bool.{Bool, true, false, ◌&&◌, cond}
use mathlib.Core.List.{List, [], ◌∷◌, ◌++◌, map, map-append, append_assoc, append-nil}
use Prim.Native.Nat.{ℕ, zero, suc, ◌+◌, ◌*◌, ◌<◌, ◌≤◌}
use native.Mathlib.Numerals.{add-one}
use native.Mathlib.Omega.{arith}
use lib.ListN.{length, length-append, length-map}
use lib.Seq.{sets}
use Rattle.std.specs.List.{filter, zip}
use Rattle.rules.specs.declared.Connection.{Connection}
use Rattle.rules.specs.Below.{in_turn, those}
use Rattle.rules.specs.Ownership.{handles}
use Rattle.rules.specs.Lent.{over}
use Rattle.rules.specs.Tidy.{Move, differs, has_moved, movers, move_of, moves, move_width, entry_of, entries}
use Rattle.basics.proofs.BelowLaws.{those_more, those_same, those_first, those_most}
use Rattle.basics.proofs.LentLaws.{over_more, over_length}
use Rattle.calls.proofs.MoveLaws.{entries_length}
use Rattle.tidy.specs.Promises.{Counts, PutsMove}

-- The first of those that have moved,
abbrev pub first_movers : List Connection → List Connection → ℕ → List ℕ
first_movers old new h = those h (has_moved old new)

-- and their numbers in the list.
abbrev pub first_entries : List Connection → List Connection → ℕ → List ℕ
first_entries old new h = entries (map (move_of old new) (first_movers old new h))

-- ---- how many have moved
-- Whether a pair of connections has other anchors.
abbrev pub pair_moved : Connection × Connection → Bool
pair_moved p = p.0.live && differs p.0 p.1

-- The first of the numbers, then those after it.
those_from_first : (n : ℕ) (f : ℕ → Bool) → length (those (suc n) f) ≡ cond (f 0) 1 0 + length (those n (λ i. f (suc i)))
unfolding those in_turn
those_from_first zero f = go (f 0)
  where
    go : (v : Bool) → length {A = ℕ} (cond v (0 ∷ []) []) ≡ cond v 1 0 + 0
    go true = refl
    go false = refl
those_from_first (suc n) f = go (f (suc n)) (those_from_first n f)
  where
    go : (v : Bool) → length (those (suc n) f) ≡ cond (f 0) 1 0 + length (those n (λ i. f (suc i)))
        → length (those (suc n) f ++ cond v (suc n ∷ []) []) ≡ cond (f 0) 1 0 + length (those n (λ i. f (suc i)) ++ cond v (n ∷ []) [])
    go true e = omega (arith, e, length-append (those (suc n) f) (suc n ∷ []), length-append (those n (λ i. f (suc i))) (n ∷ []))
    go false e = rw (append-nil (those (suc n) f), append-nil (those n (λ i. f (suc i)))) e

-- As many pairs as handles.
pairs_moved : (old new : List Connection) → length new ≡ length old → length (filter pair_moved (zip old new)) ≡ length (those (length old) (has_moved old new))
unfolding those in_turn
pairs_moved [] new e = refl
pairs_moved (c ∷ cs) [] e = absurd (omega arith)
pairs_moved (c ∷ cs) (d ∷ ds) e = go (pair_moved (c, d)) (pairs_moved cs ds (omega arith)) ∙ sym (those_from_first (length cs) (has_moved (c ∷ cs) (d ∷ ds)))
  where
    go : (v : Bool) → length (filter pair_moved (zip cs ds)) ≡ length (those (length cs) (has_moved cs ds))
        → length (cond v ((c, d) ∷ filter pair_moved (zip cs ds)) (filter pair_moved (zip cs ds))) ≡ cond v 1 0 + length (those (length cs) (has_moved cs ds))
    go true later = omega arith
    go false later = omega arith

pub counted : (old new : List Connection) {n : ℕ} → length old ≡ handles → length new ≡ handles → n ≡ length (filter pair_moved (zip old new)) → Counts old new n
unfolding movers
counted old new {n} p q e =
    let is : n ≡ length (those handles (has_moved old new)) = rw p at (e ∙ pairs_moved old new (q ∙ sym p)) in
    record { is = is; few = omega (arith, is, those_most handles (has_moved old new)) }

-- ---- how many numbers there are
entries_append : (xs ys : List Move) → entries (xs ++ ys) ≡ entries xs ++ entries ys
unfolding entries
entries_append [] ys = refl
entries_append (m ∷ xs) ys = ap (λ (l : List ℕ). entry_of m ++ l) (entries_append xs ys) ∙ sym (append_assoc (entry_of m) (entries xs) (entries ys))

-- The entries of the first movers are no more numbers than those of all.
pub first_fit : (old new : List Connection) (h : ℕ) → h ≤ handles → length (first_entries old new h) ≤ move_width * length (movers old new)
unfolding movers
first_fit old new h l =
    let w = those_first h handles (has_moved old new) l in
    omega (
      arith,
      entries_length (map (move_of old new) (first_movers old new h)),
      length-map (first_movers old new h) (move_of old new),
      ap (λ (x : List ℕ). length x) w.1,
      length-append (first_movers old new h) w.0,
    )

pub first_few : (old new : List Connection) (h : ℕ) → h ≤ handles → length (first_entries old new h) ≤ move_width * handles
unfolding movers
first_few old new h l = omega (arith, first_fit old new h l, those_most handles (has_moved old new))

-- ---- one handle more
module _ (old new : List Connection) (h : ℕ) where
  movers_moved : has_moved old new h ≡ true → first_movers old new (h + 1) ≡ first_movers old new h ++ (h ∷ [])
  movers_moved e = rw (add-one h) (those_more h (has_moved old new) e)

  movers_kept : has_moved old new h ≡ false → first_movers old new (h + 1) ≡ first_movers old new h
  movers_kept e = rw (add-one h) (those_same h (has_moved old new) e)

  pub entries_kept : has_moved old new h ≡ false → first_entries old new h ≡ first_entries old new (h + 1)
  entries_kept e = sym (ap (λ (x : List ℕ). entries (map (move_of old new) x)) (movers_kept e))

  pub entries_moved : has_moved old new h ≡ true → first_entries old new h ++ entry_of (move_of old new h) ≡ first_entries old new (h + 1)
  unfolding entries
  entries_moved e =
      sym
      (ap (λ (x : List ℕ). entries (map (move_of old new) x)) (movers_moved e)
      ∙ ap entries (map-append (move_of old new) (first_movers old new h) (h ∷ []))
      ∙ entries_append (map (move_of old new) (first_movers old new h)) (move_of old new h ∷ []))

-- All of them.
pub written : (old new : List Connection) {list : List ℕ} (entry : List ℕ) → list ≡ over (first_entries old new handles) entry → list ≡ over (entries (moves old new)) entry
unfolding moves movers
written old new entry e = e

-- ---- an entry more
-- The numbers of one handle's move follow those of the handles before it, and are as many as there are from one to the next.
module _ (old new : List Connection) (h place : ℕ) (entry list : List ℕ) (l : h < handles) (room : move_width * length (movers old new) ≤ length entry)
    (moved : has_moved old new h ≡ true) (e : place ≡ length (first_entries old new h)) (q : list ≡ over (first_entries old new h) entry) where
  one_more : length (first_entries old new (h + 1)) ≡ place + move_width
  one_more = omega (arith, ap (λ (x : List ℕ). length x) (entries_moved old new h moved), length-append (first_entries old new h) (entry_of (move_of old new h)))

  pub move_fits : place + move_width ≤ length list
  move_fits =
      let n = first_fit old new (h + 1) (omega arith) in
      omega (arith, one_more, ap (λ (x : List ℕ). length x) q, over_length (first_entries old new h) entry (omega (arith, one_more)))

  pub move_ends : place + move_width ≡ length (first_entries old new (h + 1))
  move_ends = sym one_more

  pub move_put : (exit : List ℕ) → PutsMove place (move_of old new h) list exit → exit ≡ over (first_entries old new (h + 1)) entry
  move_put exit p =
      let m = move_of old new h in
      let n = first_fit old new (h + 1) (omega arith) in
      p
      ∙ ap (λ (x : List ℕ). sets x place (entry_of m)) q
      ∙ ap (λ (i : ℕ). sets (over (first_entries old new h) entry) i (entry_of m)) e
      ∙ over_more (first_entries old new h) entry (entry_of m) (omega (arith, one_more))
      ∙ ap (λ (x : List ℕ). over x entry) (entries_moved old new h moved)
