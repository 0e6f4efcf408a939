-- The records of an image taken one after the other.
use mathlib.Core.Path.{◌≡◌, refl, sym, ap, ◌∙◌, subst}
use mathlib.Core.Bool.{Bool, true, false, ◌&&◌, false≢true}
use mathlib.Core.Logic.{◌≢◌, by_cases}
use mathlib.Core.List.{List, [], ◌∷◌, ◌++◌, map}
use Prim.Native.Nat.{ℕ, zero, suc, ◌+◌, ◌%◌, ◌^◌, ◌<◌, ◌≤◌}
use native.Mathlib.Decide.{ℕ_discrete}
use native.Mathlib.Omega.{arith}
use lib.Pow.{pow_pos}
use lib.ListN.{length, take, set, length-set, length-replicate}
use lib.Seq.{take-suc, set_comm}
use lib.Dec.{ltb}
use borrow.Author.Tests.{lt-ltb, ltb-true}
use Rattle.rules.specs.declared.Connection.{Connection}
use Rattle.rules.specs.Time.{minus_mod}
use Rattle.rules.specs.Ownership.{handles, largest_k, nobody, free_slots, at, owns, taken}
use Rattle.rules.specs.Classes.{run_free}
use Rattle.blocks.specs.Taking.{set_run}
use Rattle.rules.specs.TreeBytes.{tree_of}
use Rattle.rules.specs.Sound.{sound_numbers, all_sound, apart, sound_connections, Numbers}
use Rattle.rules.specs.Good.{tree_for}
use Rattle.rules.specs.Records.{Piece}
use Rattle.rules.specs.Fields.{handle_in, connection_in}
use Rattle.rules.specs.Load.{all_numbers_within, rising, records_within, at_handles}
use Rattle.basics.proofs.BoolLaws.{both, is_false}
use Rattle.blocks.proofs.ClassLaws.{within_depth}
use Rattle.blocks.proofs.EndlessTime.{minus_mod_only}
use Rattle.blocks.proofs.SoundLaws.{numbers_sound, Sound, sound_exactly, all_sound_of}
use Rattle.blocks.proofs.ScheduleLaws.{at_free, nobody_owns, free_sound, at_same, at_other, live_runs, RunFreeEver, run_ever, joined_sound, joined_tree}
use Rattle.images.proofs.RisingLaws.{sound_from, sound_from_lem, rising_exactly}
use Rattle.images.proofs.PieceLaws.{nth}

-- ---- what the records restore
pub restored_length : (rs : List Piece) → length (at_handles rs) ≡ handles
unfolding at_handles
restored_length [] = length-replicate handles nobody
restored_length (r ∷ rs) = length-set (at_handles rs) (handle_in r) (connection_in r) ∙ restored_length rs

-- Every connection has sound numbers.
pub restored_numbers : (rs : List Piece) → all_numbers_within largest_k rs ≡ true → (h : ℕ) → (at (at_handles rs) h).live ≡ true → Numbers (at (at_handles rs) h)
unfolding at_handles all_numbers_within
restored_numbers [] e h l = absurd (false≢true (sym (ap (λ (c : Connection). c.live) (at_free handles h)) ∙ l))
restored_numbers (r ∷ rs) e h l =
    let p = both (ltb (handle_in r) handles && sound_numbers (connection_in r)) (all_numbers_within largest_k rs) e in
    let s = both (ltb (handle_in r) handles) (sound_numbers (connection_in r)) p.0 in
    by_cases (ℕ_discrete h (handle_in r))
    (λ q.
    subst Numbers
    (sym (ap (at (set (at_handles rs) (handle_in r) (connection_in r))) q ∙ at_same (at_handles rs) (handle_in r) (connection_in r) (omega (arith, ltb-true (handle_in r) handles s.0, restored_length rs))))
    ((numbers_sound (connection_in r)).0 s.1))
    (λ q.
    let other = at_other (at_handles rs) (handle_in r) (connection_in r) h q in
    subst Numbers (sym other) (restored_numbers rs p.1 h (ap (λ (c : Connection). c.live) (sym other) ∙ l)))

all_numbers : (rs : List Piece) → records_within largest_k rs ≡ true → all_numbers_within largest_k rs ≡ true
unfolding records_within
all_numbers rs e = (both (all_numbers_within largest_k rs) (rising (map handle_in rs)) e).0

-- Sound is apart, where the records are sound.
sound_apart : (rs : List Piece) → records_within largest_k rs ≡ true → sound_connections (at_handles rs) ≡ apart (at_handles rs)
unfolding sound_connections
sound_apart rs e = ap (λ (v : Bool). v && apart (at_handles rs)) (all_sound_of (at_handles rs) (restored_numbers rs (all_numbers rs e)))

-- ---- one record more, after the others
-- The handles rise: it is placed where nobody is, whether first or last.
record Added (g : ℕ) (xs : List Piece) (r : Piece) : Type 0 where
  pub earlier : sound_from largest_k g xs ≡ true
  pub above : g ≤ handle_in r
  pub below : handle_in r < handles
  pub numbers : sound_numbers (connection_in r) ≡ true
  pub unused : at (at_handles xs) (handle_in r) ≡ nobody
  pub placed : at_handles (xs ++ (r ∷ [])) ≡ set (at_handles xs) (handle_in r) (connection_in r)

added : (g : ℕ) (xs : List Piece) (r : Piece) → sound_from largest_k g (xs ++ (r ∷ [])) ≡ true → Added g xs r
unfolding at_handles sound_from
added g [] r e =
    let p = (rising_exactly largest_k g r []).0 e in
    record { earlier = refl; above = p.above; below = p.below; numbers = p.numbers; unused = at_free handles (handle_in r); placed = refl }
added g (x ∷ xs) r e =
    let p = (rising_exactly largest_k g x (xs ++ (r ∷ []))).0 e in
    let q = added (suc (handle_in x)) xs r p.later in
    record {
      earlier = (rising_exactly largest_k g x xs).1 (record { below = p.below; above = p.above; numbers = p.numbers; later = q.earlier });
      above = omega (arith, p.above, q.above);
      below = q.below;
      numbers = q.numbers;
      unused = at_other (at_handles xs) (handle_in x) (connection_in x) (handle_in r) (λ z. omega (arith, q.above)) ∙ q.unused;
      placed =
          ap (λ (cs : List Connection). set cs (handle_in x) (connection_in x)) q.placed
          ∙ set_comm (at_handles xs) (handle_in r) (handle_in x) (connection_in r) (connection_in x) (λ z. omega (arith, q.above));
    }

module _ (xs : List Piece) (r : Piece) (e : records_within largest_k (xs ++ (r ∷ [])) ≡ true) where
  one_more : Added 0 xs r
  one_more = added 0 xs r (sym (sound_from_lem largest_k (xs ++ (r ∷ []))) ∙ e)

  -- The records before it are sound too.
  pub sound_earlier : records_within largest_k xs ≡ true
  sound_earlier = sound_from_lem largest_k xs ∙ one_more.earlier

  pub handle_here : handle_in r < handles
  handle_here = one_more.below

  pub numbers_here : Numbers (connection_in r)
  numbers_here = (numbers_sound (connection_in r)).0 one_more.numbers

  pub placed_here : at_handles (xs ++ (r ∷ [])) ≡ set (at_handles xs) (handle_in r) (connection_in r)
  placed_here = one_more.placed

  inside : handle_in r < length (at_handles xs)
  inside = omega (arith, handle_here, restored_length xs)

  -- Whoever owns a block has another handle.
  owner_other : (j b : ℕ) → owns (at (at_handles xs) j) b ≡ true → j ≢ handle_in r
  owner_other j b o q =
      false≢true (sym (ap (λ (x : Connection). owns x b) (ap (at (at_handles xs)) q ∙ one_more.unused) ∙ nobody_owns b) ∙ o)

  -- And owns it still.
  owner_still : (j b : ℕ) → owns (at (at_handles xs) j) b ≡ true → owns (at (at_handles (xs ++ (r ∷ []))) j) b ≡ true
  owner_still j b o =
      ap (λ (cs : List Connection). owns (at cs j) b) placed_here
      ∙ ap (λ (x : Connection). owns x b) (at_other (at_handles xs) (handle_in r) (connection_in r) j (owner_other j b o)) ∙ o

  -- It owns the blocks of its run.
  owns_here : (j b : ℕ) → j < (connection_in r).length → b % 2 ^ (connection_in r).k ≡ ((connection_in r).anchor + j) % 2 ^ (connection_in r).k
      → owns (at (at_handles (xs ++ (r ∷ []))) (handle_in r)) b ≡ true
  unfolding connection_in
  owns_here j b l m =
      let c = connection_in r in
      let n = numbers_here in
      let small : j < 2 ^ c.k = omega (arith, n.ceiled, n.whole) in
      let q : minus_mod b c.anchor (2 ^ c.k) ≡ j = minus_mod_only b c.anchor (2 ^ c.k) (pow_pos c.k) j small m in
      ap (λ (cs : List Connection). owns (at cs (handle_in r)) b) placed_here
      ∙ ap (λ (x : Connection). owns x b) (at_same (at_handles xs) (handle_in r) c inside)
      ∙ live_runs c refl b ∙ lt-ltb (minus_mod b c.anchor (2 ^ c.k)) c.length (omega arith)

  -- Where the whole is apart, the records before it are.
  apart_earlier : apart (at_handles (xs ++ (r ∷ []))) ≡ true → apart (at_handles xs) ≡ true
  apart_earlier a =
      let s = (sound_exactly (at_handles (xs ++ (r ∷ [])))).0 (sound_apart (xs ++ (r ∷ [])) e ∙ a) in
      let earlier : Sound (at_handles xs) = record {
        numbers = restored_numbers xs (all_numbers xs sound_earlier);
        apart_ever = λ b i j x y. s.apart_ever b i j (owner_still i b x) (owner_still j b y);
      } in
      sym (sound_apart xs sound_earlier) ∙ (sound_exactly (at_handles xs)).1 earlier

  -- Where they clash, the whole does.
  pub clash_earlier : apart (at_handles xs) ≡ false → apart (at_handles (xs ++ (r ∷ []))) ≡ false
  clash_earlier a = is_false (apart (at_handles (xs ++ (r ∷ [])))) (λ w. false≢true (sym a ∙ apart_earlier w))

  module _ (a : apart (at_handles xs) ≡ true) where
    sound_still : sound_connections (at_handles xs) ≡ true
    sound_still = sound_apart xs sound_earlier ∙ a

    -- Its run is free: the whole is apart.
    pub run_apart : run_free (taken (at_handles xs)) (connection_in r).k (connection_in r).anchor (connection_in r).length ≡ true → apart (at_handles (xs ++ (r ∷ []))) ≡ true
    unfolding connection_in
    run_apart f =
        let s = joined_sound (at_handles xs) (handle_in r) inside (connection_in r) refl ((sound_exactly (at_handles xs)).0 sound_still) numbers_here f in
        sym (sound_apart (xs ++ (r ∷ [])) e) ∙ ap sound_connections placed_here ∙ (sound_exactly (set (at_handles xs) (handle_in r) (connection_in r))).1 s

    -- Its run is not free: the whole is not apart.
    pub run_clash : run_free (taken (at_handles xs)) (connection_in r).k (connection_in r).anchor (connection_in r).length ≡ false → apart (at_handles (xs ++ (r ∷ []))) ≡ false
    run_clash f =
        let c = connection_in r in
        is_false (apart (at_handles (xs ++ (r ∷ [])))) (λ w.
        let s = (sound_exactly (at_handles (xs ++ (r ∷ [])))).0 (sound_apart (xs ++ (r ∷ [])) e ∙ w) in
        let ever : RunFreeEver (at_handles xs) c.k c.length c.anchor =
        λ j l b h m.
        is_false (owns (at (at_handles xs) h) b) (λ o.
        owner_other h b o (s.apart_ever b h (handle_in r) (owner_still h b o) (owns_here j b l m))) in
        false≢true (sym f ∙ (run_ever (at_handles xs) c.k c.length c.anchor sound_still (within_depth numbers_here.deep)).1 ever))

  -- The tree with its run is that of the whole.
  pub run_tree : tree_of (set_run (connection_in r).k (connection_in r).anchor 0 (connection_in r).length true (taken (at_handles xs))) ≡ tree_for (at_handles (xs ++ (r ∷ [])))
  unfolding connection_in
  run_tree =
      joined_tree (at_handles xs) (handle_in r) inside (connection_in r) refl (ap (λ (x : Connection). x.live) one_more.unused) ∙ ap tree_for (sym placed_here)

-- ---- the first i of the records
sound_first_from : (h : ℕ) (rs : List Piece) (i : ℕ) → sound_from largest_k h rs ≡ true → sound_from largest_k h (take i rs) ≡ true
unfolding sound_from
sound_first_from h [] zero e = refl
sound_first_from h [] (suc i) e = refl
sound_first_from h (r ∷ rs) zero e = refl
sound_first_from h (r ∷ rs) (suc i) e =
    let p = (rising_exactly largest_k h r rs).0 e in
    (rising_exactly largest_k h r (take i rs)).1 (record { below = p.below; above = p.above; numbers = p.numbers; later = sound_first_from (suc (handle_in r)) rs i p.later })

module _ (rs : List Piece) (e : records_within largest_k rs ≡ true) where
  -- They are sound too.
  pub sound_first : (i : ℕ) → records_within largest_k (take i rs) ≡ true
  sound_first i = sound_from_lem largest_k (take i rs) ∙ sound_first_from 0 rs i (sym (sound_from_lem largest_k rs) ∙ e)

  -- And so they are with the one after them.
  pub sound_next : (i : ℕ) → i < length rs → records_within largest_k (take i rs ++ (nth rs i ∷ [])) ≡ true
  sound_next i l = ap (records_within largest_k) (sym (take-suc rs i _ l)) ∙ sound_first (suc i)

  -- Where they clash, more do.
  pub clash_first : (n i : ℕ) → i ≤ n → n ≤ length rs → apart (at_handles (take i rs)) ≡ false → apart (at_handles (take n rs)) ≡ false
  clash_first zero i l m a = let q : i ≡ 0 = omega arith in subst (λ (k : ℕ). apart (at_handles (take k rs)) ≡ false) q a
  clash_first (suc n) i l m a =
      by_cases (ℕ_discrete i (suc n))
      (λ q. subst (λ (k : ℕ). apart (at_handles (take k rs)) ≡ false) q a)
      (λ q.
      ap (λ (xs : List Piece). apart (at_handles xs)) (take-suc rs n _ m)
      ∙ clash_earlier (take n rs) (nth rs n) (sound_next n m) (clash_first n i (omega arith) (omega arith) a))

-- ---- no record
pub apart_none : apart (at_handles []) ≡ true
unfolding sound_connections at_handles
apart_none = (both (all_sound free_slots) (apart free_slots) ((sound_exactly free_slots).1 (free_sound handles))).1
