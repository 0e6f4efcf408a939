-- What becomes of a schedule when the connection of one handle changes.
use mathlib.Core.Path.{◌≡◌, refl, sym, ap, ap₂, ◌∙◌, subst}
use mathlib.Core.Bool.{Bool, true, false, ◌||◌, ◌&&◌, cond, or-true, false≢true}
use mathlib.Core.Logic.{◌≢◌, by_cases, ◌↔◌}
use mathlib.Core.List.{List}
use Prim.Native.Nat.{ℕ, zero, suc, ◌+◌, ◌%◌, ◌^◌, ◌<◌, ◌≤◌}
use native.Mathlib.Nat.{mod-lt}
use native.Mathlib.Decide.{ℕ_discrete, dec_le}
use native.Mathlib.Omega.{arith}
use lib.Pow.{pow_pos}
use lib.Dec.{leb, ltb}
use lib.ListN.{length, set, replicate, length-set, get_or-eq_default}
use lib.Seq.{get_or-set_same, get_or-set_other, set-get_or}
use borrow.Author.Tests.{le-leb, lt-leb, lt-ltb, le-ltb, ltb-true}
use Rattle.rules.specs.declared.Connection.{Connection}
use Rattle.rules.specs.declared.Schedule.{Schedule}
use Rattle.rules.specs.Time.{minus_mod}
use Rattle.rules.specs.Ownership.{handles, nobody, free_slots, at, belongs, owns, taken}
use Rattle.rules.specs.Classes.{depth, run_free}
use Rattle.blocks.specs.Taking.{nothing, set_run}
use Rattle.rules.specs.TreeBytes.{tree_of}
use Rattle.rules.specs.Good.{Good, FreeSlotsZero, tree_for, fresh, with_connections, with_connection}
use Rattle.rules.specs.Handles.{connection, is_live}
use Rattle.basics.proofs.BoolLaws.{bool_iff, is_false}
use Rattle.basics.proofs.BelowLaws.{every_at, every_of}
use Rattle.blocks.proofs.EndlessTime.{minus_mod_back}
use Rattle.blocks.proofs.ClassLaws.{within_depth}
use Rattle.blocks.proofs.TreeLaws.{tree_ext}
use Rattle.rules.specs.Sound.{Numbers, sound_connections, sound}
use Rattle.blocks.proofs.SoundLaws.{Sound, sound_exactly, class_free_ever, taken_at, taken_of, good_connections, connected_good}

-- ---- nobody
-- Of free slots each is one,
pub at_free : (n h : ℕ) → at (replicate n nobody) h ≡ nobody
at_free zero h = refl
at_free (suc n) zero = refl
at_free (suc n) (suc h) = at_free n h

pub nobody_owns : (b : ℕ) → owns nobody b ≡ false
unfolding owns
nobody_owns b = refl

-- and they are sound, and take nothing.
pub free_sound : (n : ℕ) → Sound (replicate n nobody)
free_sound n = record {
  numbers = λ h l. absurd (false≢true (sym (ap (λ (c : Connection). c.live) (at_free n h)) ∙ l));
  apart_ever = λ b h j x y. absurd (false≢true (sym (ap (λ (c : Connection). owns c b) (at_free n h) ∙ nobody_owns b) ∙ x));
}

pub taken_nobody : (n b : ℕ) → taken (replicate n nobody) b ≡ false
unfolding taken
taken_nobody zero b = refl
taken_nobody (suc n) b = ap₂ ◌||◌ (nobody_owns b) (taken_nobody n b)

pub fresh_tree : tree_of nothing ≡ tree_for free_slots
unfolding tree_for
fresh_tree = tree_ext nothing (taken free_slots) (λ b l. sym (taken_nobody handles b))

pub fresh_is_good : Good fresh
unfolding fresh sound
fresh_is_good = record { places = refl; is_sound = refl; has_tree = refl }

-- ---- the connection of one handle becomes c
module _ (cs : List Connection) (h : ℕ) (c : Connection) where
  pub at_same : h < length cs → at (set cs h c) h ≡ c
  at_same l = get_or-set_same cs h c nobody l

  pub at_other : (j : ℕ) → j ≢ h → at (set cs h c) j ≡ at cs j
  at_other j n = get_or-set_other cs h j c nobody n

-- What the connections of the other handles take.
abbrev pub others : List Connection → ℕ → ℕ → Bool
others cs h b = taken (set cs h nobody) b

module _ (cs : List Connection) (h : ℕ) (l : h < length cs) where
  -- Another handle's block is the others'.
  pub others_of : (j b : ℕ) → j ≢ h → owns (at cs j) b ≡ true → others cs h b ≡ true
  others_of j b n e = taken_of (set cs h nobody) j b (ap (λ (x : Connection). owns x b) (at_other cs h nobody j n) ∙ e)

  pub others_at : (b : ℕ) → others cs h b ≡ true → (j : ℕ) × (j ≢ h) × (owns (at cs j) b ≡ true)
  others_at b e =
      let w = taken_at (set cs h nobody) b e in
      let n : w.0 ≢ h = λ q. false≢true (sym (ap (λ (x : Connection). owns x b) (ap (at (set cs h nobody)) q ∙ at_same cs h nobody l) ∙ nobody_owns b) ∙ w.1) in
      (w.0, n, ap (λ (x : Connection). owns x b) (sym (at_other cs h nobody w.0 n)) ∙ w.1)

  pub taken_set : (c : Connection) (b : ℕ) → taken (set cs h c) b ≡ owns c b || others cs h b
  taken_set c b = bool_iff (taken (set cs h c) b) (owns c b || others cs h b) to (from (owns c b) refl)
    where
      to : taken (set cs h c) b ≡ true → owns c b || others cs h b ≡ true
      to e =
          let w = taken_at (set cs h c) b e in
          by_cases (ℕ_discrete w.0 h)
          (λ q. ap (λ (v : Bool). v || others cs h b) (ap (λ (x : Connection). owns x b) (sym (ap (at (set cs h c)) q ∙ at_same cs h c l)) ∙ w.1))
          (λ q. ap (λ (v : Bool). owns c b || v) (others_of w.0 b q (ap (λ (x : Connection). owns x b) (sym (at_other cs h c w.0 q)) ∙ w.1)) ∙ or-true (owns c b))

      from : (v : Bool) → owns c b ≡ v → v || others cs h b ≡ true → taken (set cs h c) b ≡ true
      from true q e = taken_of (set cs h c) h b (ap (λ (x : Connection). owns x b) (at_same cs h c l) ∙ q)
      from false q e =
          let w = others_at b e in
          taken_of (set cs h c) w.0 b (ap (λ (x : Connection). owns x b) (at_other cs h c w.0 w.1) ∙ w.2)

  pub taken_split : (b : ℕ) → taken cs b ≡ owns (at cs h) b || others cs h b
  taken_split b = ap (λ (l : List Connection). taken l b) (sym (set-get_or cs h nobody)) ∙ taken_set (at cs h) b

  -- In a sound schedule what belongs to the handle belongs to no other.
  pub others_apart : Sound cs → (b : ℕ) → owns (at cs h) b ≡ true → others cs h b ≡ false
  others_apart s b e = is_false (others cs h b) (λ t. let w = others_at b t in w.1 (s.apart_ever b w.0 h w.2 e))

  -- Sound connections stay sound where the new one has sound numbers and no block of the others.
  pub sound_set : Sound cs → (c : Connection) → (c.live ≡ true → Numbers c) → ((b : ℕ) → owns c b ≡ true → others cs h b ≡ false) → Sound (set cs h c)
  sound_set s c n free =
      record {
        numbers = λ j live.
            by_cases (ℕ_discrete j h)
            (λ q. subst Numbers (sym (here j q)) (n (ap (λ (x : Connection). x.live) (sym (here j q)) ∙ live)))
            (λ q. subst Numbers (sym (at_other cs h c j q)) (s.numbers j (ap (λ (x : Connection). x.live) (sym (at_other cs h c j q)) ∙ live)));
        apart_ever = λ b i j x y.
            by_cases (ℕ_discrete i h)
            (λ p. by_cases (ℕ_discrete j h)
            (λ q. p ∙ sym q)
            (λ q. absurd (clash b j q (owned b i p x) (owned' b j q y))))
            (λ p. by_cases (ℕ_discrete j h)
            (λ q. absurd (clash b i p (owned b j q y) (owned' b i p x)))
            (λ q. s.apart_ever b i j (owned' b i p x) (owned' b j q y)));
      }
    where
      here : (j : ℕ) → j ≡ h → at (set cs h c) j ≡ c
      here j q = ap (at (set cs h c)) q ∙ at_same cs h c l

      owned : (b j : ℕ) → j ≡ h → owns (at (set cs h c) j) b ≡ true → owns c b ≡ true
      owned b j q e = ap (λ (x : Connection). owns x b) (sym (here j q)) ∙ e

      owned' : (b j : ℕ) → j ≢ h → owns (at (set cs h c) j) b ≡ true → owns (at cs j) b ≡ true
      owned' b j q e = ap (λ (x : Connection). owns x b) (sym (at_other cs h c j q)) ∙ e

      clash : (b j : ℕ) → j ≢ h → owns c b ≡ true → owns (at cs j) b ≡ true → ⊥
      clash b j q x y = false≢true (sym (free b x) ∙ others_of j b q y)

-- ---- a run that grows, and one that shrinks
-- The run of length L from o on, with what else is taken: once its blocks from L to M are taken, it has length M.
pub longer : (o L M : ℕ) (x : Bool) → L ≤ M → cond (leb L o && ltb o M) true (ltb o L || x) ≡ ltb o M || x
longer o L M x h =
    by_cases (dec_le L o)
    (λ l. rw (le-leb L o l, le-ltb o L l) (settle (ltb o M) x))
    (λ l. rw (lt-leb L o (omega arith), lt-ltb o L (omega arith), lt-ltb o M (omega arith)))
  where
    settle : (m x : Bool) → cond m true x ≡ m || x
    settle true x = refl
    settle false x = refl

-- Once its blocks from M on are given back, it has length M, where none of them is taken by another.
pub shorter : (o L M : ℕ) (x : Bool) → M ≤ L → (ltb o L ≡ true → x ≡ false) → cond (leb M o && ltb o L) false (ltb o L || x) ≡ ltb o M || x
shorter o L M x h apart =
    by_cases (dec_le M o)
    (λ l. rw (le-leb M o l, le-ltb o M l) (settle (ltb o L) x apart))
    (λ l. rw (lt-leb M o (omega arith), lt-ltb o M (omega arith), lt-ltb o L (omega arith)))
  where
    settle : (m x : Bool) → (m ≡ true → x ≡ false) → cond m false (m || x) ≡ x
    settle true x f = sym (f refl)
    settle false x f = refl

-- The blocks of a connection are the first n of each period of the run at A.
abbrev pub Runs : ℕ → ℕ → ℕ → Connection → Type 0
Runs k A n c = (b : ℕ) → owns c b ≡ ltb (minus_mod b A (2 ^ k)) n

pub live_runs : (c : Connection) → c.live ≡ true → Runs c.k c.anchor c.length c
unfolding owns belongs
live_runs c e b = rw e

pub dead_runs : (k A : ℕ) (c : Connection) → c.live ≡ false → Runs k A 0 c
unfolding owns
dead_runs k A c e b = rw e (sym (le-ltb (minus_mod b A (2 ^ k)) 0 (omega arith)))

module _ (cs : List Connection) (h k A L M : ℕ) (l : h < length cs) (old : Runs k A L (at cs h)) (c : Connection) (new : Runs k A M c) where
  -- The tree once the connection's run has grown from L to M blocks.
  pub longer_tree : L ≤ M → tree_of (set_run k A L M true (taken cs)) ≡ tree_for (set cs h c)
  unfolding tree_for
  longer_tree g =
      tree_ext (set_run k A L M true (taken cs)) (taken (set cs h c)) (λ b m.
      rw (taken_split cs h l b, taken_set cs h l c b, old b, new b) (longer (minus_mod b A (2 ^ k)) L M (others cs h b) g))

  -- The tree once it has shrunk from L to M blocks.
  pub shorter_tree : Sound cs → M ≤ L → tree_of (set_run k A M L false (taken cs)) ≡ tree_for (set cs h c)
  unfolding tree_for
  shorter_tree s g =
      tree_ext (set_run k A M L false (taken cs)) (taken (set cs h c)) (λ b m.
      rw (taken_split cs h l b, taken_set cs h l c b, old b, new b)
      (shorter (minus_mod b A (2 ^ k)) L M (others cs h b) g (λ e. others_apart cs h l s b (old b ∙ e))))

-- ---- a run that is free
-- The whole run of n blocks at A is free, in endless time.
abbrev pub RunFreeEver : List Connection → ℕ → ℕ → ℕ → Type 0
RunFreeEver cs k n A = (j : ℕ) → j < n → (b h : ℕ) → b % 2 ^ k ≡ (A + j) % 2 ^ k → owns (at cs h) b ≡ false

-- So it is exactly if its classes are free.
pub run_ever : (cs : List Connection) (k n A : ℕ) → sound_connections cs ≡ true → k ≤ depth → (run_free (taken cs) k A n ≡ true) ↔ RunFreeEver cs k n A
unfolding run_free
run_ever cs k n A s hk = (
  λ e j l b h m. (class_free_ever cs k ((A + j) % 2 ^ k) s hk (mod-lt (A + j) (pow_pos k))).0 (every_at n _ e j l) b h m,
  λ f. every_of n _ (λ j l. (class_free_ever cs k ((A + j) % 2 ^ k) s hk (mod-lt (A + j) (pow_pos k))).1 (λ b h m. f j l b h m)),
)

-- A block that belongs to a run that is free belongs to nobody.
pub run_nobody : (cs : List Connection) (k n A b h : ℕ) → RunFreeEver cs k n A → minus_mod b A (2 ^ k) < n → owns (at cs h) b ≡ false
run_nobody cs k n A b h f l = f (minus_mod b A (2 ^ k)) l b h (sym (minus_mod_back b A (2 ^ k) (pow_pos k)))

-- ---- a connection joins those placed, whether it is admitted, loaded or placed anew
module _ (cs : List Connection) (h : ℕ) (l : h < length cs) (c : Connection) (live : c.live ≡ true) where
  module _ (s : Sound cs) (n : Numbers c) (f : run_free (taken cs) c.k c.anchor c.length ≡ true) where
    -- Where its numbers are sound and its run is free, it has no block of the others,
    pub joined_apart : (b : ℕ) → owns c b ≡ true → others cs h b ≡ false
    joined_apart b o =
        let ever = (run_ever cs c.k c.length c.anchor ((sound_exactly cs).1 s) (within_depth n.deep)).0 f in
        is_false (others cs h b) (λ t.
        let w = others_at cs h l b t in
        false≢true (sym (run_nobody cs c.k c.length c.anchor b w.0 ever (ltb-true _ _ (sym (live_runs c live b) ∙ o))) ∙ w.2))

    -- and they stay sound and apart;
    pub joined_sound : Sound (set cs h c)
    joined_sound = sound_set cs h l s c (λ e. n) joined_apart

  -- their tree is the old one with the run taken, where the handle was free.
  pub joined_tree : (at cs h).live ≡ false → tree_of (set_run c.k c.anchor 0 c.length true (taken cs)) ≡ tree_for (set cs h c)
  joined_tree e =
      longer_tree cs h c.k c.anchor 0 c.length l (dead_runs c.k c.anchor (at cs h) e) c (live_runs c live) (omega arith)

-- ---- a good schedule stays good
pub good_tree : (s : Schedule) → Good s → s.tree.bytes ≡ tree_of (taken s.connections)
unfolding tree_for
good_tree s good = good.has_tree

pub good_sound : (s : Schedule) → Good s → Sound s.connections
good_sound s good = (sound_exactly s.connections).0 (good_connections s good)

-- No handle past the schedule's end is live.
pub live_inside : (cs : List Connection) (h : ℕ) → (at cs h).live ≡ true → h < length cs
live_inside cs h live =
    by_cases (dec_le (length cs) h)
    (λ l. absurd (false≢true (sym (ap (λ (c : Connection). c.live) (get_or-eq_default cs nobody l)) ∙ live)))
    (λ l. omega arith)

pub live_below : (s : Schedule) → length s.connections ≡ handles → (h : ℕ) → is_live s h ≡ true → h < handles
live_below s places h live = omega (arith, places, live_inside s.connections h live)

module _ (s : Schedule) (good : Good s) (h : ℕ) (below : h ≤ 63) where
  pub inside : h < length s.connections
  inside = omega (arith, good.places)

  pub set_good : (c : Connection) → (c.live ≡ true → Numbers c) → ((b : ℕ) → owns c b ≡ true → others s.connections h b ≡ false) → Good (with_connection s h c)
  set_good c n free =
      connected_good s (set s.connections h c) (length-set s.connections h c ∙ good.places)
      ((sound_exactly (set s.connections h c)).1 (sound_set s.connections h inside (good_sound s good) c n free))

  -- Every other connection is as it was.
  pub set_other : (c : Connection) (j : ℕ) → j ≢ h → connection (with_connection s h c) j ≡ connection s j
  unfolding with_connections
  set_other c j n = at_other s.connections h c j n

  pub set_same : (c : Connection) → connection (with_connection s h c) h ≡ c
  unfolding with_connections
  set_same c = at_same s.connections h c inside

  -- Free slots stay zeros, where a slot that is freed is one.
  pub set_zero : FreeSlotsZero s → (c : Connection) → (c.live ≡ false → c ≡ nobody) → FreeSlotsZero (with_connection s h c)
  set_zero z c n j e =
      by_cases (ℕ_discrete j h)
      (λ q. ap (connection (with_connection s h c)) q ∙ set_same c ∙ n (ap (λ (x : Connection). x.live) (sym (ap (connection (with_connection s h c)) q ∙ set_same c)) ∙ e))
      (λ q. set_other c j q ∙ z j (ap (λ (x : Connection). x.live) (sym (set_other c j q)) ∙ e))
