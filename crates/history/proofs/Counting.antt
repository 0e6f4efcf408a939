-- How many of successive blocks belong to a connection, and how far the next is.
use mathlib.Core.Path.{◌≡◌, refl, sym, ap, ◌∙◌}
use mathlib.Core.Bool.{Bool, true, false, cond, false≢true}
use mathlib.Core.Logic.{by_cases}
use Prim.Native.Nat.{ℕ, zero, suc, ◌+◌, ◌-◌, ◌%◌, ◌<◌, ◌≤◌}
use native.Mathlib.Nat.{mod-add-mod, add-mod_right, add-zero}
use native.Mathlib.Decide.{dec_le}
use native.Mathlib.Omega.{arith}
use lib.Pow.{pow_pos}
use lib.Dec.{ltb}
use borrow.Author.Tests.{lt-ltb, le-ltb}
use Rattle.rules.specs.declared.Connection.{Connection}
use Rattle.rules.specs.Time.{minus_mod}
use Rattle.rules.specs.Ownership.{factor, belongs, owns}
use Rattle.blocks.proofs.EndlessTime.{minus_mod_lt, minus_mod_back, minus_mod_only, minus_mod_mod}
use Rattle.rules.specs.Sound.{Numbers}
use Rattle.history.specs.Demands.{count_from}

-- One block, counted.
abbrev one : Connection → ℕ → ℕ
one c b = cond (owns c b) 1 0

-- Of suc n blocks, the first is counted apart, or the last.
count_first : (c : Connection) (b n : ℕ) → count_from (owns c) b (suc n) ≡ one c b + count_from (owns c) (suc b) n
unfolding count_from
count_first c b n = go (owns c b)
  where
    go : (v : Bool) → cond v (suc (count_from (owns c) (suc b) n)) (count_from (owns c) (suc b) n) ≡ cond v 1 0 + count_from (owns c) (suc b) n
    go true = omega arith
    go false = omega arith

count_last : (c : Connection) (n b : ℕ) → count_from (owns c) b (suc n) ≡ count_from (owns c) b n + one c (b + n)
unfolding count_from
count_last c zero b =
    let s : b + 0 ≡ b = omega arith in
    rw s (omega (arith, count_first c b 0))
count_last c (suc n) b =
    let s : b + suc n ≡ suc b + n = omega arith in
    rw s (omega (arith, count_first c b (suc n), count_first c b n, count_last c n (suc b)))

-- How far block b is from the anchor before it.
abbrev offset : Connection → ℕ → ℕ
offset c b = minus_mod b c.anchor (factor c)

-- ---- a live connection
module _ (c : Connection) (live : c.live ≡ true) where
  owns_offset : (b : ℕ) → owns c b ≡ ltb (offset c b) c.length
  unfolding owns belongs
  owns_offset b = rw live

  owned : (b : ℕ) → offset c b < c.length → owns c b ≡ true
  owned b h = owns_offset b ∙ lt-ltb _ _ h

  unowned : (b : ℕ) → c.length ≤ offset c b → owns c b ≡ false
  unowned b h = owns_offset b ∙ le-ltb _ _ h

  owns_periodic : (b : ℕ) → owns c (b + factor c) ≡ owns c b
  owns_periodic b =
      let F = factor c in
      let same : (a : ℕ) → minus_mod (a % F) c.anchor F ≡ offset c a = λ a. minus_mod_mod a c.anchor F (pow_pos c.k) in
      rw (owns_offset (b + F), owns_offset b, ← same (b + F), ← same b, add-mod_right b F)

  -- Where one block leaves in front, one that is counted the same comes behind: F blocks hold as many from everywhere.
  count_anywhere : (b : ℕ) → count_from (owns c) b (factor c) ≡ count_from (owns c) 0 (factor c)
  count_anywhere zero = refl
  count_anywhere (suc b) =
      let s : one c (b + factor c) ≡ one c b = ap (λ (v : Bool). cond {A = ℕ} v 1 0) (owns_periodic b) in
      omega (arith, count_anywhere b, count_first c b (factor c), count_last c (factor c) b)

  offset_from : (j : ℕ) → j < factor c → offset c (c.anchor + j) ≡ j
  offset_from j h = minus_mod_only (c.anchor + j) c.anchor (factor c) (pow_pos c.k) j h refl

  -- Beyond the offset of a block, the way goes on to the next anchor.
  next_anchor : (b : ℕ) → 1 ≤ c.length → owns c (b + (factor c - offset c b)) ≡ true
  next_anchor b l =
      let F = factor c in
      let A = c.anchor in
      let o = offset c b in
      let p : 0 < F = pow_pos c.k in
      let s : A + o + (F - o) ≡ A + F = omega (arith, minus_mod_lt b A F p) in
      let e : (b + (F - o)) % F ≡ (A + 0) % F = rw (← mod-add-mod b F (F - o), ← minus_mod_back b A F p, mod-add-mod, s, add-zero) (add-mod_right A F) in
      owned _ (omega (arith, minus_mod_only (b + (F - o)) A F p 0 p e))

  -- From the anchor on, the first L blocks are the connection's, and the others up to F are not.
  count_run : c.length ≤ factor c → (n : ℕ) → n ≤ c.length → count_from (owns c) c.anchor n ≡ n
  unfolding count_from
  count_run l zero h = refl
  count_run l (suc n) h =
      let o : owns c (c.anchor + n) ≡ true = owned _ (omega (arith, offset_from n (omega arith))) in
      let s : one c (c.anchor + n) ≡ 1 = rw o in
      omega (arith, count_last c n c.anchor, count_run l n (omega arith))

  count_rest : (m : ℕ) → c.length + m ≤ factor c → count_from (owns c) c.anchor (c.length + m) ≡ c.length
  count_rest zero h =
      let s : c.length + 0 ≡ c.length = omega arith in
      rw s (count_run (omega arith) c.length (omega arith))
  count_rest (suc m) h =
      let n = c.length + m in
      let t : c.length + suc m ≡ suc n = omega arith in
      let o : owns c (c.anchor + n) ≡ false = unowned _ (omega (arith, offset_from n (omega arith))) in
      let s : one c (c.anchor + n) ≡ 0 = rw o in
      rw t (omega (arith, count_last c n c.anchor, count_rest m (omega arith)))

-- Every F successive blocks hold exactly L.
pub counted_run : (c : Connection) → c.live ≡ true → Numbers c → (b : ℕ) → count_from (owns c) b (factor c) ≡ c.length
counted_run c live n b =
    let s : c.length + (factor c - c.length) ≡ factor c = omega arith in
    let r : count_from (owns c) c.anchor (factor c) ≡ c.length = rw s at (count_rest c live (factor c - c.length) (omega arith)) in
    count_anywhere c live b ∙ sym (count_anywhere c live c.anchor) ∙ r

-- The next block is at most F - L away.
pub near_run : (c : Connection) → c.live ≡ true → Numbers c → (b : ℕ)
    → (d : ℕ) × (d ≤ factor c - c.length) × (owns c (b + d) ≡ true) × (owns c b ≡ true → d ≡ 0)
near_run c live n b =
    by_cases (dec_le c.length (offset c b))
    (λ h. (factor c - offset c b, omega arith, next_anchor c live b (omega arith), λ w. absurd (false≢true (sym (unowned c live b h) ∙ w))))
    (λ h. (0, omega arith, rw add-zero (owned c live b (omega arith)), λ w. refl))
