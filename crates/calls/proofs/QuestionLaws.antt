-- What the two questions mean: whose block it is, and how far the next anchor is.
use mathlib.Core.Path.{◌≡◌, refl, sym, ap, ◌∙◌}
use mathlib.Core.Bool.{true, false, not, false≢true}
use mathlib.Core.Logic.{◌↔◌, inl, inr}
use mathlib.Core.Option.{Option, none, some}
use Prim.Native.Nat.{ℕ, ◌+◌, ◌*◌, ◌%◌, ◌^◌, ◌<◌, ◌≤◌}
use native.Mathlib.Nat.{add-zero, mod-lt, mod-le, add-mod-mod}
use native.Mathlib.Omega.{arith}
use lib.Pow.{pow_pos}
use lib.IntN.{pos}
use borrow.Author.Tests.{lt-ltb, le-ltb}
use Rattle.rules.specs.declared.Connection.{Connection}
use Rattle.rules.specs.declared.Schedule.{Schedule}
use Rattle.rules.specs.declared.Refusal.TheVariants.{HandleAbove63, HandleNotLive}
use Rattle.rules.specs.Below.{least}
use Rattle.rules.specs.Time.{list_blocks, minus_mod}
use Rattle.rules.specs.Core.{Subrated}
use Rattle.rules.specs.Classes.{depth, free}
use Rattle.rules.specs.Ownership.{handles, largest_k, factor, subrating, owns, taken}
use Rattle.rules.specs.Good.{Good}
use Rattle.rules.specs.Refusals.{number}
use Rattle.rules.specs.Answers.{refused, owner, idle, slots}
use Rattle.rules.specs.Handles.{connection, is_live}
use Rattle.rules.specs.Owner.{owner_or, owner_of}
use Rattle.rules.specs.Anchor.{slots_to_anchor, anchor_checks, anchor}
use Rattle.basics.proofs.BoolLaws.{is_false}
use Rattle.basics.proofs.BelowLaws.{least_some, least_none, least_is, least_is_none}
use Rattle.blocks.proofs.SoundLaws.{owns_parts, class_free_ever, good_connections}
use Rattle.blocks.proofs.EndlessTime.{minus_mod_back, minus_mod_only, anchors_subrated, factor_mod}
use Rattle.blocks.proofs.ScheduleLaws.{good_sound, live_below}
use Rattle.calls.proofs.RefusalLaws.{FirstRefusal, decided_first, decided_passed}

-- ---- owner
module _ (s : Schedule) (b : ℕ) where
  -- The first handle that has the block.
  pub owner_found : (h : ℕ) → h < 64 → owns (connection s h) b ≡ true → ((j : ℕ) → j < h → owns (connection s j) b ≡ false) → owner_of s b ≡ owner h
  unfolding owner_of
  owner_found h l e f = ap owner_or (least_is handles (λ h. owns (connection s h) b) h l e f)

  pub owner_none : ((j : ℕ) → j < 64 → owns (connection s j) b ≡ false) → owner_of s b ≡ idle
  unfolding owner_of
  owner_none f = ap owner_or (least_is_none handles (λ h. owns (connection s h) b) f)

-- A handle past the schedule's end owns nothing.
beyond : (s : Schedule) → Good s → (h b : ℕ) → owns (connection s h) b ≡ true → h < 64
beyond s good h b e = live_below s good.places h (owns_parts (connection s h) b e).0

module _ (s : Schedule) (good : Good s) (b : ℕ) where
  -- The answer is the handle of the one live connection that the block belongs to.
  pub owner_exactly : (h : ℕ) → (owner_of s b ≡ owner h) ↔ (owns (connection s h) b ≡ true)
  unfolding owner_of
  owner_exactly h = (to (least handles (λ h. owns (connection s h) b)) refl, from)
    where
      to : (o : Option ℕ) → least handles (λ h. owns (connection s h) b) ≡ o → owner_or o ≡ owner h → owns (connection s h) b ≡ true
      to none q e = let z : ◌≡◌ {A = ℕ} 0 1 = cc in absurd (omega arith)
      to (some j) q e =
          let x : j ≡ h = cc in
          ap (λ (y : ℕ). owns (connection s y) b) (sym x) ∙ (least_some handles (λ h. owns (connection s h) b) j q).1

      from : owns (connection s h) b ≡ true → owner_or (least handles (λ h. owns (connection s h) b)) ≡ owner h
      from e =
          owner_found s b h (beyond s good h b e) e
          (λ j l. is_false (owns (connection s j) b) (λ t. let q : j ≡ h = (good_sound s good).apart_ever b j h t e in absurd (omega arith)))

  -- It is idle exactly if no live connection has the block.
  pub idle_exactly : (owner_of s b ≡ idle) ↔ ((h : ℕ) → owns (connection s h) b ≡ false)
  unfolding owner_of
  idle_exactly =
      (to (least handles (λ h. owns (connection s h) b)) refl, λ f. owner_none s b (λ j l. f j))
    where
      to : (o : Option ℕ) → least handles (λ h. owns (connection s h) b) ≡ o → owner_or o ≡ idle → (h : ℕ) → owns (connection s h) b ≡ false
      to none q e h = is_false (owns (connection s h) b) (λ t. false≢true (sym (least_none handles (λ h. owns (connection s h) b) q h (beyond s good h b t)) ∙ t))
      to (some j) q e h = let z : ◌≡◌ {A = ℕ} 0 1 = cc in absurd (omega arith)

  -- Where the block's own class, its leaf in the tree, is free, it is idle.
  pub owner_leaf : free (taken s.connections) depth (b % list_blocks) ≡ true → owner_of s b ≡ idle
  owner_leaf e =
      let ever = (class_free_ever s.connections depth (b % list_blocks) (good_connections s good) (omega arith) (mod-lt b (omega arith))).0 e in
      owner_none s b (λ j l. ever b j refl)

-- ---- anchor
module _ (s : Schedule) (h b : ℕ) where
  refused_first : {n : ℕ} → FirstRefusal (anchor_checks s h) n → anchor s h b ≡ refused n
  unfolding anchor
  refused_first = decided_first (anchor_checks s h) refused (slots (slots_to_anchor (connection s h) b))

  pub anchor_1 : 63 < h → anchor s h b ≡ refused (number HandleAbove63)
  anchor_1 p = refused_first (inl (lt-ltb 63 h p, refl))

  pub anchor_3 : h ≤ 63 → is_live s h ≡ false → anchor s h b ≡ refused (number HandleNotLive)
  anchor_3 p q = refused_first (inr (le-ltb 63 h p, inl (ap not q, refl)))

  pub anchor_ok : h ≤ 63 → is_live s h ≡ true → anchor s h b ≡ slots (slots_to_anchor (connection s h) b)
  unfolding anchor
  anchor_ok p q = decided_passed (anchor_checks s h) refused (slots (slots_to_anchor (connection s h) b)) (le-ltb 63 h p, (ap not q, tt))

-- It is the least number of slots, 6 to a block, to an anchor of the connection.
pub anchor_least : (c : Connection) (b : ℕ)
    → (d : ℕ) × (slots_to_anchor c b ≡ 6 * d) × ((b + d) % factor c ≡ c.anchor % factor c) × ((j : ℕ) → (b + j) % factor c ≡ c.anchor % factor c → d ≤ j)
unfolding slots_to_anchor
anchor_least c b = (
  minus_mod c.anchor b (factor c),
  refl,
  minus_mod_back c.anchor b (factor c) (pow_pos c.k),
  λ j e.
      let q : minus_mod c.anchor b (factor c) ≡ j % factor c =
      minus_mod_only c.anchor b (factor c) (pow_pos c.k) (j % factor c) (mod-lt j (pow_pos c.k)) (sym e ∙ sym (add-mod-mod b j (factor c))) in
      omega (arith, mod-le j (factor c)),
)

-- "0 if the block is an anchor", which it is exactly if its event is a subrated one.
pub at_anchor : (c : Connection) (b : ℕ) → (slots_to_anchor c b ≡ 0) ↔ Subrated (subrating c) (pos b)
unfolding slots_to_anchor
at_anchor c b =
    let F = factor c in
    let d = minus_mod c.anchor b F in
    let back = minus_mod_back c.anchor b F (pow_pos c.k) in
    let only = minus_mod_only c.anchor b F (pow_pos c.k) 0 (pow_pos c.k) in (
      λ e. let z : d ≡ 0 = omega arith in (anchors_subrated c b).0 (rw (z, add-zero b) at back),
      λ s. let z : d ≡ 0 = only (rw (add-zero b) (sym ((anchors_subrated c b).1 s))) in omega arith,
    )

-- "As 512 divides 2^32, a counter that wraps loses nothing."
pub anchor_wrapped : (c : Connection) (b : ℕ) → c.k ≤ largest_k → slots_to_anchor c (b % 2 ^ 32) ≡ slots_to_anchor c b
unfolding slots_to_anchor minus_mod
anchor_wrapped c b h = rw (factor_mod c b 32 (omega arith))
