-- What a drop means.
use mathlib.Core.Path.{◌≡◌, refl, sym, ◌∙◌}
use mathlib.Core.Bool.{true, false, false≢true}
use mathlib.Core.Logic.{◌≢◌, ◌↔◌}
use Prim.Native.Nat.{ℕ, ◌+◌, ◌^◌, ◌<◌, ◌≤◌}
use native.Mathlib.Omega.{arith}
use lib.Pow.{pow_mono}
use lib.ListN.{set}
use borrow.Author.Tests.{lt-ltb, le-ltb, ltb-false, not-false}
use Rattle.rules.specs.declared.Schedule.{Schedule}
use Rattle.rules.specs.declared.Refusal.TheVariants.{HandleAbove63, HandleNotLive}
use Rattle.rules.specs.Ownership.{nobody, owns, taken}
use Rattle.rules.specs.Classes.{depth}
use Rattle.rules.specs.Nodes.{covers}
use Rattle.rules.specs.TreeBytes.{bit_at}
use Rattle.rules.specs.Good.{Good, FreeSlotsZero, tree_for, with_connections}
use Rattle.rules.specs.Answers.{Outcome, dropped, refusing}
use Rattle.rules.specs.Refusals.{number}
use Rattle.rules.specs.Handles.{is_live, connection}
use Rattle.rules.specs.Drop.{drop_checks, drop_done, drop_handle}
use Rattle.calls.proofs.RefusalLaws.{decided_cases}
use Rattle.blocks.proofs.ScheduleLaws.{nobody_owns, others_at, others_of, sound_set, good_sound, inside, set_good, set_zero, set_other, set_same}
use Rattle.blocks.proofs.SoundLaws.{Sound, sound_exactly, sound_all, taken_periodic}
use Rattle.blocks.proofs.NodeLaws.{bit_ever}
use Rattle.blocks.proofs.TreeLaws.{tree_bit}

-- ---- each exit
module _ (s : Schedule) (h : ℕ) where
  pub drop_1 : 63 < h → drop_handle s h ≡ refusing s (number HandleAbove63)
  unfolding drop_handle
  drop_1 p = rw (lt-ltb 63 h p)

  pub drop_3 : h ≤ 63 → is_live s h ≡ false → drop_handle s h ≡ refusing s (number HandleNotLive)
  unfolding drop_handle
  drop_3 p q = rw (le-ltb 63 h p, q)

  pub drop_ok : h ≤ 63 → is_live s h ≡ true → drop_handle s h ≡ drop_done s h
  unfolding drop_handle
  drop_ok p q = rw (le-ltb 63 h p, q)

-- ---- the schedule afterwards
-- It is as before, or the handle, which was live, has become a free slot.
pub drop_cases : (s : Schedule) (h : ℕ) (P : Outcome → Type 0) → ((n : ℕ) → P (refusing s n)) → (h ≤ 63 → is_live s h ≡ true → P (drop_done s h)) → P (drop_handle s h)
unfolding drop_handle
drop_cases s h P f g = decided_cases P (drop_checks s h) (refusing s) (drop_done s h) (λ why. f (number why)) (λ p. g (ltb-false 63 h p.0) (not-false (is_live s h) p.1.0))

module _ (s : Schedule) (good : Good s) (h : ℕ) where
  -- A drop leaves a good schedule.
  pub drop_good : Good (drop_handle s h).schedule
  unfolding drop_done
  drop_good = drop_cases s h (λ o. Good o.schedule) (λ n. good) (λ p q. set_good s good h p nobody (λ e. absurd (false≢true e)) (λ b e. absurd (false≢true (sym (nobody_owns b) ∙ e))))

  -- Free slots stay zeros.
  pub drop_zero : FreeSlotsZero s → FreeSlotsZero (drop_handle s h).schedule
  unfolding drop_done
  drop_zero z = drop_cases s h (λ o. FreeSlotsZero o.schedule) (λ n. z) (λ p q. set_zero s good h p z nobody (λ e. refl))

  -- Every other connection is as it was.
  pub drop_others : (j : ℕ) → j ≢ h → connection (drop_handle s h).schedule j ≡ connection s j
  unfolding drop_done
  drop_others j n = drop_cases s h (λ o. connection o.schedule j ≡ connection s j) (λ n. refl) (λ p q. set_other s good h p nobody j n)

  -- After an accepted drop the handle is free.
  pub drop_ends : (drop_handle s h).answer ≡ dropped → connection (drop_handle s h).schedule h ≡ nobody
  unfolding drop_done
  drop_ends =
      drop_cases s h (λ o. o.answer ≡ dropped → connection o.schedule h ≡ nobody)
      (λ n e. let z : ◌≡◌ {A = ℕ} 0 1 = cc in absurd (omega arith))
      (λ p q e. set_same s good h p nobody)

-- After an accepted drop a node is set exactly if another connection has a block under it.
pub drop_node : (s : Schedule) → Good s → (h k p : ℕ) → h ≤ 63 → k ≤ depth → p < 2 ^ k
    → (bit_at (drop_done s h).schedule.tree.bytes (2 ^ k + p) ≡ true) ↔ ((b : ℕ) × (j : ℕ) × (j ≢ h) × (covers k p b ≡ true) × (owns (connection s j) b ≡ true))
unfolding drop_done with_connections tree_for
drop_node s good h k p below hk hp =
    let cs = set s.connections h nobody in
    let g : 2 ^ k ≤ 512 = pow_mono hk in
    let n : 2 ^ k + p < 1024 = omega arith in
    let sound : Sound cs = sound_set s.connections h (inside s good h below) (good_sound s good) nobody (λ e. absurd (false≢true e)) (λ b e. absurd (false≢true (sym (nobody_owns b) ∙ e))) in
    let ever = bit_ever (taken cs) k p (taken_periodic cs (sound_all cs ((sound_exactly cs).1 sound))) hk hp in (
      λ e.
          let w = ever.0 (sym (tree_bit (taken cs) (2 ^ k + p) n) ∙ e) in
          let o = others_at s.connections h (inside s good h below) w.0 w.2 in
          (w.0, o.0, o.1, w.1, o.2),
      λ w.
          tree_bit (taken cs) (2 ^ k + p) n ∙ ever.1 (w.0, w.3, others_of s.connections h (inside s good h below) w.1 w.0 w.2 w.4),
    )
