-- An admission as a plan that is carried out.
use mathlib.Core.Path.{◌≡◌, refl, sym, ap}
use mathlib.Core.Bool.{Bool, true, false}
use mathlib.Core.Option.{get_or}
use Prim.Native.Nat.{ℕ, ◌^◌, ◌<◌, ◌≤◌}
use native.Mathlib.Omega.{arith}
use borrow.Author.Tests.{lt-ltb, le-ltb}
use Rattle.rules.specs.declared.Schedule.{Schedule}
use Rattle.rules.specs.declared.Refusal.TheVariants.{HandleAbove63}
use Rattle.rules.specs.Ownership.{largest_k, taken}
use Rattle.rules.specs.Mirror.{mirrored}
use Rattle.rules.specs.Good.{with_connection}
use Rattle.rules.specs.Refusals.{number}
use Rattle.rules.specs.Answers.{Outcome, refusing, ok}
use Rattle.rules.specs.Handles.{is_live}
use Rattle.rules.specs.Admit.{k_in, k_for, first_open, new_connection, place_checks, admit_checks, anchor_for, admit_done, admit}
use Rattle.rules.specs.Steps.{Step, gives, places, passes, refuses}
use Rattle.place.specs.Steps.{plan_step}
use Rattle.blocks.proofs.MirrorLaws.{mirror_lt}
use Rattle.basics.proofs.BelowLaws.{is_some}
use Rattle.calls.proofs.RangeLaws.{k_given, k_deep}
use Rattle.calls.proofs.AdmitLaws.{share_bounds}
use Rattle.calls.proofs.RefusalLaws.{decided_map, decided_cases}

-- What becomes of a plan.
abbrev pub carry : Schedule → ℕ → ℕ → ℕ → Step → Outcome
carry s h f c (gives n) = refusing s 0
carry s h f c (places k A) = record { answer = ok (2 ^ k) A f; schedule = with_connection s h (new_connection k A f c) }
carry s h f c passes = refusing s 0
carry s h f c (refuses n) = refusing s n

module _ (s : Schedule) (h lo hi f c : ℕ) where
  pub admit_1 : 63 < h → admit s h lo hi f c ≡ refusing s (number HandleAbove63)
  unfolding admit admit_checks
  admit_1 p = rw (lt-ltb 63 h p)

  pub admit_plan : h ≤ 63 → admit s h lo hi f c ≡ carry s h f c (plan_step (is_live s h) (taken s.connections) lo hi f c)
  unfolding admit admit_checks admit_done anchor_for plan_step
  admit_plan p =
      rw (le-ltb 63 h p)
      (sym (decided_map (carry s h f c)
      (place_checks (is_live s h) (taken s.connections) lo hi f c)
      refuses (places (k_for lo hi) (mirrored (k_for lo hi) (get_or (first_open (taken s.connections) (k_for lo hi) f) 0)))))

-- What a plan that places tells: the bounds of its numbers.
pub record Planned (k A f c : ℕ) : Type 0 where
  pub deep : k ≤ largest_k
  pub anchored : A < 2 ^ k
  pub positive : 1 ≤ f
  pub floored : f ≤ c
  pub whole : c ≤ 2 ^ k

pub planned_free : (live : Bool) (t : ℕ → Bool) (lo hi f c k A : ℕ) → plan_step live t lo hi f c ≡ places k A → live ≡ false
unfolding plan_step
planned_free true t lo hi f c k A e = let z : ◌≡◌ {A = ℕ} 0 1 = cc in absurd (omega arith)
planned_free false t lo hi f c k A e = refl

pub planned : (live : Bool) (t : ℕ → Bool) (lo hi f c k A : ℕ) → plan_step live t lo hi f c ≡ places k A → Planned k A f c
unfolding plan_step
planned live t lo hi f c k A =
    decided_cases (λ x. x ≡ places k A → Planned k A f c)
    (place_checks live t lo hi f c)
    refuses (places (k_for lo hi) (mirrored (k_for lo hi) (get_or (first_open t (k_for lo hi) f) 0)))
    (λ n e. let z : ◌≡◌ {A = ℕ} 0 1 = cc in absurd (omega arith))
    (λ p e.
    let q : k_for lo hi ≡ k = cc in
    let r : mirrored (k_for lo hi) (get_or (first_open t (k_for lo hi) f) 0) ≡ A = cc in
    let b = share_bounds f c (2 ^ k_for lo hi) p.1.1.1.0 in
    let g = is_some (k_in lo hi) p.1.1.0 in
    let w : 2 ^ k_for lo hi ≡ 2 ^ k = ap (λ (x : ℕ). 2 ^ x) q in
    record {
      deep = omega (arith, k_deep lo hi g.0 g.1, k_given lo hi g.0 g.1);
      anchored = omega (arith, mirror_lt (k_for lo hi) (get_or (first_open t (k_for lo hi) f) 0));
      positive = b.0;
      floored = b.1;
      whole = omega arith;
    })
