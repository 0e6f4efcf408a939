-- "Refuse an admission where twice the ceiling is above F; that turns F 1 away altogether."
use mathlib.Core.Path.{◌≡◌, refl}
use mathlib.Core.Bool.{true}
use mathlib.Core.Logic.{◌↔◌}
use Prim.Native.Nat.{ℕ, ◌*◌, ◌^◌, ◌<◌, ◌≤◌}
use native.Mathlib.Omega.{arith}
use borrow.Author.Tests.{lt-ltb, ltb-true}
use Rattle.rules.specs.declared.Schedule.{Schedule}
use Rattle.rules.specs.declared.Connection.{Connection}
use Rattle.rules.specs.declared.Refusal.TheVariants.{CeilingAboveHalf}
use Rattle.rules.specs.Ownership.{factor}
use Rattle.rules.specs.Good.{Good}
use Rattle.rules.specs.Refusals.{number, check}
use Rattle.rules.specs.Answers.{refused, ok}
use Rattle.rules.specs.Handles.{connection}
use Rattle.rules.specs.Admit.{new_connection, admit_checks, anchor_for, admit_done, admit}
use Rattle.blocks.proofs.ScheduleLaws.{set_same}
use Rattle.calls.proofs.RangeLaws.{k_given, admit_refused_at}
use Rattle.calls.proofs.AdmitLaws.{share_bounds, Reached, reached, passed, admit_cases}

-- Checks 1, 2, 4, 15 and 5 pass, and twice the ceiling is above F.
pub record AboveHalf (s : Schedule) (h lo hi f c : ℕ) : Type 0 where
  pub k : ℕ
  pub reached : Reached s h lo hi f c k
  pub above : 2 ^ k < 2 * c

module _ (s : Schedule) (h lo hi f c : ℕ) where
  -- 20 exactly then, whatever blocks are taken.
  pub above_half_exactly : ((admit s h lo hi f c).answer ≡ refused (number CeilingAboveHalf)) ↔ AboveHalf s h lo hi f c
  unfolding admit_checks
  above_half_exactly =
      let r = admit_refused_at s h lo hi f c 5 (check CeilingAboveHalf true) (omega arith) in (
        λ e.
            let w = r.0 e in
            let g = reached s h lo hi f c w.0 in
            let k = g.0 in
            record { k = k; reached = g.1; above = ltb-true (2 ^ k) (2 * c) (rw (k_given lo hi k g.1.given) at w.1) },
        λ a. r.1 (passed s h lo hi f c a.k a.reached, rw (k_given lo hi a.k a.reached.given) (lt-ltb (2 ^ a.k) (2 * c) a.above)),
      )

  -- F 1 that passes 5 is always 20: floor and ceiling are 1 there, and 2 is above 1.
  pub whole_is_20 : Reached s h lo hi f c 0 → (admit s h lo hi f c).answer ≡ refused (number CeilingAboveHalf)
  whole_is_20 r =
      let b = share_bounds f c (2 ^ 0) r.share in
      above_half_exactly.1 (record { k = 0; reached = r; above = omega (arith, b.0, b.1) })

-- An accepted admission stores a connection of the factor F that it answers, with twice its ceiling, and so twice its length, at most F; and F is not 1.
pub record HalfStored (c : Connection) (ceiling F : ℕ) : Type 0 where
  pub factored : factor c ≡ F
  pub ceiled : c.ceiling ≡ ceiling
  pub within : 2 * ceiling ≤ F
  pub half : 2 * c.length ≤ F
  pub not_one : 2 ≤ F

pub admit_half : (s : Schedule) → Good s → (h lo hi f c F A L : ℕ) → (admit s h lo hi f c).answer ≡ ok F A L
    → HalfStored (connection (admit s h lo hi f c).schedule h) c F
unfolding admit_done
admit_half s good h lo hi f c F A L =
    admit_cases s h lo hi f c (λ o. o.answer ≡ ok F A L → HalfStored (connection o.schedule h) c F)
    (λ n e. let z : ◌≡◌ {A = ℕ} 0 1 = cc in absurd (omega arith))
    (λ a e.
    let p : 2 ^ a.k ≡ F = cc in
    let b = share_bounds f c (2 ^ a.k) a.reached.share in
    rw (set_same s good h a.reached.handle (new_connection a.k (anchor_for s a.k f) f c))
    (record {
      factored = p;
      ceiled = refl;
      within = omega (arith, p, a.within);
      half = omega (arith, p, a.within, b.1);
      not_one = omega (arith, p, a.within, b.0, b.1);
    }))

-- So no admission leads to a connection with a ceiling above half of its factor, as an older image may hold one.
pub above_not_admitted : (s : Schedule) → Good s → (h lo hi f c F A L : ℕ) → (admit s h lo hi f c).answer ≡ ok F A L
    → factor (connection (admit s h lo hi f c).schedule h) < 2 * (connection (admit s h lo hi f c).schedule h).ceiling → ⊥
above_not_admitted s good h lo hi f c F A L a above =
    let w = admit_half s good h lo hi f c F A L a in
    omega (arith, above, w.ceiled, w.factored, w.within)
