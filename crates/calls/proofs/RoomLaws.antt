-- "A new connection is refused for room exactly when no anchor exists whose whole run is free."
use mathlib.Core.Path.{◌≡◌, refl, sym, ap, subst, ◌∙◌}
use mathlib.Core.Bool.{true}
use mathlib.Core.Logic.{◌↔◌}
use mathlib.Core.Option.{Option, none, some}
use Prim.Native.Nat.{ℕ, ◌*◌, ◌^◌, ◌<◌, ◌≤◌}
use native.Mathlib.Omega.{arith}
use Rattle.rules.specs.declared.Schedule.{Schedule}
use Rattle.rules.specs.declared.Refusal.TheVariants.{NoOpenAnchor}
use Rattle.rules.specs.Below.{is_none}
use Rattle.rules.specs.Ownership.{largest_k, taken}
use Rattle.rules.specs.Mirror.{mirrored}
use Rattle.rules.specs.Good.{Good}
use Rattle.rules.specs.Refusals.{number, check}
use Rattle.rules.specs.Answers.{Outcome, refused, refusing, ok}
use Rattle.rules.specs.Admit.{k_for, first_open, admit_checks, anchor_for, admit_done, admit}
use Rattle.basics.proofs.BelowLaws.{is_none_lem}
use Rattle.calls.proofs.RefusalLaws.{passed_both, decided_passed}
use Rattle.calls.proofs.RangeLaws.{k_given, k_deep, k_unique, admit_refused_at}
use Rattle.blocks.proofs.MirrorLaws.{mirror_mirror}
use Rattle.blocks.proofs.ScheduleLaws.{RunFreeEver}
use Rattle.calls.proofs.AdmitLaws.{first_ever, none_ever, Placeable, Reached, reached_within, passed_within, admit_cases, anchor_given, anchor_small, anchor_free}
use Rattle.blocks.proofs.ClassLaws.{within_depth}
use Rattle.blocks.proofs.SoundLaws.{good_connections}

-- The checks before that of room pass, 20 the last of them, and no anchor below F has its whole run free in endless time.
pub record NoRoom (s : Schedule) (h lo hi f c : ℕ) : Type 0 where
  pub k : ℕ
  pub reached : Reached s h lo hi f c k
  pub within : 2 * c ≤ 2 ^ k
  pub shut : (A : ℕ) → A < 2 ^ k → RunFreeEver s.connections k f A → ⊥

module _ (s : Schedule) (good : Good s) (k : ℕ) (deep : k ≤ largest_k) (f : ℕ) where
  none_shut : (first_open (taken s.connections) k f ≡ none) ↔ ((A : ℕ) → A < 2 ^ k → RunFreeEver s.connections k f A → ⊥)
  none_shut = none_ever s.connections k f (good_connections s good) (within_depth deep)

module _ (s : Schedule) (good : Good s) (h lo hi f c : ℕ) where
  pub no_room_exactly : ((admit s h lo hi f c).answer ≡ refused (number NoOpenAnchor)) ↔ NoRoom s h lo hi f c
  unfolding admit_checks
  no_room_exactly =
      let r = admit_refused_at s h lo hi f c 6 (check NoOpenAnchor true) (omega arith) in (
        λ e.
            let w = r.0 e in
            let g = reached_within s h lo hi f c w.0 in
            let given = g.1.given in
            record {
              k = g.0;
              reached = g.1;
              within = g.2;
              shut = (none_shut s good g.0 (k_deep lo hi g.0 given) f).0 (is_none_lem _ (rw (k_given lo hi g.0 given) at w.1));
            },
        λ n.
            let given = n.reached.given in
            r.1 (passed_within s h lo hi f c n.k n.reached n.within, rw (k_given lo hi n.k given) (ap is_none ((none_shut s good n.k (k_deep lo hi n.k given) f).1 n.shut))),
      )

-- Where it is reached, it is accepted exactly if some anchor has its whole run free.
module _ (s : Schedule) (good : Good s) (h lo hi f c k : ℕ) (r : Reached s h lo hi f c k) (l : 2 * c ≤ 2 ^ k) where
  abbrev Accepted : Outcome → Type 0
  Accepted o = (F : ℕ) × (A : ℕ) × (L : ℕ) × (o.answer ≡ ok F A L)

  placed : (o : Option ℕ) → first_open (taken s.connections) k f ≡ o → ((A : ℕ) × (A < 2 ^ k) × RunFreeEver s.connections k f A) → Accepted (admit s h lo hi f c)
  unfolding admit admit_checks admit_done
  placed none e w = absurd ((none_shut s good k (k_deep lo hi k r.given) f).0 e w.0 w.1 w.2)
  placed (some p) e w =
      let checks = admit_checks s h lo hi f c in
      let done =
      decided_passed checks (refusing s) (admit_done s h (k_for lo hi) f c)
      (passed_both 6 checks (passed_within s h lo hi f c k r l) (rw (k_given lo hi k r.given) (ap is_none e), tt)) in
      (2 ^ k_for lo hi, anchor_for s (k_for lo hi) f, f, ap (λ (o : Outcome). o.answer) done)

  pub room_exactly : Accepted (admit s h lo hi f c) ↔ ((A : ℕ) × (A < 2 ^ k) × RunFreeEver s.connections k f A)
  unfolding admit_done
  room_exactly = (
    admit_cases s h lo hi f c (λ o. Accepted o → (A : ℕ) × (A < 2 ^ k) × RunFreeEver s.connections k f A)
        (λ n w. let e = w.3 in let z : ◌≡◌ {A = ℕ} 0 1 = cc in absurd (omega arith))
        (λ a w.
        let q = k_unique lo hi a.k k a.reached.given r.given in
        subst (λ (k : ℕ). (A : ℕ) × (A < 2 ^ k) × RunFreeEver s.connections k f A) q
        (anchor_for s a.k f, anchor_small s a.k f, anchor_free s a.k f c a.placeable good)),
    placed (first_open (taken s.connections) k f) refl,
  )

-- "the first anchor whose whole run is free is taken": none with a lower node number 2^k + mirrored A has its run free.
pub anchor_first : (s : Schedule) → Good s → (k f c : ℕ) → Placeable s k f c
    → (A : ℕ) → A < 2 ^ k → mirrored k A < mirrored k (anchor_for s k f) → RunFreeEver s.connections k f A → ⊥
anchor_first s good k f c a A l m r =
    let w = first_ever s.connections k f (good_connections s good) (within_depth a.deep) a.place.0 a.place.1 in
    let p : mirrored k (anchor_for s k f) ≡ a.place.0 = ap (mirrored k) (anchor_given s k f c a) ∙ mirror_mirror k a.place.0 w.0 in
    w.2 (mirrored k A) (omega arith) (subst (RunFreeEver s.connections k f) (sym (mirror_mirror k A l)) r)
