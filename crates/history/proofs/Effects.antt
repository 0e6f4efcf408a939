-- What one call does to one connection.
use mathlib.Core.Path.{◌≡◌, refl, sym, ap, ◌∙◌, subst, subst⁻¹}
use mathlib.Core.Bool.{true, false}
use mathlib.Core.Logic.{◌≢◌, by_cases, ⊎_elim}
use mathlib.Core.List.{List}
use Prim.Native.Nat.{ℕ, ◌^◌}
use native.Mathlib.Decide.{ℕ_discrete}
use native.Mathlib.Omega.{arith}
use lib.ListN.{length}
use Rattle.rules.specs.declared.Schedule.{Schedule}
use Rattle.rules.specs.Ownership.{handles, nobody}
use Rattle.rules.specs.Sound.{sound}
use Rattle.rules.specs.Good.{Good, with_connections}
use Rattle.rules.specs.Answers.{Outcome, refusing, dropped}
use Rattle.rules.specs.Handles.{connection, is_live}
use Rattle.rules.specs.Admit.{new_connection, anchor_for, admit_done, admit}
use Rattle.rules.specs.Drop.{drop_done, drop_handle}
use Rattle.rules.specs.Report.{metered, report}
use Rattle.rules.specs.Reports.{report_all}
use Rattle.rules.specs.declared.Report.{Report as ReportOfList}
use Rattle.rules.specs.Image.{IsImage}
use Rattle.rules.specs.Load.{load}
use Rattle.rules.specs.Tidy.{with_anchor, tidy}
use Rattle.blocks.proofs.ScheduleLaws.{set_same}
use Rattle.calls.proofs.AdmitLaws.{admit_cases, admit_others}
use Rattle.calls.proofs.DropLaws.{drop_cases, drop_others}
use Rattle.calls.proofs.ReportLaws.{report_own}
use Rattle.calls.proofs.ReportsLaws.{report_all_own}
use Rattle.calls.proofs.TidyLaws.{tidy_lives, tidy_same, tidy_refusal_listed, tidy_says}
use Rattle.images.proofs.ImageLaws.{load_cases}
use Rattle.history.specs.Calls.{Bytes, Call, Admit, Drop, Report, Reports, Owner, Anchor, Save, Load, Tidy, Request, Result, beside, filled, ruled_call, ruled}
use Rattle.history.specs.Runs.{Made}
use Rattle.history.specs.Moments.{AdmissionOf, DropOf, ReportOf, single, listed, Placed, Restores, Tidies}

-- A call that neither begins nor ends x: no accepted admission or drop of x, and no accepted restore.
pub record Quiet (m : Made) (x : ℕ) : Type 0 where
  pub admits : (lo hi f c : ℕ) → AdmissionOf m.request.call x lo hi f c → Placed m.result.answer → ⊥
  pub drops : DropOf m.request.call x → m.result.answer ≡ dropped → ⊥
  pub restores : (bytes : Bytes) → Restores m bytes → ⊥

-- What becomes of the connection of x when a call is made in s. Only the last three begin or end it. An accepted tidy gives a live one another anchor, or the same.
pub data Effect (s : Schedule) (m : Made) (x : ℕ) : Type 0 where
  kept : Quiet m x → connection m.result.schedule x ≡ connection s x → Effect s m x
  moved : Quiet m x → ReportOf m.request.call x → (L e : ℕ)
      → connection m.result.schedule x ≡ metered (connection s x) L e → Effect s m x
  tidied_up : Quiet m x → Tidies m → (connection m.result.schedule x).live ≡ (connection s x).live
      → (is_live s x ≡ true → connection m.result.schedule x ≡ with_anchor (connection s x) (connection m.result.schedule x).anchor) → Effect s m x
  begun : (lo hi f c k A : ℕ) → AdmissionOf m.request.call x lo hi f c → Placed m.result.answer
      → is_live s x ≡ false → connection m.result.schedule x ≡ new_connection k A f c → Effect s m x
  ended : DropOf m.request.call x → m.result.answer ≡ dropped → connection m.result.schedule x ≡ nobody → Effect s m x
  replaced : (bytes : Bytes) → Restores m bytes → length m.result.schedule.connections ≡ handles
      → sound m.result.schedule ≡ true → IsImage bytes.list m.result.schedule → Effect s m x

-- A call that can neither begin nor end x, whatever its answer.
abbrev Other : ℕ → Call → Type 0
Other x (Admit h lo hi f c) = x ≢ h
Other x (Drop h) = x ≢ h
Other x (Report h sample) = Unit {0}
Other x (Reports reports) = Unit {0}
Other x (Owner b) = Unit {0}
Other x (Anchor h b) = Unit {0}
Other x Save = Unit {0}
Other x (Load bytes) = ⊥
Other x Tidy = Unit {0}

-- Such a call is quiet.
other : {m : Made} {x : ℕ} {call : Call} → m.request.call ≡ call → Other x call → Quiet m x
other {x = x} p o =
    record {
      admits = λ lo hi f c q e. subst (Other x) (sym p ∙ q) o refl;
      drops = λ q e. subst (Other x) (sym p ∙ q) o refl;
      restores = λ bytes w. subst (Other x) (sym p ∙ w.0) o;
    }

module _ (s : Schedule) (good : Good s) (r : Request) (x : ℕ) where
  -- The request, with what is left of it.
  abbrev leaving : Result → Made
  leaving t = record { request = r; result = t }

  -- The effect, where nothing that was lent is written.
  abbrev Leads : Outcome → Type 0
  Leads o = Effect s (leaving (beside r.lent o)) x

  -- A refusal changes nothing; each call that is carried out does its part.
  refusal : (n : ℕ) → Leads (refusing s n)
  refusal n =
      kept
      (record {
        admits = λ lo hi f c p w. let e = w.3 in let z : ◌≡◌ {A = ℕ} 0 1 = cc in omega arith;
        drops = λ p e. let z : ◌≡◌ {A = ℕ} 0 1 = cc in omega arith;
        restores = λ bytes w. let e = w.1.1 in let z : ◌≡◌ {A = ℕ} 0 1 = cc in omega arith;
      })
      refl

  admission : (h lo hi f c : ℕ) → r.call ≡ Admit h lo hi f c → Leads (admit s h lo hi f c)
  unfolding admit_done
  admission h lo hi f c p =
      by_cases (ℕ_discrete x h)
      (λ q.
      admit_cases s h lo hi f c Leads refusal
      (λ a.
      begun lo hi f c a.k (anchor_for s a.k f) (rw q p) (2 ^ a.k, anchor_for s a.k f, f, refl) (rw q a.reached.unused)
      (rw q (set_same s good h a.reached.handle _))))
      (λ q. kept (other p q) (admit_others s good h lo hi f c x q))

  dropping : (h : ℕ) → r.call ≡ Drop h → Leads (drop_handle s h)
  unfolding drop_done
  dropping h p =
      by_cases (ℕ_discrete x h)
      (λ q. drop_cases s h Leads refusal (λ l e. ended (rw q p) refl (rw q (set_same s good h l nobody))))
      (λ q. kept (other p q) (drop_others s good h x q))

  reporting : (h sample : ℕ) → r.call ≡ Report h sample → Leads (report s h sample)
  reporting h sample p =
      ⊎_elim (λ e. kept (other p tt) e) (λ w. moved (other p tt) (single sample (rw w.0 p)) w.1.0 w.1.1 w.1.2) (report_own s good h sample x)

  listing : (reports : List ReportOfList) → r.call ≡ Reports reports → Effect s (leaving (filled r.lent (report_all s reports r.lent.list))) x
  listing reports p =
      ⊎_elim (λ e. kept (other p tt) e) (λ w. moved (other p tt) (listed reports p w.0) w.1.0 w.1.1 w.1.2)
      (report_all_own s reports r.lent.list good x)

  restoring : (bytes : Bytes) → r.call ≡ Load bytes → Leads (load s bytes.list)
  unfolding sound with_connections
  restoring bytes p =
      load_cases s bytes.list bytes.small Leads refusal (λ cs n w. replaced bytes (p, (n, refl)) w.long w.is_sound (sym w.saved))

  tidying : r.call ≡ Tidy → Effect s (leaving (filled r.lent (tidy s r.lent.list))) x
  tidying p =
      ⊎_elim
      (λ w. kept (other p tt) (ap (λ (t : Schedule). connection t x) (tidy_refusal_listed s r.lent.list w.0 w.1).1))
      (λ w. tidied_up (other p tt) (p, w) (tidy_lives s good r.lent.list x) (tidy_same s good r.lent.list x))
      (tidy_says s r.lent.list)

  effect_ruled : Effect s (leaving (ruled s r)) x
  unfolding ruled_call
  effect_ruled = go r.call refl
    where
      go : (call : Call) → r.call ≡ call → Effect s (leaving (ruled_call s call r.lent)) x
      go (Admit h lo hi f c) p = admission h lo hi f c p
      go (Drop h) p = dropping h p
      go (Report h sample) p = reporting h sample p
      go (Reports reports) p = listing reports p
      go (Owner b) p = kept (other p tt) refl
      go (Anchor h b) p = kept (other p tt) refl
      go Save p = kept (other p tt) refl
      go (Load bytes) p = restoring bytes p
      go Tidy p = tidying p

-- The effect of every call on every handle.
pub effect : (s : Schedule) → Good s → (m : Made) → m.result ≡ ruled s m.request → (x : ℕ) → Effect s m x
effect s good m e x = subst⁻¹ (λ (t : Result). Effect s (record { request = m.request; result = t }) x) e (effect_ruled s good m.request x)
