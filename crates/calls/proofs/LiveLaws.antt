-- Which handles are live after a call.
use mathlib.Core.Path.{◌≡◌, refl, sym, ap, ◌∙◌}
use mathlib.Core.Bool.{true, false}
use mathlib.Core.Logic.{◌≢◌, by_cases}
use Prim.Native.Nat.{ℕ}
use native.Mathlib.Decide.{ℕ_discrete}
use Rattle.rules.specs.declared.Connection.{Connection}
use Rattle.rules.specs.declared.Schedule.{Schedule}
use Rattle.rules.specs.Good.{Good}
use Rattle.rules.specs.Answers.{ok, dropped}
use Rattle.rules.specs.Handles.{connection, is_live}
use Rattle.rules.specs.Admit.{admit}
use Rattle.rules.specs.Drop.{drop_handle}
use Rattle.rules.specs.Report.{report_done, report}
use Rattle.calls.proofs.AdmitLaws.{admit_others, admit_stored}
use Rattle.calls.proofs.DropLaws.{drop_others, drop_ends}
use Rattle.calls.proofs.ReportLaws.{report_cases, report_others, new}
use Rattle.blocks.proofs.ScheduleLaws.{set_same}

-- Where a connection is as it was, it is live as it was.
alike : (s t : Schedule) (j : ℕ) → connection t j ≡ connection s j → is_live t j ≡ is_live s j
alike s t j e = ap (λ (c : Connection). c.live) e

module _ (s : Schedule) (good : Good s) (h : ℕ) where
  -- An accepted admission makes its own handle live, and no other.
  pub admit_lives : (lo hi f c F A L : ℕ) → (admit s h lo hi f c).answer ≡ ok F A L → is_live (admit s h lo hi f c).schedule h ≡ true
  admit_lives lo hi f c F A L e = ap (λ (x : Connection). x.live) (admit_stored s good h lo hi f c F A L e).4

  pub admit_lives_other : (lo hi f c j : ℕ) → j ≢ h → is_live (admit s h lo hi f c).schedule j ≡ is_live s j
  admit_lives_other lo hi f c j n = alike s (admit s h lo hi f c).schedule j (admit_others s good h lo hi f c j n)

  -- An accepted drop ends its own handle, and no other.
  pub drop_lives : (drop_handle s h).answer ≡ dropped → is_live (drop_handle s h).schedule h ≡ false
  drop_lives e = ap (λ (x : Connection). x.live) (drop_ends s good h e)

  pub drop_lives_other : (j : ℕ) → j ≢ h → is_live (drop_handle s h).schedule j ≡ is_live s j
  drop_lives_other j n = alike s (drop_handle s h).schedule j (drop_others s good h j n)

  -- A report begins and ends nothing.
  pub report_lives : (sample j : ℕ) → is_live (report s h sample).schedule j ≡ is_live s j
  unfolding report_done
  report_lives sample j =
      by_cases (ℕ_discrete j h)
      (λ q.
      ap (is_live (report s h sample).schedule) q
      ∙ report_cases s h sample (λ o. is_live o.schedule h ≡ is_live s h) (λ n. refl)
      (λ r. ap (λ (x : Connection). x.live) (set_same s good h r.handle (new s good h sample r)))
      ∙ ap (is_live s) (sym q))
      (λ q. alike s (report s h sample).schedule j (report_others s good h sample j q))
