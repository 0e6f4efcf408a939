-- Demand 3 over two moments of a run.
use mathlib.Core.Path.{◌≡◌, refl, sym, ap, ◌∙◌, subst}
use mathlib.Core.Bool.{true, false≢true}
use mathlib.Core.List.{List, [], ◌∷◌}
use Prim.Native.Nat.{ℕ}
use native.Mathlib.Omega.{arith}
use Rattle.rules.specs.declared.Schedule.{Schedule}
use Rattle.rules.specs.declared.Connection.{Connection}
use Rattle.rules.specs.Ownership.{handles}
use Rattle.rules.specs.Handles.{connection, is_live}
use Rattle.rules.specs.Report.{metered}
use Rattle.rules.specs.Tidy.{with_anchor}
use Rattle.blocks.proofs.ScheduleLaws.{at_free}
use Rattle.calls.proofs.AdmitLaws.{admit_stored}
use Rattle.history.specs.Calls.{Admit, Load, Result, ruled_call, ruled}
use Rattle.history.specs.Runs.{Start, Fresh, start_of, Made, Run, begun as run_begun, more, now, followed, By}
use Rattle.history.specs.Moments.{Begins, admitted, restored, Ends, drops, replaced as ends_replaced, Lasts, Unreported, Untidied, Alive}
use Rattle.history.specs.Demands.{Bounded, Steady, Lives}
use Rattle.history.proofs.Following.{now_good, now_sound, result_is, restored_connection, earlier_by}
use Rattle.history.proofs.Effects.{Quiet, Effect, kept, moved, tidied_up, begun, ended, replaced, effect}

-- ---- what lasts
-- A connection as it was, but for its length, estimate and anchor; its length and estimate too where it was not reported, and its anchor where there was no
-- accepted tidy.
record Lasting (x : ℕ) (earlier : Run) (between : List Made) : Type 0 where
  length : ℕ
  estimate : ℕ
  anchor : ℕ
  but : connection (now (followed earlier between)) x ≡ with_anchor (metered (connection (now earlier) x) length estimate) anchor
  unreported : Unreported x between → (length ≡ (connection (now earlier) x).length) × (estimate ≡ (connection (now earlier) x).estimate)
  untidied : Untidied between → anchor ≡ (connection (now earlier) x).anchor

module _ (x : ℕ) (earlier : Run) (live : is_live (now earlier) x ≡ true) where
  -- One more call that does not end it.
  longer : (m : Made) (between : List Made) → (Ends m x → ⊥) → Lasting x earlier between
      → Effect (now (followed earlier between)) m x → Lasting x earlier (m ∷ between)
  longer m between never w (kept quiet e) =
      record {
        length = w.length;
        estimate = w.estimate;
        anchor = w.anchor;
        but = e ∙ w.but;
        unreported = λ u. w.unreported u.1;
        untidied = λ u. w.untidied u.1;
      }
  longer m between never w (moved quiet report l n e) =
      record {
        length = l;
        estimate = n;
        anchor = w.anchor;
        but = e ∙ ap (λ (c : Connection). metered c l n) w.but;
        unreported = λ u. absurd (u.0 report);
        untidied = λ u. w.untidied u.1;
      }
  longer m between never w (tidied_up quiet tidies lives e) =
      let A = (connection m.result.schedule x).anchor in
      record {
        length = w.length;
        estimate = w.estimate;
        anchor = A;
        but = e (ap (λ (c : Connection). c.live) w.but ∙ live) ∙ ap (λ (c : Connection). with_anchor c A) w.but;
        unreported = λ u. w.unreported u.1;
        untidied = λ u. absurd (u.0 tidies);
      }
  longer m between never w (begun lo hi f c k A p a unused e) =
      absurd (false≢true (sym unused ∙ ap (λ (c : Connection). c.live) w.but ∙ live))
  longer m between never w (ended p a e) = absurd (never (drops p a))
  longer m between never w (replaced bytes r long is_sound image) = absurd (never (ends_replaced bytes r))

  -- So every live connection is, as long as nothing ends it.
  lasting : (between : List Made) → By ruled (followed earlier between) → Lasts x between → Lasting x earlier between
  lasting [] by lasts =
      let c = connection (now earlier) x in
      record { length = c.length; estimate = c.estimate; anchor = c.anchor; but = refl; unreported = λ u. (refl, refl); untidied = λ u. refl }
  lasting (m ∷ between) by lasts =
      let run = followed earlier between in
      longer m between lasts.0 (lasting between by.0 lasts.1) (effect (now run) (now_good run by.0) m by.1 x)

-- "only its own report changes its length or estimate, and no call its factor", and only an accepted tidy its anchor.
pub steady : Steady (By ruled)
steady earlier between x by live lasts =
    let w = lasting x earlier live between by lasts in (
      ap (λ (c : Connection). c.k) w.but,
      λ u. ap (λ (c : Connection). c.anchor) w.but ∙ w.untidied u,
      λ u. (ap (λ (c : Connection). c.length) w.but ∙ (w.unreported u).0, ap (λ (c : Connection). c.estimate) w.but ∙ (w.unreported u).1),
    )

-- ---- what begins
-- A live connection with this floor and this ceiling.
record Stands (c : Connection) (floor ceiling : ℕ) : Type 0 where
  live : c.live ≡ true
  floored : c.floor ≡ floor
  ceiled : c.ceiling ≡ ceiling

-- So it is right after it began,
begins_stands : (run : Run) (m : Made) → By ruled (more run m) → (x floor ceiling : ℕ) → Begins m x floor ceiling
    → Stands (connection m.result.schedule x) floor ceiling
unfolding ruled_call
begins_stands run m by x floor ceiling (admitted lo hi p (F, A, L, a)) =
    let e = result_is run m by (Admit x lo hi floor ceiling) p in
    let stored = (admit_stored (now run) (now_good run by.0) x lo hi floor ceiling F A L (sym (ap (λ (t : Result). t.answer) e) ∙ a)).4 in
    let c = ap (λ (t : Result). connection t.schedule x) e ∙ stored in
    rw c (record { live = refl; floored = refl; ceiled = refl })
begins_stands run m by x floor ceiling (restored bytes (p, (n, a)) t long is_sound image live f c) =
    let e : connection m.result.schedule x ≡ connection t x =
    ap (λ (r : Result). connection r.schedule x) (result_is run m by (Load bytes) p)
    ∙ restored_connection (now run) t bytes.list long is_sound image x live in
    rw e (record { live = live; floored = f; ceiled = c })

-- and as long as nothing ends it.
alive_stands : (run : Run) → By ruled run → (x floor ceiling : ℕ) → Alive x floor ceiling run → Stands (connection (now run) x) floor ceiling
alive_stands run by x floor ceiling a =
    let first = more a.earlier a.first in
    let whole : By ruled (followed first a.between) = subst (By ruled) a.whole by in
    let b = begins_stands a.earlier a.first (earlier_by ruled first a.between whole) x floor ceiling a.begins in
    let w = lasting x first b.live a.between whole a.lasts in
    rw (a.whole, w.but) (record { live = b.live; floored = b.floored; ceiled = b.ceiled })

-- "L stays between the floor and ceiling it was admitted or restored with."
pub bounded : Bounded (By ruled)
bounded run x floor ceiling by a =
    let w = alive_stands run by x floor ceiling a in
    let n = (now_sound run by).numbers x w.live in
    (omega arith, omega arith)

-- ---- who is live
-- A call begins x, and none ends it since.
abbrev Living : ℕ → Run → Type 0
Living x run = (floor : ℕ) × (ceiling : ℕ) × Alive x floor ceiling run

-- The call begins it,
begins_living : (run : Run) (m : Made) (x floor ceiling : ℕ) → Begins m x floor ceiling → Living x (more run m)
begins_living run m x floor ceiling b = (floor, ceiling, record { earlier = run; first = m; between = []; whole = refl; begins = b; lasts = tt })

-- or it goes on.
still : (run : Run) (m : Made) (x : ℕ) → Quiet m x → Living x run → Living x (more run m)
still run m x quiet (floor, ceiling, a) = (
  floor,
  ceiling,
  record {
    earlier = a.earlier;
    first = a.first;
    between = m ∷ a.between;
    whole = ap (λ (r : Run). more r m) a.whole;
    begins = a.begins;
    lasts = (never, a.lasts);
  },
)
  where
    never : Ends m x → ⊥
    never (drops p e) = quiet.drops p e
    never (ends_replaced bytes w) = quiet.restores bytes w

-- One of the two holds of whoever is live after a call.
goes_on_lem : (run : Run) (m : Made) (x : ℕ) → Effect (now run) m x → (connection m.result.schedule x).live ≡ true
    → (is_live (now run) x ≡ true → Living x run) → Living x (more run m)
goes_on_lem run m x (kept quiet e) live before = still run m x quiet (before (rw e at live))
goes_on_lem run m x (moved quiet report l n e) live before = still run m x quiet (before (rw e at live))
goes_on_lem run m x (tidied_up quiet tidies lives e) live before = still run m x quiet (before (sym lives ∙ live))
goes_on_lem run m x (begun lo hi f c k A p a unused e) live before = begins_living run m x f c (admitted lo hi p a)
goes_on_lem run m x (ended p a e) live before = absurd (false≢true (rw e at live))
goes_on_lem run m x (replaced bytes w long is_sound image) live before =
    begins_living run m x _ _ (restored bytes w m.result.schedule long is_sound image live refl refl)

-- Nobody is live at a start.
start_free : (start : Start) (x : ℕ) → is_live (start_of start) x ≡ true → ⊥
unfolding start_of
start_free Fresh x live = false≢true (rw (at_free handles x) at live)

living : (run : Run) → By ruled run → (x : ℕ) → is_live (now run) x ≡ true → Living x run
living (run_begun start s) by x live = absurd (start_free start x (subst (λ (t : Schedule). is_live t x ≡ true) by live))
living (more run m) by x live = goes_on_lem run m x (effect (now run) (now_good run by.0) m by.1 x) live (living run by.0 x)

-- "It is live from its accepted admission, or the accepted restore .., until its own drop or the next accepted restore".
pub lives : Lives (By ruled)
lives run x by = (living run by x, λ w. (alive_stands run by x w.0 w.1 w.2).live)
