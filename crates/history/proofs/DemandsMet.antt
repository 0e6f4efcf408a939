-- The customer's demands are met by the rule sheet's step, and by every run of the code.
use mathlib.Core.Path.{◌≡◌, ap, ◌∙◌, subst⁻¹}
use mathlib.Core.List.{List}
use Prim.Native.Nat.{ℕ, ◌≤◌}
use lib.ListN.{length}
use Rattle.rules.specs.Handles.{connection}
use Rattle.rules.specs.Answers.{saved}
use Rattle.rules.specs.Lent.{over}
use Rattle.rules.specs.Image.{image}
use Rattle.history.specs.Calls.{ruled}
use Rattle.history.specs.Runs.{Run, more, now, followed, System, By}
use Rattle.history.specs.Demands.{SavesBack, Demand1, Demand2, Demand3}
use Rattle.history.specs.AtMostHalf.{AtMostHalf}
use Rattle.history.specs.Code.{Coded, CodeAsDemanded}
use Rattle.history.proofs.Following.{now_after, result_after, now_sound, coded_ruled}
use Rattle.history.proofs.Taking.{takes_by, takes_coded}
use Rattle.history.proofs.Refusing.{refusals}
use Rattle.history.proofs.Meaning.{meanings}
use Rattle.history.proofs.Counting.{counted_run, near_run}
use Rattle.history.proofs.Lifetimes.{steady, lives, bounded}
use Rattle.history.proofs.Half.{at_most_half, admitted_within}

demand3_ruled : Demand3 (By ruled)
demand3_ruled =
    record {
      counted = λ run x by live. counted_run (connection (now run) x) live ((now_sound run by).numbers x live);
      near = λ run x by live. near_run (connection (now run) x) live ((now_sound run by).numbers x live);
      apart = λ run x y b by. (now_sound run by).apart_ever b x y;
      bounded = bounded;
      steady = steady;
      lives = lives;
    }

-- What holds of every run of one system holds of the runs of another that are among them.
module _ (S T : System) (among : (run : Run) → S run → T run) where
  demand2_among : Demand2 T → Demand2 S
  demand2_among d =
      record {
        intervals = λ run m x lo hi f c F A L s. d.intervals run m x lo hi f c F A L (among (more run m) s);
        factors = λ run x s. d.factors run x (among run s);
        events = λ run x b s. d.events run x b (among run s);
        results = λ run m s. d.results run m (among (more run m) s);
        connections = λ run x s. d.connections run x (among run s);
        tree = λ run s. d.tree run (among run s);
        room = λ run m x lo hi f c k s. d.room run m x lo hi f c k (among (more run m) s);
        restore = λ run m bytes s. d.restore run m bytes (among (more run m) s);
        saves = λ run m s. d.saves run m (among (more run m) s);
        same = λ run m bytes n s. d.same run m bytes n (among (more run m) s);
      }

  demand3_among : Demand3 T → Demand3 S
  demand3_among d =
      record {
        counted = λ run x s. d.counted run x (among run s);
        near = λ run x s. d.near run x (among run s);
        apart = λ run x y b s. d.apart run x y b (among run s);
        bounded = λ run x f c s. d.bounded run x f c (among run s);
        steady = λ run between x s. d.steady run between x (among (followed run between) s);
        lives = λ run x s. d.lives run x (among run s);
      }

-- "An image is restored exactly when it is the image of some sound schedule, and saving that schedule gives the same bytes."
pub saves_back : (S : System) → Demand1 S → Demand2 S → SavesBack S
saves_back S one two run m save bytes n s p a q long =
    let form = (two.restore run m bytes (one.takes.earlier (more run m) save s) p).0 (n, a) in
    let e : image m.result.schedule ≡ bytes.list = two.same run m bytes n (one.takes.earlier (more run m) save s) p a form in
    let w = two.saves (more run m) save s q (subst⁻¹ (λ (l : List ℕ). length l ≤ length save.request.lent.buffer) e long) in (
      w.0 ∙ ap (λ (l : List ℕ). saved (length l)) e,
      w.1 ∙ ap (λ (l : List ℕ). over l save.request.lent.buffer) e,
    )

demand1_coded : Demand1 Coded
demand1_coded = record { takes = takes_coded; refusals = λ run m n c. refusals run m n (coded_ruled (more run m) c) }

demand2_coded : Demand2 Coded
demand2_coded = demand2_among Coded (By ruled) coded_ruled meanings

demand3_coded : Demand3 Coded
demand3_coded = demand3_among Coded (By ruled) coded_ruled demand3_ruled

-- The theorem, of every run of the code.
pub code_as_demanded : CodeAsDemanded
code_as_demanded =
    record {
      schedules = λ run c. now_after run (coded_ruled run c);
      results = λ run m c. result_after run m (coded_ruled (more run m) c);
      demand1 = demand1_coded;
      demand2 = demand2_coded;
      demand3 = demand3_coded;
      half =
          at_most_half Coded demand1_coded demand2_coded demand3_coded
          (λ run m x lo hi f c F A L s. admitted_within run m x lo hi f c F A L (coded_ruled (more run m) s));
    }

-- And of the rule sheet's step: no demand is empty of what it asks.
pub ruled_as_demanded : Demand1 (By ruled) × Demand2 (By ruled) × Demand3 (By ruled) × AtMostHalf (By ruled)
ruled_as_demanded =
    let one : Demand1 (By ruled) = record { takes = takes_by ruled; refusals = refusals } in
    (one, meanings, demand3_ruled, at_most_half (By ruled) one meanings demand3_ruled admitted_within)
