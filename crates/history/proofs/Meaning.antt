-- Demand 2: what the definitions give, room exactly, images exactly.
use mathlib.Core.Path.{◌≡◌, refl, sym, subst, ap, ◌∙◌}
use mathlib.Core.Bool.{Bool, true, ◌&&◌}
use Prim.Native.Nat.{ℕ, ◌^◌}
use native.Mathlib.Omega.{arith}
use borrow.Author.Tests.{ltb-false, not-false}
use Rattle.rules.specs.declared.Schedule.{Schedule}
use Rattle.rules.specs.Core.{is_range}
use Rattle.rules.specs.Ownership.{belongs, owns}
use Rattle.rules.specs.Good.{Good}
use Rattle.rules.specs.Handles.{connection}
use Rattle.rules.specs.Answers.{Answer, Written, ok}
use Rattle.rules.specs.Admit.{admit_done, admit}
use Rattle.rules.specs.Image.{image}
use Rattle.blocks.proofs.EndlessTime.{belongs_reserved}
use Rattle.rules.specs.Subrates.{is_factor}
use Rattle.rules.specs.Sound.{Numbers}
use Rattle.calls.proofs.FactorLaws.{factor_legal}
use Rattle.calls.proofs.RangeLaws.{interval_longest, k_unique}
use Rattle.calls.proofs.AdmitLaws.{Reached, admit_cases}
use Rattle.calls.proofs.RoomLaws.{no_room_exactly, room_exactly}
use Rattle.images.proofs.SaveLaws.{save_whole}
use Rattle.images.proofs.ImageLaws.{load_exactly, load_saves}
use Rattle.history.specs.Calls.{Admit, Save, Load, Result, ruled_call, ruled}
use Rattle.history.specs.Runs.{now, By}
use Rattle.history.specs.Demands.{Meant, IntervalsMeant, FactorsMeant, EventsMeant, ResultsGiven, ConnectionsGiven, TreeGiven, Reaches, RoomAsked, RoomExact, RestoreExact, SavesImage, SavesSame, Demand2}
use Rattle.history.proofs.Following.{now_after, result_after, result_is, now_good, now_sound}

-- ---- intervals
interval_meant : (s : Schedule) (x lo hi f c F A L : ℕ) → (admit s x lo hi f c).answer ≡ ok F A L → Meant lo hi F
unfolding admit_done
interval_meant s x lo hi f c F A L =
    admit_cases s x lo hi f c (λ o. o.answer ≡ ok F A L → Meant lo hi F)
    (λ n e. let z : ◌≡◌ {A = ℕ} 0 1 = cc in absurd (omega arith))
    (λ a e.
    let p : 2 ^ a.k ≡ F = cc in
    let w = interval_longest lo hi a.k A f c a.reached.range a.reached.given in
    record {
      allowed = a.reached.range;
      legal = subst (λ (n : ℕ). is_factor n ≡ true) p ((factor_legal a.k).1 a.placeable.deep);
      power = (a.k, sym p);
      not_below = omega (arith, p, w.1);
      not_above = omega (arith, p, w.2);
      longest = λ k d l h. omega (arith, p, w.3 k ((factor_legal k).0 d) l h);
    })

intervals : IntervalsMeant (By ruled)
unfolding ruled_call
intervals run m x lo hi f c F A L by p a =
    interval_meant (now run) x lo hi f c F A L (sym (ap (λ (t : Result). t.answer) (result_is run m by (Admit x lo hi f c) p)) ∙ a)

-- ---- factors and events
factors : FactorsMeant (By ruled)
factors run x by live = (factor_legal (connection (now run) x).k).1 ((now_sound run by).numbers x live).deep

events : EventsMeant (By ruled)
unfolding owns
events run x b by live =
    let c = connection (now run) x in
    let n : Numbers c = (now_sound run by).numbers x live in
    let u = belongs_reserved c b (omega (arith, n.positive, n.floored)) in
    let o : owns c b ≡ belongs c b = ap (λ (v : Bool). v && belongs c b) live in
    (λ t. u.0 (sym o ∙ t), λ t. o ∙ u.1 t)

-- ---- what is given
results : ResultsGiven (By ruled)
results run m by =
    let e = result_after run m by in
    (ap (λ (t : Result). t.answer) e, ap (λ (t : Result). t.lent) e)

connections : ConnectionsGiven (By ruled)
connections run x by =
    let e = ap (λ (s : Schedule). connection s x) (now_after run by) in
    record { live = ap (λ (s : Schedule). (connection s x).live) (now_after run by); numbers = λ live. e }

tree : TreeGiven (By ruled)
tree run by = (now_good run by).has_tree

-- ---- room
-- Of an admission that reaches the room check.
room_asked : (s : Schedule) → Good s → (x lo hi f c k : ℕ) → Reaches s x lo hi f c k → RoomAsked s (admit s x lo hi f c).answer (2 ^ k) f
room_asked s good x lo hi f c k reach =
    let r : Reached s x lo hi f c k =
    record {
      handle = ltb-false 63 x reach.handle;
      unused = reach.unused;
      range = not-false (is_range lo hi) reach.range;
      given = reach.given;
      share = reach.share;
    } in
    let none = no_room_exactly s good x lo hi f c in
    let some = room_exactly s good x lo hi f c k r reach.half in
    record {
      shut = (
        λ a A l free.
            let n = none.0 a in
            let q : k ≡ n.k = k_unique lo hi k n.k reach.given n.reached.given in
            n.shut A (rw (← q) l) (rw (← q) (λ j lj b y m. free j lj b m y)),
        λ shut. none.1 (record { k = k; reached = r; within = reach.half; shut = λ A l free. shut A l (λ j lj b m y. free j lj b y m) }),
      );
      opens = (
        λ placed. let w = some.0 placed in (w.0, w.1, λ j lj b m y. w.2 j lj b y m),
        λ w. some.1 (w.0, w.1, λ j lj b y m. w.2 j lj b m y),
      );
    }

room : RoomExact (By ruled)
unfolding ruled_call
room run m x lo hi f c k by p reach =
    let e = ap (λ (t : Result). t.answer) (result_is run m by (Admit x lo hi f c) p) in
    subst (λ (a : Answer). RoomAsked (now run) a (2 ^ k) f) (sym e) (room_asked (now run) (now_good run by.0) x lo hi f c k reach)

-- ---- images
restore : RestoreExact (By ruled)
unfolding ruled_call
restore run m bytes by p =
    let q = ap (λ (t : Result). t.answer) (result_is run m by (Load bytes) p) in
    let l = load_exactly (now run) bytes.list bytes.small in
    (λ w. l.0 (w.0, sym q ∙ w.1), λ w. let a = l.1 w in (a.0, q ∙ a.1))

saves : SavesImage (By ruled)
unfolding ruled_call
saves run m by p long =
    let w = save_whole (now run) m.request.lent.buffer (image (now run)) refl long in
    let e = result_is run m by Save p in (
      ap (λ (t : Result). t.answer) e ∙ ap (λ (v : Written). v.answer) w,
      ap (λ (t : Result). t.lent.buffer) e ∙ ap (λ (v : Written). v.buffer) w,
    )

same : SavesSame (By ruled)
unfolding ruled_call
same run m bytes n by p a form =
    let q = result_is run m by (Load bytes) p in
    ap (λ (t : Result). image t.schedule) q
    ∙ load_saves (now run) bytes.list n bytes.small (sym (ap (λ (t : Result). t.answer) q) ∙ a)

pub meanings : Demand2 (By ruled)
meanings =
    record {
      intervals = intervals;
      factors = factors;
      events = events;
      results = results;
      connections = connections;
      tree = tree;
      room = room;
      restore = restore;
      saves = saves;
      same = same;
    }
