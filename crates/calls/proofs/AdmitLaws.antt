-- What an admission means.
use mathlib.Core.Path.{◌≡◌, refl, sym, ap, subst⁻¹, ◌∙◌}
use mathlib.Core.Bool.{Bool, true, false, not, ◌||◌, false≢true}
use mathlib.Core.Logic.{◌≢◌, ◌↔◌}
use mathlib.Core.List.{List}
use mathlib.Core.Option.{Option, none, some, get_or}
use Prim.Native.Nat.{ℕ, ◌*◌, ◌^◌, ◌<◌, ◌≤◌}
use native.Mathlib.Omega.{arith}
use lib.Dec.{ltb, eqb}
use lib.ListN.{take}
use borrow.Author.Tests.{le-ltb, ltb-false, ne_eqb, eqb-false, not-false}
use Rattle.rules.specs.declared.Connection.{Connection}
use Rattle.rules.specs.declared.Schedule.{Schedule}
use Rattle.rules.specs.declared.Command.TheVariants.{Admit}
use Rattle.rules.specs.Below.{is_none}
use Rattle.rules.specs.Core.{is_range}
use Rattle.rules.specs.Ownership.{largest_k, owns, taken}
use Rattle.rules.specs.Classes.{depth}
use Rattle.rules.specs.Mirror.{mirrored}
use Rattle.rules.specs.Good.{Good, FreeSlotsZero}
use Rattle.rules.specs.Answers.{Outcome, refusing, ok}
use Rattle.rules.specs.Refusals.{number}
use Rattle.rules.specs.Handles.{is_live, connection}
use Rattle.rules.specs.Admit.{k_in, k_for, share_wrong, is_open, first_open, new_connection, admit_checks, anchor_for, admit_done, admit}
use Rattle.rules.specs.Obey.{single_from, obey}
use Rattle.basics.proofs.BoolLaws.{neither, is_false}
use Rattle.basics.proofs.BelowLaws.{least_some, least_none, least_is_none, is_some}
use Rattle.blocks.proofs.MirrorLaws.{mirror_lt, mirror_mirror}
use Rattle.rules.specs.Sound.{Numbers, sound_connections}
use Rattle.blocks.proofs.SoundLaws.{good_connections}
use Rattle.blocks.proofs.ScheduleLaws.{others, RunFreeEver, run_ever, joined_apart, good_sound, set_good, set_zero, set_other, set_same, inside}
use Rattle.calls.proofs.RefusalLaws.{Passed, passed_take, passed_both, decided_cases}
use Rattle.calls.proofs.RangeLaws.{k_given, k_deep, k_unique, range_most}
use Rattle.blocks.proofs.ClassLaws.{within_depth}

-- ---- the share
pub share_bounds : (f c F : ℕ) → share_wrong f c F ≡ false → (1 ≤ f) × (f ≤ c) × (c ≤ F)
share_bounds f c F e =
    let p = neither (eqb f 0 || ltb c f) (ltb F c) e in
    let q = neither (eqb f 0) (ltb c f) p.0 in
    let n = eqb-false f 0 q.0 in
    (omega arith, ltb-false c f q.1, ltb-false F c p.1)

pub share_fits : (f c F : ℕ) → 1 ≤ f → f ≤ c → c ≤ F → share_wrong f c F ≡ false
share_fits f c F h l m = rw (ne_eqb f 0 (omega arith), le-ltb c f l, le-ltb F c m)

-- ---- the anchor
-- An anchor is open exactly if its whole run is free, in endless time.
pub open_ever : (cs : List Connection) (k n A : ℕ) → sound_connections cs ≡ true → k ≤ depth → (is_open (taken cs) k n A ≡ true) ↔ RunFreeEver cs k n A
unfolding is_open
open_ever = run_ever

-- The first open anchor in node order: none before it is open.
pub first_open_lem : (f : ℕ → Bool) (k n p : ℕ) → first_open f k n ≡ some p → (p < 2 ^ k) × (is_open f k n (mirrored k p) ≡ true) × ((q : ℕ) → q < p → is_open f k n (mirrored k q) ≡ false)
unfolding first_open
first_open_lem f k n p e = least_some (2 ^ k) (λ p. is_open f k n (mirrored k p)) p e

-- Where there is none, no anchor at all is open.
pub none_open : (f : ℕ → Bool) (k n : ℕ) → first_open f k n ≡ none → (A : ℕ) → A < 2 ^ k → is_open f k n A ≡ false
unfolding first_open
none_open f k n e A l =
    ap (is_open f k n) (sym (mirror_mirror k A l)) ∙ least_none (2 ^ k) (λ p. is_open f k n (mirrored k p)) e (mirrored k A) (mirror_lt k A)

pub open_none : (f : ℕ → Bool) (k n : ℕ) → ((A : ℕ) → A < 2 ^ k → is_open f k n A ≡ false) → first_open f k n ≡ none
unfolding first_open
open_none f k n h = least_is_none (2 ^ k) (λ p. is_open f k n (mirrored k p)) (λ p l. h (mirrored k p) (mirror_lt k p))

-- So of sound connections: the first anchor in node order whose whole run is free, in endless time;
module _ (cs : List Connection) (k n : ℕ) (s : sound_connections cs ≡ true) (hk : k ≤ depth) where
  pub first_ever : (p : ℕ) → first_open (taken cs) k n ≡ some p
      → (p < 2 ^ k) × RunFreeEver cs k n (mirrored k p) × ((q : ℕ) → q < p → RunFreeEver cs k n (mirrored k q) → ⊥)
  first_ever p e =
      let w = first_open_lem (taken cs) k n p e in
      (w.0, (open_ever cs k n (mirrored k p) s hk).0 w.1, λ q l r. false≢true (sym (w.2 q l) ∙ (open_ever cs k n (mirrored k q) s hk).1 r))

  -- none exactly if no anchor below F has its whole run free.
  pub none_ever : (first_open (taken cs) k n ≡ none) ↔ ((A : ℕ) → A < 2 ^ k → RunFreeEver cs k n A → ⊥)
  none_ever = (
    λ e A l r. false≢true (sym (none_open (taken cs) k n e A l) ∙ (open_ever cs k n A s hk).1 r),
    λ x. open_none (taken cs) k n (λ A l. is_false (is_open (taken cs) k n A) (λ t. x A l ((open_ever cs k n A s hk).0 t))),
  )

-- ---- what follows k: the share is one of F, and an anchor is open
pub record Placeable (s : Schedule) (k f c : ℕ) : Type 0 where
  pub deep : k ≤ largest_k
  pub share : share_wrong f c (2 ^ k) ≡ false
  pub place : (p : ℕ) × (first_open (taken s.connections) k f ≡ some p)

pub anchor_small : (s : Schedule) (k f : ℕ) → anchor_for s k f < 2 ^ k
unfolding anchor_for
anchor_small s k f = mirror_lt k (get_or (first_open (taken s.connections) k f) 0)

module _ (s : Schedule) (k f c : ℕ) (a : Placeable s k f c) where
  -- The anchor that is given is that of the first open place.
  pub anchor_given : anchor_for s k f ≡ mirrored k a.place.0
  unfolding anchor_for
  anchor_given = ap (λ (o : Option ℕ). mirrored k (get_or o 0)) a.place.1

  pub new_numbers : Numbers (new_connection k (anchor_for s k f) f c)
  new_numbers =
      let b = share_bounds f c (2 ^ k) a.share in
      let o : f ≤ f = omega arith in
      record {
        deep = a.deep;
        anchored = anchor_small s k f;
        positive = b.0;
        floored = o;
        ceiled = b.1;
        whole = b.2;
        metered = omega arith;
      }

  -- It is open:
  anchor_open : is_open (taken s.connections) k f (anchor_for s k f) ≡ true
  anchor_open = ap (is_open (taken s.connections) k f) anchor_given ∙ (first_open_lem (taken s.connections) k f a.place.0 a.place.1).1

  module _ (good : Good s) where
    -- its run belonged to nobody before,
    pub anchor_free : RunFreeEver s.connections k f (anchor_for s k f)
    anchor_free = (open_ever s.connections k f (anchor_for s k f) (good_connections s good) (within_depth a.deep)).0 anchor_open

    -- so to no handle but its own.
    pub new_apart : (h : ℕ) → h ≤ 63 → (b : ℕ) → owns (new_connection k (anchor_for s k f) f c) b ≡ true → others s.connections h b ≡ false
    unfolding is_open
    new_apart h l =
        joined_apart s.connections h (inside s good h l) (new_connection k (anchor_for s k f) f c) refl (good_sound s good) new_numbers anchor_open

-- ---- an admission
-- Checks 1, 2, 4, 15 and 5 pass, and the range gives k.
pub record Reached (s : Schedule) (h lo hi f c k : ℕ) : Type 0 where
  pub handle : h ≤ 63
  pub unused : is_live s h ≡ false
  pub range : is_range lo hi ≡ true
  pub given : k_in lo hi ≡ some k
  pub share : share_wrong f c (2 ^ k) ≡ false

-- It is carried out.
pub record Admissible (s : Schedule) (h lo hi f c : ℕ) : Type 0 where
  pub k : ℕ
  pub reached : Reached s h lo hi f c k
  pub within : 2 * c ≤ 2 ^ k
  pub placeable : Placeable s k f c

-- From the checks, one after the other; and back.
module _ (s : Schedule) (h lo hi f c : ℕ) where
  pub reached : Passed (take 5 (admit_checks s h lo hi f c)) → (k : ℕ) × Reached s h lo hi f c k
  unfolding admit_checks
  reached p =
      let g = is_some (k_in lo hi) p.1.1.1.0 in (
        g.0,
        record {
          handle = ltb-false 63 h p.0;
          unused = p.1.0;
          range = not-false (is_range lo hi) p.1.1.0;
          given = g.1;
          share = rw (k_given lo hi g.0 g.1) at p.1.1.1.1.0;
        },
      )

  pub passed : (k : ℕ) → Reached s h lo hi f c k → Passed (take 5 (admit_checks s h lo hi f c))
  unfolding admit_checks
  passed k r =
      (le-ltb 63 h r.handle, (r.unused, (ap not r.range, (ap is_none r.given, (rw (k_given lo hi k r.given) r.share, tt)))))

  -- With 20 they are those before the check of room.
  pub reached_within : Passed (take 6 (admit_checks s h lo hi f c)) → (k : ℕ) × Reached s h lo hi f c k × (2 * c ≤ 2 ^ k)
  unfolding admit_checks
  reached_within p =
      let w = reached (passed_take 5 (take 6 (admit_checks s h lo hi f c)) p) in
      (w.0, w.1, ltb-false (2 ^ w.0) (2 * c) (rw (k_given lo hi w.0 w.1.given) at p.1.1.1.1.1.0))

  pub passed_within : (k : ℕ) → Reached s h lo hi f c k → 2 * c ≤ 2 ^ k → Passed (take 6 (admit_checks s h lo hi f c))
  unfolding admit_checks
  passed_within k r l =
      passed_both 5 (take 6 (admit_checks s h lo hi f c)) (passed k r) (rw (k_given lo hi k r.given) (le-ltb (2 ^ k) (2 * c) l), tt)

pub admit_cases {ℓ} : (s : Schedule) (h lo hi f c : ℕ) (P : Outcome → Type ℓ) → ((n : ℕ) → P (refusing s n))
    → ((a : Admissible s h lo hi f c) → P (admit_done s h a.k f c)) → P (admit s h lo hi f c)
unfolding admit admit_checks
admit_cases s h lo hi f c P no' yes' =
    decided_cases P (admit_checks s h lo hi f c) (refusing s) (admit_done s h (k_for lo hi) f c) (λ why. no' (number why))
    (λ p.
    let w = reached_within s h lo hi f c (passed_take 6 (admit_checks s h lo hi f c) p) in
    let r = w.1 in
    let q = k_given lo hi w.0 r.given in
    subst⁻¹ (λ (k : ℕ). P (admit_done s h k f c)) q
    (yes'
    (record {
      k = w.0;
      reached = r;
      within = w.2;
      placeable = record { deep = k_deep lo hi w.0 r.given; share = r.share; place = is_some _ (rw q at p.1.1.1.1.1.1.0) };
    })))

-- A range that has 1,536 in it gives F 256,
pub answers_256 : (s : Schedule) (h lo hi f c F A L : ℕ) → lo ≤ 1536 → 1536 ≤ hi → (admit s h lo hi f c).answer ≡ ok F A L → F ≡ 256
unfolding admit_done
answers_256 s h lo hi f c F A L l m =
    admit_cases s h lo hi f c (λ o. o.answer ≡ ok F A L → F ≡ 256)
    (λ n e. let z : ◌≡◌ {A = ℕ} 0 1 = cc in absurd (omega arith))
    (λ a e.
    let q : largest_k ≡ a.k = k_unique lo hi largest_k a.k (range_most lo hi a.reached.range l m) a.reached.given in
    let p : 2 ^ a.k ≡ F = cc in
    sym (ap (λ (k : ℕ). 2 ^ k) q ∙ p))

-- and so "one interval of 3,072 to 3,200 gives F 256".
pub single_256 : (s : Schedule) (h i f c F A L : ℕ) → 3072 ≤ i → (obey s (Admit h i f c)).answer ≡ ok F A L → F ≡ 256
unfolding obey
single_256 s h i f c F A L l = answers_256 s h single_from i f c F A L (omega arith) (omega arith)

module _ (s : Schedule) (good : Good s) (h lo hi f c : ℕ) where
  -- An admission leaves a good schedule.
  pub admit_good : Good (admit s h lo hi f c).schedule
  unfolding admit_done
  admit_good = admit_cases s h lo hi f c (λ o. Good o.schedule) (λ n. good) (λ a. set_good s good h a.reached.handle _ (λ e. new_numbers s a.k f c a.placeable) (new_apart s a.k f c a.placeable good h a.reached.handle))

  pub admit_zero : FreeSlotsZero s → FreeSlotsZero (admit s h lo hi f c).schedule
  unfolding admit_done
  admit_zero z = admit_cases s h lo hi f c (λ o. FreeSlotsZero o.schedule) (λ n. z) (λ a. set_zero s good h a.reached.handle z _ (λ e. absurd (false≢true (sym e))))

  -- Every other connection is as it was.
  pub admit_others : (j : ℕ) → j ≢ h → connection (admit s h lo hi f c).schedule j ≡ connection s j
  unfolding admit_done
  admit_others j n = admit_cases s h lo hi f c (λ o. connection o.schedule j ≡ connection s j) (λ n. refl) (λ a. set_other s good h a.reached.handle _ j n)

  -- After `ok F A L` the stored connection has these numbers, F by the k that the range gives, with its floor, its ceiling and its estimate.
  pub admit_stored : (F A L : ℕ) → (admit s h lo hi f c).answer ≡ ok F A L
      → (k : ℕ) × (k_in lo hi ≡ some k) × (F ≡ 2 ^ k) × (L ≡ f) × (connection (admit s h lo hi f c).schedule h ≡ new_connection k A f c)
  unfolding admit_done
  admit_stored F A L =
      admit_cases s h lo hi f c (λ o. o.answer ≡ ok F A L → (k : ℕ) × (k_in lo hi ≡ some k) × (F ≡ 2 ^ k) × (L ≡ f) × (connection o.schedule h ≡ new_connection k A f c))
      (λ n e. let z : ◌≡◌ {A = ℕ} 0 1 = cc in absurd (omega arith))
      (λ a e.
      let p : anchor_for s a.k f ≡ A = cc in
      (a.k, a.reached.given, (cc), (cc), set_same s good h a.reached.handle _ ∙ ap (λ (x : ℕ). new_connection a.k x f c) p))
