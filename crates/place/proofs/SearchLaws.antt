-- The search for an open anchor: block by block, and over the free stretches of a depth.
use mathlib.Core.Path.{◌≡◌, sym, ap, ◌∙◌}
use mathlib.Core.Bool.{Bool, true, false, not, false≢true}
use mathlib.Core.Logic.{by_cases}
use mathlib.Core.List.{List}
use Prim.Native.Nat.{ℕ, zero, suc, ◌+◌, ◌-◌, ◌*◌, ◌/◌, ◌%◌, ◌^◌, ◌<◌, ◌≤◌}
use native.Mathlib.Nat.{mod-lt, mod-eq_of_lt, mod-add-mod, pow-suc}
use native.Mathlib.Decide.{ℕ_discrete, dec_lt}
use native.Mathlib.Omega.{arith}
use lib.Pow.{pow_pos, pow_mono}
use lib.Dec.{eqb}
use lib.ListN.{length, get_or, set, length-set, take}
use Rattle.std.proofs.lemmas.List.{get_or-take, length-take-le}
use lib.Seq.{get_or-set_same, get_or-set_other}
use borrow.Author.Tests.{eqb-true, eqb-false}
use Rattle.rules.specs.declared.Refusal.TheVariants.{NoOpenAnchor}
use Rattle.rules.specs.Ownership.{largest_k}
use Rattle.rules.specs.Classes.{class_taken, free, run_free, depth}
use Rattle.rules.specs.Mirror.{mirrored}
use Rattle.rules.specs.TreeBytes.{tree_of, bit_at}
use Rattle.rules.specs.Refusals.{number}
use Rattle.rules.specs.Admit.{is_open, first_open}
use Rattle.rules.specs.Steps.{gives, refuses}
use Rattle.place.specs.Steps.{place_step}
use Rattle.basics.proofs.BoolLaws.{is_false}
use Rattle.basics.proofs.BelowLaws.{every_at, every_of, least_is, least_is_none}
use Rattle.blocks.proofs.MirrorLaws.{mirror_lt, mirror_mirror, mirror_by_half, mirror_zero}
use Rattle.blocks.proofs.TreeLaws.{tree_class}
use Rattle.place.specs.Promises.{row_classes, Anchors, Stretches, StretchesBy, Measures, Lengthens}

-- The run at A is free up to its block n.
abbrev pub Clear : (ℕ → Bool) → ℕ → ℕ → ℕ → Type 0
Clear f k n A = (i : ℕ) → i < n → class_taken f k ((A + i) % 2 ^ k) ≡ false

module _ (f : ℕ → Bool) (k : ℕ) where
  -- A taken class in the run shuts its anchor.
  pub shut_by : (n A j : ℕ) → j < n → class_taken f k ((A + j) % 2 ^ k) ≡ true → is_open f k n A ≡ false
  unfolding is_open run_free free
  shut_by n A j l e = is_false _ (λ o. false≢true (sym (ap not e) ∙ every_at n _ o j l))

  -- One class more.
  pub clear_next : (n A : ℕ) → Clear f k n A → class_taken f k ((A + n) % 2 ^ k) ≡ false → Clear f k (n + 1) A
  clear_next n A c e i l =
      by_cases (ℕ_discrete i n)
      (λ s. rw s e)
      (λ s. c i (omega arith))

-- ---- what a tree shows of the classes of depth k, in counting order
abbrev pub shown : ℕ → List ℕ → ℕ → Bool
shown k tree A = bit_at tree (2 ^ k + mirrored k A)

shown_taken : (f : ℕ → Bool) (k A : ℕ) (tree : List ℕ) → k ≤ depth → A < 2 ^ k → tree ≡ tree_of f → shown k tree A ≡ class_taken f k A
shown_taken f k A tree hk l e = ap (λ (t : List ℕ). shown k t A) e ∙ tree_class f k A hk l

-- ---- block by block
-- The node of the anchor that is tried is its own place.
module _ (f : ℕ → Bool) (k p : ℕ) (bytes : List ℕ) (hk : k ≤ depth) (hp : p < 2 ^ k) (t : bytes ≡ tree_of f) where
  own_place : bit_at bytes (2 ^ k + p) ≡ class_taken f k (mirrored k p)
  own_place = ap (λ (x : ℕ). bit_at bytes (2 ^ k + x)) (sym (mirror_mirror k p hp)) ∙ shown_taken f k (mirrored k p) bytes hk (mirror_lt k p) t

  at_first : (mirrored k p + 0) % 2 ^ k ≡ mirrored k p
  at_first = ap (λ (x : ℕ). x % 2 ^ k) (omega arith) ∙ mod-eq_of_lt (mirror_lt k p)

  pub own_shut : (n : ℕ) → 0 < n → bit_at bytes (2 ^ k + p) ≡ true → is_open f k n (mirrored k p) ≡ false
  own_shut n l e = shut_by f k n (mirrored k p) 0 l (rw at_first (sym own_place ∙ e))

  pub own_clear : bit_at bytes (2 ^ k + p) ≡ false → Clear f k 1 (mirrored k p)
  own_clear e i l =
      let z : i ≡ 0 = omega arith in
      rw (z, at_first) (sym own_place ∙ e)

-- ---- by stretches
-- A stretch does not go round the end of the cycle.
along : (k A n i : ℕ) → n ≤ i → (A + n) % 2 ^ k + (i - n) < 2 ^ k → (A + i) % 2 ^ k ≡ (A + n) % 2 ^ k + (i - n)
along k A n i h l = ap (λ (x : ℕ). x % 2 ^ k) (omega arith) ∙ sym (mod-add-mod (A + n) (2 ^ k) (i - n)) ∙ mod-eq_of_lt l

module _ (f : ℕ → Bool) (k : ℕ) (room : List ℕ) (m : Stretches k f room) where
  pub clear_more : (n A : ℕ) → Clear f k n A → Clear f k (n + get_or room ((A + n) % 2 ^ k) 0) A
  clear_more n A c i l =
      by_cases (dec_lt i n)
      (c i)
      (λ q.
      let w = m.clear ((A + n) % 2 ^ k) (i - n) (mod-lt (A + n) (pow_pos k)) (omega arith) in
      ap (class_taken f k) (along k A n i (omega arith) w.0) ∙ w.1)

  pub shut_at : (n A j : ℕ) → j < n → get_or room ((A + j) % 2 ^ k) 0 ≡ 0 → is_open f k n A ≡ false
  shut_at n A j l e = shut_by f k n A j l (m.shut ((A + j) % 2 ^ k) (mod-lt (A + j) (pow_pos k)) e)

-- ---- what is found
module _ (f : ℕ → Bool) (k n : ℕ) where
  pub found_at : (p : ℕ) → p < 2 ^ k → Clear f k n (mirrored k p) → ((q : ℕ) → q < p → is_open f k n (mirrored k q) ≡ false) → gives (mirrored k p) ≡ place_step f k n
  unfolding place_step first_open is_open run_free free
  found_at p l c b =
      rw (least_is (2 ^ k) (λ p. is_open f k n (mirrored k p)) p l (every_of n _ (λ j h. ap not (c j h))) b)

  pub found_none : ((q : ℕ) → q < 2 ^ k → is_open f k n (mirrored k q) ≡ false) → refuses (number NoOpenAnchor) ≡ place_step f k n
  unfolding place_step first_open
  found_none b = rw (least_is_none (2 ^ k) (λ p. is_open f k n (mirrored k p)) b)

-- ---- the anchors of a depth in node order
-- The anchors of the first n nodes have been listed; the first of all always is.
pub record ListedTo (k n : ℕ) (anchors : List ℕ) : Type 0 where
  pub long : length anchors ≡ row_classes
  pub first : get_or anchors 0 0 ≡ 0
  pub order : (q : ℕ) → q < n → get_or anchors q 0 ≡ mirrored k q

-- One node more.
listed_next : (k n A : ℕ) (anchors : List ℕ) → n < row_classes → A ≡ mirrored k n → ListedTo k n anchors → ListedTo k (n + 1) (set anchors n A)
listed_next k n A anchors l e r =
    let same : get_or (set anchors n A) n 0 ≡ A = get_or-set_same anchors n A 0 (omega (arith, r.long)) in
    record {
      long = length-set anchors n A ∙ r.long;
      first =
          by_cases (ℕ_discrete 0 n)
          (λ s. ap (λ (x : ℕ). get_or (set anchors n A) x 0) s ∙ same ∙ e ∙ ap (mirrored k) (sym s) ∙ mirror_zero k)
          (λ s. get_or-set_other anchors n 0 A 0 s ∙ r.first);
      order = λ q h.
          by_cases (ℕ_discrete q n)
          (λ s. rw s (same ∙ e))
          (λ s. get_or-set_other anchors n q A 0 s ∙ r.order q (omega arith));
    }

-- A depth that has a second node has a highest bit.
highest : (k : ℕ) → 0 < 2 ^ k / 2 → (0 < k) × (2 ^ (k - 1) ≡ 2 ^ k / 2) × (2 ^ k ≡ 2 * (2 ^ k / 2))
highest zero h = absurd (omega arith)
highest (suc k) h =
    let e : suc k - 1 ≡ k = omega arith in
    rw (e, pow-suc 2 k) (omega arith, omega arith, omega arith)

module _ (k p : ℕ) (anchors : List ℕ) (hk : k ≤ largest_k) (hp : p < 2 ^ k / 2) (r : ListedTo k (2 * p) anchors) where
  -- Half of its place has been listed before.
  pub listed_at : get_or anchors p 0 ≡ mirrored k p
  listed_at =
      by_cases (ℕ_discrete p 0)
      (λ s. ap (λ (x : ℕ). get_or anchors x 0) s ∙ r.first ∙ sym (ap (mirrored k) s ∙ mirror_zero k))
      (λ s. r.order p (omega arith))

  -- Two nodes more.
  pub listed_more : ListedTo k (2 * (p + 1)) (set (set anchors (2 * p) (get_or anchors p 0 / 2)) (2 * p + 1) (get_or anchors p 0 / 2 + 2 ^ k / 2))
  listed_more =
      let w = highest k (omega arith) in
      let g : 2 ^ k ≤ row_classes = pow_mono hk in
      let a : get_or anchors p 0 ≡ mirrored k p = listed_at in
      let l : 2 * p / 2 ≡ p = omega arith in
      let l' : 2 * p % 2 ≡ 0 = omega arith in
      let r₁ : (2 * p + 1) / 2 ≡ p = omega arith in
      let r₂ : (2 * p + 1) % 2 ≡ 1 = omega arith in
      let left : get_or anchors p 0 / 2 ≡ mirrored k (2 * p) = rw a (omega (arith, rw (l, l') at (mirror_by_half k (2 * p) w.0))) in
      let right : get_or anchors p 0 / 2 + 2 ^ k / 2 ≡ mirrored k (2 * p + 1) = rw a (omega (arith, w.1, rw (r₁, r₂) at (mirror_by_half k (2 * p + 1) w.0))) in
      let c : 2 * (p + 1) ≡ 2 * p + 1 + 1 = omega arith in
      rw c
      (listed_next k (2 * p + 1) _ _ (omega (arith, w.2)) right
      (listed_next k (2 * p) _ anchors (omega (arith, w.2)) left r))

pub listed_all : (k : ℕ) (anchors : List ℕ) → ListedTo k (2 * (2 ^ k / 2)) anchors → Anchors k anchors
listed_all k anchors r p l =
    by_cases (ℕ_discrete p 0)
    (λ s. rw s (r.first ∙ sym (mirror_zero k)))
    (λ s. r.order p (omega (arith, (highest k (omega arith)).2)))

-- What stands among the anchors of the F nodes of a depth is the anchor of its node.
pub listed_front : (k F p : ℕ) (anchors : List ℕ) → k ≤ largest_k → F ≡ 2 ^ k → length anchors ≡ row_classes → Anchors k anchors
    → p < length (take F anchors) → (p < 2 ^ k) × (get_or (take F anchors) p 0 ≡ mirrored k p)
listed_front k F p anchors hk e l a h =
    let g : 2 ^ k ≤ row_classes = pow_mono hk in
    let q : length (take F anchors) ≡ F = length-take-le F anchors (omega arith) in
    (omega arith, get_or-take F anchors p 0 (omega arith) ∙ a p (omega arith))

-- ---- measuring a depth
-- The stretches from class c on have been measured, by what the answers say; n classes are free from
-- c on.
pub record MeasuredFrom (k c n : ℕ) (says : ℕ → Bool → Type 0) (room : List ℕ) : Type 0 where
  pub long : length room ≡ row_classes
  pub within : c + n ≤ 2 ^ k
  pub ahead : (i : ℕ) → i < n → says (c + i) false
  pub shut : (A : ℕ) → c ≤ A → A < 2 ^ k → get_or room A 0 ≡ 0 → says A true
  pub clear : (A i : ℕ) → c ≤ A → A < 2 ^ k → i < get_or room A 0 → (A + i < 2 ^ k) × says (A + i) false

module _ (k c n : ℕ) (says : ℕ → Bool → Type 0) (room : List ℕ) (hk : k ≤ largest_k) (r : MeasuredFrom k (c + 1) n says room) where
  -- One class more, from which m are free.
  measured_more : (m : ℕ) → c + m ≤ 2 ^ k → (m ≡ 0 → says c true) → ((i : ℕ) → i < m → says (c + i) false) → MeasuredFrom k c m says (set room c m)
  measured_more m w z a =
      let g : 2 ^ k ≤ row_classes = pow_mono hk in
      let same : get_or (set room c m) c 0 ≡ m = get_or-set_same room c m 0 (omega arith) in
      record {
        long = length-set room c m ∙ r.long;
        within = w;
        ahead = a;
        shut = λ A l h e.
            by_cases (ℕ_discrete A c)
            (λ s. rw s (z (sym same ∙ (rw s at e))))
            (λ s. r.shut A (omega arith) h (sym (get_or-set_other room c A m 0 s) ∙ e));
        clear = λ A i l h e.
            by_cases (ℕ_discrete A c)
            (λ s. let b : i < m = rw (s, same) at e in (omega arith, rw s (a i b)))
            (λ s. r.clear A i (omega arith) h (rw (get_or-set_other room c A m 0 s) at e));
      }

  pub measured_taken : says c true → MeasuredFrom k c 0 says (set room c 0)
  measured_taken e = measured_more 0 (omega arith) (λ z. e) (λ i l. absurd (omega arith))

  pub measured_free : says c false → MeasuredFrom k c (n + 1) says (set room c (n + 1))
  measured_free e =
      measured_more (n + 1) (omega arith) (λ z. absurd (omega arith))
      (λ i l.
      by_cases (ℕ_discrete i 0)
      (λ s. let q : c + i ≡ c = omega arith in rw q e)
      (λ s. let q : c + i ≡ c + 1 + (i - 1) = omega arith in rw q (r.ahead (i - 1) (omega arith))))

pub measured_all : (k n : ℕ) (says : ℕ → Bool → Type 0) (room : List ℕ) → MeasuredFrom k 0 n says room → StretchesBy k says room
measured_all k n says room r = record { shut = λ A l z. r.shut A (omega arith) l z; clear = λ A i l h. r.clear A i (omega arith) l h }

-- By the tree: the answer to a class is its node's bit.
pub measured_tree : (k : ℕ) (says : ℕ → Bool → Type 0) (tree room : List ℕ) → k ≤ depth
    → ((A : ℕ) (b : Bool) → A < 2 ^ k → says A b → b ≡ shown k tree A) → StretchesBy k says room → Measures k tree room
measured_tree k says tree room hk q r f e =
    let told : (A : ℕ) (b : Bool) → A < 2 ^ k → says A b → class_taken f k A ≡ b =
    λ A b l s. sym (q A b l s ∙ shown_taken f k A tree hk l e) in
    record {
      shut = λ A l z. told A true l (r.shut A l z);
      clear = λ A i l h.
          let w = r.clear A i l h in
          (w.0, told (A + i) false w.0 w.1);
    }

-- By a row: a class is taken where it has 0.
pub lengthened_row : (k : ℕ) (says : ℕ → Bool → Type 0) (row room : List ℕ)
    → ((A : ℕ) (b : Bool) → A < 2 ^ k → says A b → b ≡ eqb (get_or row A 0) 0) → StretchesBy k says room → Lengthens k row room
lengthened_row k says row room q r f m =
    record {
      shut = λ A l z. m.shut A l (eqb-true (get_or row A 0) 0 (sym (q A true l (r.shut A l z))));
      clear = λ A i l h.
          let w = r.clear A i l h in
          let d = eqb-false (get_or row (A + i) 0) 0 (sym (q (A + i) false w.0 w.1)) in
          let e : A + i + 0 ≡ A + i = omega arith in
          (w.0, ap (class_taken f k) (sym e) ∙ (m.clear (A + i) 0 w.0 (omega arith)).1);
    }
