-- The row of a depth: widened, with a run taken, and what it says of the classes.
use mathlib.Core.Path.{◌≡◌, refl, sym, ap, ◌∙◌, subst}
use mathlib.Core.Bool.{Bool, true, false, cond, ◌||◌}
use mathlib.Core.Logic.{◌≢◌, by_cases}
use mathlib.Core.List.{List}
use Prim.Native.Nat.{ℕ, zero, suc, ◌+◌, ◌-◌, ◌/◌, ◌%◌, ◌^◌, ◌<◌, ◌≤◌}
use native.Mathlib.Nat.{mod-lt, mod-eq_of_lt, mod-eq-sub-mod, pow-suc}
use native.Mathlib.Decide.{ℕ_discrete, dec_lt}
use native.Mathlib.Omega.{arith}
use lib.Pow.{pow_pos, pow_mono}
use lib.Dec.{ltb}
use lib.ListN.{length, get_or, set, length-set}
use lib.Seq.{get_or-set_same, get_or-set_other}
use borrow.Author.Tests.{lt-ltb, le-ltb}
use Rattle.rules.specs.declared.Connection.{Connection}
use Rattle.rules.specs.Time.{minus_mod}
use Rattle.rules.specs.Ownership.{largest_k, nobody, at, owns, taken}
use Rattle.rules.specs.Classes.{class_taken, depth}
use Rattle.basics.proofs.BoolLaws.{bool_iff}
use Rattle.blocks.proofs.EndlessTime.{minus_mod_back, minus_mod_only, belongs_mod}
use Rattle.blocks.proofs.ClassLaws.{class_taken_list}
use Rattle.blocks.proofs.SoundLaws.{owns_parts, taken_at, taken_of}
use Rattle.blocks.proofs.ScheduleLaws.{nobody_owns, others, taken_set, taken_split, live_runs}
use Rattle.place.specs.Promises.{row_classes, Stretches}
use Rattle.tidy.specs.Promises.{Row, Widens, TakesRow}

-- ---- widened
-- What is past both halves: there is one class, and no half.
pub past_halves : (k A : ℕ) → 2 ^ k / 2 + 2 ^ k / 2 ≤ A → A < 2 ^ k → 2 ^ k / 2 ≡ 0
past_halves zero A h l = refl
past_halves (suc k) A h l = absurd (omega (arith, pow-suc 2 k))

-- ---- a run taken
pub taken_none : (k A : ℕ) (entry : List ℕ) → length entry ≡ row_classes → TakesRow k A 0 entry entry
taken_none k A entry e = record { long = e; classes = λ B l. rw (le-ltb (minus_mod B A (2 ^ k)) 0 (omega arith)) refl }

pub taken_next : (k A j : ℕ) (entry room : List ℕ) → k ≤ largest_k → j < 2 ^ k → TakesRow k A j entry room
    → TakesRow k A (j + 1) entry (set room ((A + j) % 2 ^ k) 0)
taken_next k A j entry room hk l t =
    let r = (A + j) % 2 ^ k in
    let small : r < 2 ^ k = mod-lt (A + j) (pow_pos k) in
    let g : 2 ^ k ≤ row_classes = pow_mono hk in
    let inside : r < length room = omega (arith, t.long) in
    record {
      long = length-set room r 0 ∙ t.long;
      classes = λ B m.
          let o = minus_mod B A (2 ^ k) in
          by_cases (ℕ_discrete B r)
          (λ q.
          let e : o ≡ j = minus_mod_only B A (2 ^ k) (pow_pos k) j l (mod-eq_of_lt m ∙ q) in
          rw (lt-ltb o (j + 1) (omega arith)) (ap (λ (x : ℕ). get_or (set room r 0) x 0) q ∙ get_or-set_same room r 0 0 inside))
          (λ q.
          let n : o ≢ j = λ e. q (sym (mod-eq_of_lt m) ∙ sym (minus_mod_back B A (2 ^ k) (pow_pos k)) ∙ ap (λ (x : ℕ). (A + x) % 2 ^ k) e) in
          get_or-set_other room r B 0 0 q ∙ t.classes B m ∙ ap (λ (v : Bool). cond v 0 (get_or entry B 0)) (further o n));
    }
  where
    further : (o : ℕ) → o ≢ j → ltb o j ≡ ltb o (j + 1)
    further o n =
        by_cases (dec_lt o j)
        (λ m. lt-ltb o j m ∙ sym (lt-ltb o (j + 1) (omega arith)))
        (λ m. le-ltb o j (omega arith) ∙ sym (le-ltb o (j + 1) (omega arith)))

-- ---- what it says
-- Of connections whose k is at most that of the depth.
abbrev pub Coarse : ℕ → List Connection → Type 0
Coarse k placed = (g : ℕ) → (at placed g).live ≡ true → (at placed g).k ≤ k

module _ (k : ℕ) (placed : List Connection) (coarse : Coarse k placed) where
  owns_mod : (g b : ℕ) → owns (at placed g) b ≡ true → owns (at placed g) (b % 2 ^ k) ≡ true
  unfolding owns
  owns_mod g b e =
      let p = owns_parts (at placed g) b e in
      rw p.0 (belongs_mod (at placed g) b k (coarse g p.0) ∙ p.1)

  owns_back : (g b : ℕ) → owns (at placed g) (b % 2 ^ k) ≡ true → owns (at placed g) b ≡ true
  unfolding owns
  owns_back g b e =
      let p = owns_parts (at placed g) (b % 2 ^ k) e in
      rw p.0 (sym (belongs_mod (at placed g) b k (coarse g p.0)) ∙ p.1)

  -- A block is taken exactly if its remainder is.
  pub taken_mod : (b : ℕ) → taken placed (b % 2 ^ k) ≡ taken placed b
  taken_mod b =
      bool_iff (taken placed (b % 2 ^ k)) (taken placed b)
      (λ e. let w = taken_at placed (b % 2 ^ k) e in taken_of placed w.0 b (owns_back w.0 b w.1))
      (λ e. let w = taken_at placed b e in taken_of placed w.0 (b % 2 ^ k) (owns_mod w.0 b w.1))

  class_taken_lem : (r : ℕ) → k ≤ depth → r < 2 ^ k → class_taken (taken placed) k r ≡ taken placed r
  class_taken_lem r hk l =
      bool_iff (class_taken (taken placed) k r) (taken placed r)
      (λ e.
      let w = (class_taken_list (taken placed) k r hk l).0 e in
      ap (taken placed) (sym w.2) ∙ taken_mod w.0 ∙ w.3)
      (λ e.
      let g : 2 ^ k ≤ 512 = pow_mono hk in
      (class_taken_list (taken placed) k r hk l).1 (r, omega arith, mod-eq_of_lt l, e))

  -- So the row has the stretches that the search goes by, none of them longer than one class.
  pub row_stretches : (room : List ℕ) → k ≤ depth → Row (2 ^ k) placed room → Stretches k (taken placed) room
  row_stretches room hk row =
      record {
        shut = λ A l e. class_taken_lem A hk l ∙ marked (taken placed A) (sym (row A l) ∙ e);
        clear = λ A i l m.
            let w = clear (taken placed A) i (rw (row A l) at m) in
            let z : A + i ≡ A = omega (arith, w.0) in
            (omega arith, ap (class_taken (taken placed) k) z ∙ class_taken_lem A hk l ∙ w.1);
      }
    where
      marked : (v : Bool) → ◌≡◌ {A = ℕ} (cond v 0 1) 0 → v ≡ true
      marked true e = refl
      marked false e = absurd (omega arith)

      clear : (v : Bool) (i : ℕ) → i < cond v 0 1 → (i ≡ 0) × (v ≡ false)
      clear true i l = absurd (omega arith)
      clear false i l = (omega arith, refl)

-- The row of one depth more.
pub row_widened : (k : ℕ) (placed : List Connection) (entry exit : List ℕ) → ((g : ℕ) → (at placed g).live ≡ true → (at placed g).k < k)
    → Row (2 ^ (k - 1)) placed entry → Widens k entry exit → Row (2 ^ k) placed exit
row_widened zero placed entry exit coarse row w A l =
    let e : A - 2 ^ 0 / 2 ≡ A = omega arith in
    w.upper A (omega arith) l ∙ ap (λ (x : ℕ). get_or entry x 0) e ∙ row A l
row_widened (suc k) placed entry exit coarse row w A l =
    let e : 2 ^ suc k / 2 ≡ 2 ^ k = omega (arith, pow-suc 2 k) in
    let one : suc k - 1 ≡ k = omega arith in
    let lower : Row (2 ^ k) placed entry = subst (λ (n : ℕ). Row (2 ^ n) placed entry) one row in
    by_cases (dec_lt A (2 ^ k))
    (λ m. w.lower A (omega arith) ∙ lower A m)
    (λ m.
    let i = A - 2 ^ k in
    let small : i < 2 ^ k = omega (arith, pow-suc 2 k) in
    let r : A % 2 ^ k ≡ i = mod-eq-sub-mod (omega arith) ∙ mod-eq_of_lt small in
    w.upper A (omega arith) l ∙ ap (λ (x : ℕ). get_or entry (A - x) 0) e ∙ lower i small
    ∙ ap (λ (v : Bool). cond v 0 1) (ap (taken placed) (sym r) ∙ taken_mod k placed (λ g live. omega (arith, coarse g live)) A))

-- The row once a connection is placed in a free slot.
pub row_taken : (k : ℕ) (placed : List Connection) (h : ℕ) (c : Connection) (entry exit : List ℕ) → h < length placed → at placed h ≡ nobody
    → c.live ≡ true → c.k ≡ k → Row (2 ^ k) placed entry → TakesRow k c.anchor c.length entry exit → Row (2 ^ k) (set placed h c) exit
row_taken k placed h c entry exit inside empty live deep row t A l =
    t.classes A l
    ∙ ap (cond (ltb (minus_mod A c.anchor (2 ^ k)) c.length) 0) (row A l)
    ∙ either (ltb (minus_mod A c.anchor (2 ^ k)) c.length) (taken placed A)
    ∙ ap (λ (v : Bool). cond v 0 1) (sym whole)
  where
    either : (v w : Bool) → ◌≡◌ {A = ℕ} (cond v 0 (cond w 0 1)) (cond (v || w) 0 1)
    either true w = refl
    either false w = refl

    alone : taken placed A ≡ others placed h A
    alone = taken_split placed h inside A ∙ ap (λ (x : Connection). owns x A || others placed h A) empty ∙ ap (λ (v : Bool). v || others placed h A) (nobody_owns A)

    whole : taken (set placed h c) A ≡ ltb (minus_mod A c.anchor (2 ^ k)) c.length || taken placed A
    whole =
        taken_set placed h inside c A
        ∙ ap (λ (v : Bool). v || others placed h A) (live_runs c live A ∙ ap (λ (x : ℕ). ltb (minus_mod A c.anchor (2 ^ x)) c.length) deep)
        ∙ ap (λ (v : Bool). ltb (minus_mod A c.anchor (2 ^ k)) c.length || v) (sym alone)
