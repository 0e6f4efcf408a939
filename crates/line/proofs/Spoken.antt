-- What a line says: its word, and the row behind it.
use mathlib.Core.Path.{◌≡◌, refl, sym, ap, ap₂, ◌∙◌}
use mathlib.Core.Bool.{true, false, ◌&&◌}
use mathlib.Core.List.{List}
use Prim.Native.Nat.{ℕ}
use native.Mathlib.Omega.{arith}
use lib.Dec.{eqb}
use lib.ListN.{length, get_or, take, drop}
use borrow.Author.Tests.{eqb-true, eq-eqb}
use Rattle.std.specs.Prelude.{Some, None}
use Rattle.std.proofs.lemmas.Slice.Eq.{HasBytesAt, text_from_reads}
use Rattle.rules.specs.declared.Command.TheVariants.{Admit, AdmitRange, Drop, Report, Owner, Anchor}
use Rattle.rules.specs.Bytes.{same}
use Rattle.rules.specs.Split.{before}
use Rattle.rules.specs.Text.{text}
use Rattle.rules.specs.Commands.{is_form, named, says}
use Rattle.texts.specs.Row.{most_numbers, IsRow}
use Rattle.basics.proofs.BoolLaws.{both, is_false}
use Rattle.basics.proofs.BytesLaws.{same_exactly}
use Rattle.texts.proofs.SplitLaws.{before_take}
use Rattle.texts.proofs.CommandLaws.{says_row, says_no_row}
use Rattle.text.specs.Promises.{HasRow, ReadsRow}

-- ---- a form: its word, byte by byte, and as many numbers
module _ (word ns : List ℕ) where
  abbrev pub Has : List ℕ → ℕ → Type 0
  Has form count = (length word ≡ length form) × HasBytesAt word 0 form × (length ns ≡ count)

  abbrev Lacks : List ℕ → ℕ → Type 0
  Lacks form count = is_form word ns form count ≡ false

  has : (form : List ℕ) (count : ℕ) → Has form count → is_form word ns form count ≡ true
  has form count h = ap₂ ◌&&◌ ((same_exactly word form).1 (text_from_reads word form h.0 h.1)) (eq-eqb (length ns) count h.2)

  lacks : (form : List ℕ) (count : ℕ) → (word ≡ form → length ns ≡ count → ⊥) → Lacks form count
  lacks form count f =
      is_false (is_form word ns form count) (λ e.
      let b = both (same word form) (eqb (length ns) count) e in
      f ((same_exactly word form).0 b.0) (eqb-true (length ns) count b.1))

  -- Another length, first letter or count is another form.
  other : (form : List ℕ) (count : ℕ) → (length word ≡ length form → get_or word 0 0 ≡ get_or form 0 0 → length ns ≡ count → ⊥) → Lacks form count
  other form count f = lacks form count (λ e. f (ap (λ (w : List ℕ). length w) e) (ap (λ (w : List ℕ). get_or w 0 0) e))

  -- ---- the command of a form
  pub named_admit : Has (text "admit") 4 → Some (Admit (get_or ns 0 0) (get_or ns 1 0) (get_or ns 2 0) (get_or ns 3 0)) ≡ named word ns
  unfolding named
  named_admit h = rw (has (text "admit") 4 h)

  pub named_range : Has (text "admit") 5 → Some (AdmitRange (get_or ns 0 0) (get_or ns 1 0) (get_or ns 2 0) (get_or ns 3 0) (get_or ns 4 0)) ≡ named word ns
  unfolding named
  named_range h = rw (
    other (text "admit") 4 (λ l f n. omega (arith, h)),
    has (text "admit") 5 h,
  )

  pub named_drop : Has (text "drop") 1 → Some (Drop (get_or ns 0 0)) ≡ named word ns
  unfolding named
  named_drop h = rw (
    other (text "admit") 4 (λ l f n. omega (arith, h)),
    other (text "admit") 5 (λ l f n. omega (arith, h)),
    has (text "drop") 1 h,
  )

  pub named_report : Has (text "report") 2 → Some (Report (get_or ns 0 0) (get_or ns 1 0)) ≡ named word ns
  unfolding named
  named_report h = rw (
    other (text "admit") 4 (λ l f n. omega (arith, h)),
    other (text "admit") 5 (λ l f n. omega (arith, h)),
    other (text "drop") 1 (λ l f n. omega (arith, h)),
    has (text "report") 2 h,
  )

  pub named_owner : Has (text "owner") 1 → Some (Owner (get_or ns 0 0)) ≡ named word ns
  unfolding named
  named_owner h = rw (
    other (text "admit") 4 (λ l f n. omega (arith, h)),
    other (text "admit") 5 (λ l f n. omega (arith, h)),
    other (text "drop") 1 (λ l f n. omega (arith, h)),
    other (text "report") 2 (λ l f n. omega (arith, h)),
    has (text "owner") 1 h,
  )

  pub named_anchor : Has (text "anchor") 2 → Some (Anchor (get_or ns 0 0) (get_or ns 1 0)) ≡ named word ns
  unfolding named
  named_anchor h = rw (
    other (text "admit") 4 (λ l f n. omega (arith, h)),
    other (text "admit") 5 (λ l f n. omega (arith, h)),
    other (text "drop") 1 (λ l f n. omega (arith, h)),
    other (text "report") 2 (λ l f n. omega (arith, h)),
    other (text "owner") 1 (λ l f n. omega (arith, h)),
    has (text "anchor") 2 h,
  )

  -- A word and numbers of no form.
  pub named_none : (Has (text "admit") 4 → ⊥) → (Has (text "admit") 5 → ⊥) → (Has (text "drop") 1 → ⊥) → (Has (text "report") 2 → ⊥) → (Has (text "owner") 1 → ⊥) → (Has (text "anchor") 2 → ⊥) → None ≡ named word ns
  unfolding named
  named_none f0 f1 f2 f3 f4 f5 = rw (
    lacks (text "admit") 4 (λ e l. f0 (rw e refl, rw e (refl, (refl, (refl, (refl, (refl, tt))))), l)),
    lacks (text "admit") 5 (λ e l. f1 (rw e refl, rw e (refl, (refl, (refl, (refl, (refl, tt))))), l)),
    lacks (text "drop") 1 (λ e l. f2 (rw e refl, rw e (refl, (refl, (refl, (refl, tt)))), l)),
    lacks (text "report") 2 (λ e l. f3 (rw e refl, rw e (refl, (refl, (refl, (refl, (refl, (refl, tt)))))), l)),
    lacks (text "owner") 1 (λ e l. f4 (rw e refl, rw e (refl, (refl, (refl, (refl, (refl, tt))))), l)),
    lacks (text "anchor") 2 (λ e l. f5 (rw e refl, rw e (refl, (refl, (refl, (refl, (refl, (refl, tt)))))), l)),
  )

pub ruleset forms = (named_admit, named_range, named_drop, named_report, named_owner, named_anchor, named_none)

-- ---- a line: the word ends at the first space
module _ (line : List ℕ) (stop : ℕ) (q : stop ≡ length (before 32 line)) (entry exit : List ℕ) where
  -- A row behind it,
  pub says_named : (n : ℕ) → HasRow (drop stop line) entry exit n → named (take stop line) (take n exit) ≡ says line
  says_named n h =
      let word : take stop line ≡ before 32 line = ap (λ (k : ℕ). take k line) q ∙ sym (before_take 32 line) in
      let row : IsRow (drop (length (before 32 line)) line) (take n exit) = rw q at h.row in
      ap (λ (w : List ℕ). named w (take n exit)) word ∙ sym (says_row line (take n exit) row)

  -- or none that a command has.
  pub says_wrong : length entry ≡ most_numbers → ReadsRow (drop stop line) entry exit None → None ≡ says line
  says_wrong e wrong = sym (says_no_row line (λ ns l r. wrong ns (omega arith) (rw q r)))
