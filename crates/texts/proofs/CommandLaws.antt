-- The laws of the command program's lines: a line and what it says.
use Rattle.std.specs.Prelude.{Option, Some, None}
use mathlib.Core.Path.{◌≡◌, refl, sym, ap, ap₂, ◌∙◌}
use mathlib.Core.Bool.{Bool, true, false, ◌&&◌, cond}
use mathlib.Core.List.{List, [], ◌∷◌, ◌++◌, append-nil}
use Prim.Native.Nat.{ℕ, ◌≤◌}
use native.Mathlib.Omega.{arith}
use lib.Dec.{eqb}
use lib.ListN.{length, get_or, drop, length-append, take-append-drop}
use borrow.Author.Tests.{eqb-true}
use Rattle.std.proofs.lemmas.Option.{none-some}
use Rattle.rules.specs.declared.Command.{Command}
use Rattle.rules.specs.declared.Command.TheVariants.{Admit, AdmitRange, Drop, Report, Owner, Anchor}
use Rattle.rules.specs.Below.{tabulate}
use Rattle.rules.specs.Text.{byte, text}
use Rattle.rules.specs.Bytes.{same}
use Rattle.rules.specs.Decimal.{decimal}
use Rattle.rules.specs.Split.{before}
use Rattle.rules.specs.Words.{spaced}
use Rattle.rules.specs.Commands.{word_of, numbers_of, line_of, all_fit, is_form, named, fields_named, guess, confirmed, says}
use Rattle.texts.specs.Row.{most_numbers, IsRow}
use Rattle.basics.proofs.BoolLaws.{both}
use Rattle.basics.proofs.BytesLaws.{same_exactly}
use Rattle.texts.proofs.SplitLaws.{Without, split_piece, split_none, before_without, before_take}
use Rattle.texts.proofs.DecimalLaws.{decimal_digits}
use Rattle.texts.proofs.RowLaws.{values_spaced, rest_spaced}

-- ---- a command, its word and its numbers
-- No word has a space, and no command more numbers than the most.
pub word_spaceless : (c : Command) → Without (byte " ") (word_of c)
unfolding before
word_spaceless c = rw (clean c) at (before_without (byte " ") (word_of c))
  where
    clean : (c : Command) → before (byte " ") (word_of c) ≡ word_of c
    clean (Admit handle interval floor ceiling) = refl
    clean (AdmitRange handle smallest largest floor ceiling) = refl
    clean (Drop handle) = refl
    clean (Report handle sample) = refl
    clean (Owner block) = refl
    clean (Anchor handle block) = refl

pub numbers_most : (c : Command) → length (numbers_of c) ≤ most_numbers
numbers_most (Admit handle interval floor ceiling) = omega arith
numbers_most (AdmitRange handle smallest largest floor ceiling) = omega arith
numbers_most (Drop handle) = omega arith
numbers_most (Report handle sample) = omega arith
numbers_most (Owner block) = omega arith
numbers_most (Anchor handle block) = omega arith

-- They name the command,
pub named_own : (c : Command) → named (word_of c) (numbers_of c) ≡ Some c
unfolding named same
named_own (Admit handle interval floor ceiling) = refl
named_own (AdmitRange handle smallest largest floor ceiling) = refl
named_own (Drop handle) = refl
named_own (Report handle sample) = refl
named_own (Owner block) = refl
named_own (Anchor handle block) = refl

listed : (ns : List ℕ) → tabulate (length ns) (λ i. get_or ns i 0) ≡ ns
unfolding tabulate
listed [] = refl
listed (n ∷ ns) = ap {B = List ℕ} (λ l. n ∷ l) (listed ns)

-- and no others do: a form gives the command that has it, or it is another form's.
module _ (word ns : List ℕ) (d : Command) where
  abbrev Own : Type 0
  Own = (word ≡ word_of d) × (ns ≡ numbers_of d)

  by_form : (form : List ℕ) (count : ℕ) (c : Command) (later : Option Command) → word_of c ≡ form → numbers_of c ≡ tabulate count (λ i. get_or ns i 0)
      → cond (is_form word ns form count) (Some c) later ≡ Some d → (later ≡ Some d → Own) → Own
  by_form form count c later w n e other = go (is_form word ns form count) refl e
    where
      go : (b : Bool) → is_form word ns form count ≡ b → cond b (Some c) later ≡ Some d → Own
      go true q e =
          let own : c ≡ d = cc in
          let f = both (same word form) (eqb (length ns) count) q in
          let k : length ns ≡ count = eqb-true (length ns) count f.1 in
          ((same_exactly word form).0 f.0 ∙ sym w ∙ ap word_of own, sym (rw k at (listed ns)) ∙ sym n ∙ ap numbers_of own)
      go false q e = other e

  pub named_only : named word ns ≡ Some d → Own
  unfolding named tabulate
  named_only e =
      by_form (text "admit") 4 _ _ refl refl e λ e.
      by_form (text "admit") 5 _ _ refl refl e λ e.
      by_form (text "drop") 1 _ _ refl refl e λ e.
      by_form (text "report") 2 _ _ refl refl e λ e.
      by_form (text "owner") 1 _ _ refl refl e λ e.
      by_form (text "anchor") 2 _ _ refl refl e λ e. absurd (none-some _ e)

-- ---- a line, and the command that is guessed
-- A word with no space, then its numbers.
guess_spaced : (word ns : List ℕ) → Without (byte " ") word → guess (word ++ spaced ns) ≡ named word ns
unfolding spaced guess fields_named
guess_spaced word [] h = rw (append-nil word, split_none (byte " ") word h)
guess_spaced word (n ∷ ns) h = rw (split_piece (byte " ") word (decimal n ++ spaced ns) h) (ap (named word) (values_spaced n ns))

-- A command is guessed from its line.
pub guess_line : (c : Command) → guess (line_of c) ≡ Some c
unfolding line_of
guess_line c = guess_spaced (word_of c) (numbers_of c) (word_spaceless c) ∙ named_own c

-- Two commands are never the same line.
pub line_unique : (c d : Command) → line_of c ≡ line_of d → c ≡ d
line_unique c d e = let same : Some c ≡ Some d = sym (guess_line c) ∙ ap guess e ∙ guess_line d in cc

-- The shortest line of a command is that of a drop.
pub line_length : (c : Command) → 6 ≤ length (line_of c)
unfolding line_of spaced
line_length (Admit handle interval floor ceiling) = omega arith
line_length (AdmitRange handle smallest largest floor ceiling) = omega arith
line_length (Drop handle) = omega (arith, length-append (decimal handle) [], (decimal_digits handle).some_digit)
line_length (Report handle sample) = omega arith
line_length (Owner block) = omega arith
line_length (Anchor handle block) = omega arith

-- ---- a line, and what it says
-- A command written out says that command where its numbers fit, and is bad where one does not.
pub says_own : (c : Command) → says (line_of c) ≡ cond (all_fit (numbers_of c)) (Some c) None
unfolding says confirmed
says_own c = rw (guess_line c, (same_exactly (line_of c) (line_of c)).1 refl)

-- A line is read as a command exactly if it is that command written out, with numbers that fit;
pub says_line : (c : Command) → all_fit (numbers_of c) ≡ true → says (line_of c) ≡ Some c
says_line c h = rw (says_own c, h)

pub says_only : (line : List ℕ) (c : Command) → says line ≡ Some c → (line ≡ line_of c) × (all_fit (numbers_of c) ≡ true)
unfolding says confirmed
says_only line c e = by (guess line) e
  where
    go : (d : Command) (t : Bool) → same (line_of d) line && all_fit (numbers_of d) ≡ t → cond t (Some d) None ≡ Some c → (line ≡ line_of c) × (all_fit (numbers_of c) ≡ true)
    go d true q e =
        let own : d ≡ c = cc in
        let h = rw own at (both (same (line_of d) line) (all_fit (numbers_of d)) q) in
        (sym ((same_exactly (line_of c) line).0 h.0), h.1)
    go d false q e = absurd (none-some _ e)

    by : (l : Option Command) → confirmed line l ≡ Some c → (line ≡ line_of c) × (all_fit (numbers_of c) ≡ true)
    by None e = absurd (none-some _ e)
    by (Some d) e = go d (same (line_of d) line && all_fit (numbers_of d)) refl e

-- and every other line is bad.
pub says_bad : (line : List ℕ) → ((c : Command) → all_fit (numbers_of c) ≡ true → line ≡ line_of c → ⊥) → says line ≡ None
says_bad line h = go (says line) refl
  where
    go : (l : Option Command) → says line ≡ l → says line ≡ None
    go None e = e
    go (Some c) e =
        let r = says_only line c e in
        absurd (h c r.1 r.0)

pub bad_only : (line : List ℕ) → says line ≡ None → (c : Command) → all_fit (numbers_of c) ≡ true → line ≡ line_of c → ⊥
bad_only line e c h q = none-some _ (sym e ∙ ap says q ∙ says_line c h)

-- ---- a line, read as a word and a row
abbrev word_in : List ℕ → List ℕ
word_in line = before (byte " ") line

abbrev row_in : List ℕ → List ℕ
row_in line = drop (length (word_in line)) line

-- The word and the numbers of the row name what the line says;
pub says_row : (line ns : List ℕ) → IsRow (row_in line) ns → says line ≡ named (word_in line) ns
unfolding says confirmed line_of
says_row line ns r = go (named (word_in line) ns) refl
  where
    whole : line ≡ word_in line ++ spaced ns
    whole = sym (rw (← before_take (byte " ") line) at (take-append-drop (length (word_in line)) line)) ∙ ap (λ (l : List ℕ). word_in line ++ l) r.is

    guessed : guess line ≡ named (word_in line) ns
    guessed = ap guess whole ∙ guess_spaced (word_in line) ns (before_without (byte " ") line)

    go : (l : Option Command) → named (word_in line) ns ≡ l → says line ≡ l
    go None e = ap (confirmed line) (guessed ∙ e)
    go (Some c) e =
        let own = named_only (word_in line) ns c e in
        let q : line ≡ line_of c = whole ∙ ap₂ {C = List ℕ} (λ x y. x ++ spaced y) own.0 own.1 in
        ap says q ∙ says_line c (ap all_fit (sym own.1) ∙ r.fit)

-- without such a row it is bad.
pub says_no_row : (line : List ℕ) → ((ns : List ℕ) → length ns ≤ most_numbers → IsRow (row_in line) ns → ⊥) → says line ≡ None
unfolding line_of
says_no_row line h = says_bad line (λ c fit e. h (numbers_of c) (numbers_most c) (record { is = rest c e; fit = fit }))
  where
    rest : (c : Command) → line ≡ line_of c → row_in line ≡ spaced (numbers_of c)
    rest c e = ap row_in e ∙ rest_spaced (word_of c) (numbers_of c) (word_spaceless c)
