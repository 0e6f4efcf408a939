-- What a line asks for, by the word that it opens with.
use Rattle.std.specs.Prelude.{Some, None}
use Rattle.std.proofs.lemmas.List.{nil_from_length}
use mathlib.Core.Path.{◌≡◌, refl, sym, ap, subst, ◌∙◌}
use mathlib.Core.Bool.{Bool, true, false, ◌&&◌, false≢true}
use mathlib.Core.List.{List, [], ◌∷◌, ◌++◌}
use Prim.Native.Nat.{ℕ, ◌^◌, ◌<◌, ◌≤◌}
use native.Mathlib.Omega.{arith}
use lib.ListN.{length, get_or, take, drop, take-append-drop}
use lib.Seq.{length-take-le}
use borrow.Author.Tests.{lt-ltb, le-leb, leb-true}
use Rattle.rules.specs.declared.Command.{Command}
use Rattle.rules.specs.declared.Command.TheVariants.{Admit, AdmitRange, Drop, Report, Owner, Anchor}
use Rattle.rules.specs.Bytes.{same}
use Rattle.rules.specs.Text.{text}
use Rattle.rules.specs.Words.{spaced}
use Rattle.rules.specs.Commands.{line_of, all_fit, says}
use Rattle.rules.specs.Decimal.{fits}
use Rattle.texts.specs.Row.{IsRow}
use Rattle.basics.proofs.BytesLaws.{same_exactly}
use Rattle.texts.proofs.RowLaws.{row_unique}
use Rattle.texts.proofs.CommandLaws.{says_only, bad_only}
use Rattle.text.specs.Promises.{ReadsRow}
use Rattle.text.proofs.Opening.{opens_long}
use Rattle.hexadecimal.specs.Hex.{hex}
use Rattle.hexadecimal.specs.Promises.{ReadsHex}
use Rattle.order.specs.declared.Order.{Order as Ordered}
use Rattle.order.specs.declared.Order.TheVariants.{Save, SaveInto, Load}
use Rattle.hexadecimal.specs.Lending.{most_buffer}
use Rattle.order.specs.Orders.{Order, command, fresh, save, state, bad, save_into, load, order_line, allowed, asks}
use Rattle.order.specs.Promises.{of_order, Within, Asks, AsksSave}
use Rattle.order.proofs.OrderLaws.{Proper, asks_line, asks_bad}

-- ---- what opens with `save` or `load `
-- A save by itself or into a buffer, a load of some bytes, or none of these.
data Opened : Order → Type 0 where
  saves : Opened save
  into : (n : ℕ) → Opened (save_into n)
  of : (b : ℕ) (bs : List ℕ) → Opened (load (b ∷ bs))
  other : {o : Order} → (take 4 (order_line o) ≡ text "save" → ⊥) → (take 5 (order_line o) ≡ text "load " → ⊥) → Opened o

-- Two words differ in one letter.
apart : (i : ℕ) {x y : List ℕ} → (get_or x i 0 ≡ get_or y i 0 → ⊥) → x ≡ y → ⊥
apart i f e = f (ap (λ (l : List ℕ). get_or l i 0) e)

other_of : (o : Order) (i j : ℕ) → (get_or (take 4 (order_line o)) i 0 ≡ get_or (text "save") i 0 → ⊥) → (get_or (take 5 (order_line o)) j 0 ≡ get_or (text "load ") j 0 → ⊥) → Opened o
other_of o i j f g = other {o = o} (apart i f) (apart j g)

opened_order : (o : Order) → Proper o → Opened o
unfolding order_line line_of
opened_order (command (Admit h i f c)) p = other_of (command (Admit h i f c)) 0 0 (λ e. omega (arith, e)) (λ e. omega (arith, e))
opened_order (command (AdmitRange h s l f c)) p = other_of (command (AdmitRange h s l f c)) 0 0 (λ e. omega (arith, e)) (λ e. omega (arith, e))
opened_order (command (Drop h)) p = other_of (command (Drop h)) 0 0 (λ e. omega (arith, e)) (λ e. omega (arith, e))
opened_order (command (Report h s)) p = other_of (command (Report h s)) 0 0 (λ e. omega (arith, e)) (λ e. omega (arith, e))
opened_order (command (Owner b)) p = other_of (command (Owner b)) 0 0 (λ e. omega (arith, e)) (λ e. omega (arith, e))
opened_order (command (Anchor h b)) p = other_of (command (Anchor h b)) 0 0 (λ e. omega (arith, e)) (λ e. omega (arith, e))
opened_order fresh p = other_of fresh 0 0 (λ e. omega (arith, e)) (λ e. omega (arith, e))
opened_order save p = saves
opened_order state p = other_of state 1 0 (λ e. omega (arith, e)) (λ e. omega (arith, e))
opened_order bad p = absurd p
opened_order (save_into n) p = into n
opened_order (load []) p = other_of (load []) 0 4 (λ e. omega (arith, e)) (λ e. omega (arith, e))
opened_order (load (b ∷ bs)) p = of b bs

-- The line is the word and what follows it.
whole : (line word : List ℕ) (n : ℕ) → take n line ≡ word → line ≡ word ++ drop n line
whole line word n e = sym (take-append-drop n line) ∙ ap (λ (x : List ℕ). x ++ drop n line) e

small_fits : (n : ℕ) → n ≤ most_buffer → all_fit (n ∷ []) ≡ true
unfolding all_fit fits
small_fits n l = ap (λ (b : Bool). b && true) (lt-ltb n (2 ^ 32) (omega arith))

module _ (line : List ℕ) (o : same (take 4 line) (text "save") ≡ true) where
  saved : take 4 line ≡ text "save"
  saved = (same_exactly (take 4 line) (text "save")).0 o

  pub save_long : 4 ≤ length line
  save_long = opens_long line (text "save") o

  -- No number,
  asks_image : IsRow (drop 4 line) [] → AsksSave line (Some Save)
  unfolding order_line allowed spaced
  asks_image r buffer =
      let q : line ≡ order_line save = whole line (text "save") 4 saved ∙ ap (λ (x : List ℕ). text "save" ++ x) r.is in
      record { is = sym (ap asks q ∙ asks_line save tt refl); within = tt }

  -- one that is not too large,
  asks_save : (n : ℕ) → IsRow (drop 4 line) (n ∷ []) → n ≤ most_buffer → AsksSave line (Some (SaveInto n))
  unfolding order_line allowed
  asks_save n r l buffer =
      let q : line ≡ order_line (save_into n) = whole line (text "save") 4 saved ∙ ap (λ (x : List ℕ). text "save" ++ x) r.is in
      record { is = sym (ap asks q ∙ asks_line (save_into n) tt (le-leb n most_buffer l)); within = l }

  -- or anything else.
  asks_no_save : (IsRow (drop 4 line) [] → ⊥) → ((n : ℕ) → n ≤ most_buffer → IsRow (drop 4 line) (n ∷ []) → ⊥) → AsksSave line None
  unfolding order_line allowed spaced all_fit
  asks_no_save f g buffer = record { is = sym (asks_bad line (λ x p a e. refuse (opened_order x p) a e)); within = tt }
    where
      refuse : {x : Order} → Opened x → allowed x ≡ true → line ≡ order_line x → ⊥
      refuse saves a e = f (record { is = ap (drop 4) e; fit = refl })
      refuse (into n) a e = let l = leb-true n most_buffer a in g n l (record { is = ap (drop 4) e; fit = small_fits n l })
      refuse (of b bs) a e = apart 0 (λ z. omega (arith, z)) (sym saved ∙ ap (take 4) e)
      refuse (other h k) a e = h (sym (ap (take 4) e) ∙ saved)

  -- The same, by what was read into room for one number.
  pub save_wrong : (entry exit : List ℕ) → length entry ≡ 1 → ReadsRow (drop 4 line) entry exit None → AsksSave line None
  save_wrong entry exit one f = asks_no_save (f [] (omega arith)) (λ n l. f (n ∷ []) (omega arith))

  module _ (ns : List ℕ) (row : IsRow (drop 4 line) ns) where
    pub save_none : length ns < 1 → AsksSave line (Some Save)
    save_none h = let e : ns ≡ [] = nil_from_length ns (omega arith) in asks_image (rw e at row)

    module _ (h : length ns ≡ 1) where
      single : (l : List ℕ) → length l ≡ 1 → l ≡ get_or l 0 0 ∷ []
      single [] h = absurd (omega arith)
      single (x ∷ l) h = let e : l ≡ [] = nil_from_length l (omega arith) in ap {B = List ℕ} (λ k. x ∷ k) e

      size_row : IsRow (drop 4 line) (get_or ns 0 0 ∷ [])
      size_row = subst (IsRow (drop 4 line)) (single ns h) row

      pub save_right : get_or ns 0 0 ≤ most_buffer → AsksSave line (Some (SaveInto (get_or ns 0 0)))
      save_right l = asks_save (get_or ns 0 0) size_row l

      pub save_large : most_buffer < get_or ns 0 0 → AsksSave line None
      save_large l =
          asks_no_save
          (λ q. let z = ap (λ (x : List ℕ). length x) (row_unique size_row q) in omega (arith, z))
          (λ n k q. let z = ap (λ (x : List ℕ). get_or x 0 0) (row_unique size_row q) in omega (arith, z))

load_line : (bs : List ℕ) → 0 < length bs → text "load " ++ hex bs ≡ order_line (load bs)
unfolding order_line
load_line [] h = absurd (omega arith)
load_line (b ∷ bs) h = refl

module _ (line : List ℕ) (o : same (take 5 line) (text "load ") ≡ true) (buffer : List ℕ) where
  loaded : take 5 line ≡ text "load "
  loaded = (same_exactly (take 5 line) (text "load ")).0 o

  pub load_long : 5 ≤ length line
  load_long = opens_long line (text "load ") o

  -- Bytes in hexadecimal,
  pub asks_load : (n : ℕ) → ReadsHex (drop 5 line) buffer (Some n) → Asks line buffer (Some (Load n))
  unfolding allowed
  asks_load n (some_byte, within, digits, bytes) =
      let q : line ≡ order_line (load (take n buffer)) =
      whole line (text "load ") 5 loaded ∙ ap (λ (x : List ℕ). text "load " ++ x) digits
      ∙ load_line (take n buffer) (omega (arith, some_byte, length-take-le n buffer within)) in
      record { is = sym (ap asks q ∙ asks_line (load (take n buffer)) tt bytes); within = within }

  -- or anything else.
  pub asks_no_load : ReadsHex (drop 5 line) buffer None → Asks line buffer None
  unfolding order_line allowed
  asks_no_load f =
      record {
        is = sym (asks_bad line (λ x p a e. refuse (opened_order x p) a e));
        within = tt;
      }
    where
      refuse : {x : Order} → Opened x → allowed x ≡ true → line ≡ order_line x → ⊥
      refuse saves a e = apart 0 (λ z. omega (arith, z)) (sym loaded ∙ ap (take 5) e)
      refuse (into n) a e = apart 0 (λ z. omega (arith, z)) (sym loaded ∙ ap (take 5) e)
      refuse (of b bs) a e = f (b ∷ bs) (omega arith) a (ap (drop 5) e)
      refuse (other h k) a e = k (sym (ap (take 5) e) ∙ loaded)

-- ---- any line
-- A word by itself.
pub asks_word : (line : List ℕ) (o : Order) → Proper o → allowed o ≡ true → same line (order_line o) ≡ true → asks line ≡ o
asks_word line o p a e = ap asks ((same_exactly line (order_line o)).0 e) ∙ asks_line o p a

-- A command,
pub asks_command : (line : List ℕ) (c : Command) → says line ≡ Some c → asks line ≡ command c
unfolding order_line allowed
asks_command line c e = let w = says_only line c e in ap asks w.0 ∙ asks_line (command c) tt w.1

-- or nothing that is known.
pub asks_nothing : (line : List ℕ) → same line (text "fresh") ≡ false → same line (text "state") ≡ false → same line (text "load") ≡ false
    → same (take 4 line) (text "save") ≡ false → same (take 5 line) (text "load ") ≡ false → says line ≡ None → asks line ≡ bad
unfolding order_line allowed
asks_nothing line fresh' state' load' save' of' says' = asks_bad line known
  where
    isn't : (word : List ℕ) → same line word ≡ false → line ≡ word → ⊥
    isn't word f e = false≢true (sym f ∙ (same_exactly line word).1 e)

    opens : (k : ℕ) (word : List ℕ) → same (take k line) word ≡ false → take k line ≡ word → ⊥
    opens k word f e = false≢true (sym f ∙ (same_exactly (take k line) word).1 e)

    known : (o : Order) → Proper o → allowed o ≡ true → line ≡ order_line o → ⊥
    known (command c) p a e = bad_only line says' c a e
    known fresh p a e = isn't (text "fresh") fresh' e
    known save p a e = opens 4 (text "save") save' (ap (take 4) e)
    known state p a e = isn't (text "state") state' e
    known bad p a e = p
    known (save_into n) p a e = opens 4 (text "save") save' (ap (take 4) e)
    known (load []) p a e = isn't (text "load") load' e
    known (load (b ∷ bs)) p a e = opens 5 (text "load ") of' (ap (take 5) e)

-- ---- what was answered
-- The order by its case, and what lies within the buffer.
pub asked : {line buffer : List ℕ} {r v : Ordered} → Asks line buffer (Some r) → r ≡ v → asks line ≡ of_order buffer (Some v)
asked {buffer = buffer} a e = sym a.is ∙ ap (λ (o : Ordered). of_order buffer (Some o)) e

pub inside : {line buffer : List ℕ} {r v : Ordered} → Asks line buffer (Some r) → r ≡ v → Within buffer (Some v)
inside {buffer = buffer} a e = subst (λ (o : Ordered). Within buffer (Some o)) e a.within
