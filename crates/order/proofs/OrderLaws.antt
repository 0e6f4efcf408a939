-- A line asks for an order exactly if it is that order written out, and every other line is bad.
use mathlib.Core.Path.{◌≡◌, refl, sym, ap, ap₂, subst, ◌∙◌}
use mathlib.Core.Bool.{Bool, true, false, ◌&&◌, cond}
use mathlib.Core.List.{List, [], ◌∷◌, append-nil}
use Prim.Native.Nat.{ℕ}
use Rattle.rules.specs.declared.Command.TheVariants.{Admit, AdmitRange, Drop, Report, Owner, Anchor}
use Rattle.rules.specs.Bytes.{same}
use Rattle.rules.specs.Decimal.{decimal, value}
use Rattle.rules.specs.Words.{spaced}
use Rattle.rules.specs.Commands.{line_of}
use Rattle.basics.proofs.BoolLaws.{both, is_false}
use Rattle.basics.proofs.BytesLaws.{same_exactly}
use Rattle.texts.proofs.DecimalLaws.{value_decimal}
use Rattle.texts.proofs.CommandLaws.{guess_line}
use Rattle.hexadecimal.specs.Hex.{hex}
use Rattle.order.specs.Orders.{Order, command, fresh, save, state, bad, save_into, load, order_line, allowed, of_line, ordered, asks}
use Rattle.hexadecimal.proofs.HexLaws.{unhex_hex}

-- ---- the order of a line
-- Any order but the bad one.
abbrev pub Proper : Order → Type 0
Proper (command c) = Unit {0}
Proper fresh = Unit {0}
Proper save = Unit {0}
Proper state = Unit {0}
Proper bad = ⊥
Proper (save_into n) = Unit {0}
Proper (load bytes) = Unit {0}

-- An order, written out, is read back.
ordered_line : (o : Order) → Proper o → ordered (order_line o) ≡ o
unfolding ordered order_line line_of spaced same hex
ordered_line (command (Admit h i f c)) p = ap of_line (guess_line (Admit h i f c))
ordered_line (command (AdmitRange h s l f c)) p = ap of_line (guess_line (AdmitRange h s l f c))
ordered_line (command (Drop h)) p = ap of_line (guess_line (Drop h))
ordered_line (command (Report h s)) p = ap of_line (guess_line (Report h s))
ordered_line (command (Owner b)) p = ap of_line (guess_line (Owner b))
ordered_line (command (Anchor h b)) p = ap of_line (guess_line (Anchor h b))
ordered_line fresh p = refl
ordered_line save p = refl
ordered_line state p = refl
ordered_line bad p = absurd p
ordered_line (save_into n) p = ap save_into (ap value (append-nil (decimal n)) ∙ value_decimal n)
ordered_line (load []) p = refl
ordered_line (load (b ∷ bs)) p = ap load (unhex_hex (b ∷ bs))

-- ---- exactly
-- The line of an order that is allowed asks for it;
pub asks_line : (o : Order) → Proper o → allowed o ≡ true → asks (order_line o) ≡ o
unfolding asks
asks_line o p a =
    let e = ordered_line o p in
    let s : same (order_line (ordered (order_line o))) (order_line o) ≡ true = (same_exactly _ _).1 (ap order_line e) in
    let t : allowed (ordered (order_line o)) ≡ true = ap allowed e ∙ a in
    ap (λ (b : Bool). cond b (ordered (order_line o)) bad) (ap₂ ◌&&◌ s t) ∙ e

-- a line that is none of these is bad;
pub asks_bad : (line : List ℕ) → ((o : Order) → Proper o → allowed o ≡ true → line ≡ order_line o → ⊥) → asks line ≡ bad
unfolding asks
asks_bad line f = go (ordered line)
  where
    none : (o : Order) → Proper o → cond (same (order_line o) line && allowed o) o bad ≡ bad
    none o p =
        ap (λ (b : Bool). cond b o bad)
        (is_false (same (order_line o) line && allowed o) (λ e.
        let w = both (same (order_line o) line) (allowed o) e in
        f o p w.1 (sym ((same_exactly (order_line o) line).0 w.0))))

    either : (b : Bool) → cond b bad bad ≡ bad
    either true = refl
    either false = refl

    go : (o : Order) → cond (same (order_line o) line && allowed o) o bad ≡ bad
    go (command c) = none (command c) tt
    go fresh = none fresh tt
    go save = none save tt
    go state = none state tt
    go bad = either (same (order_line bad) line && allowed bad)
    go (save_into n) = none (save_into n) tt
    go (load bytes) = none (load bytes) tt

-- and what a line asks for, it is.
pub asks_only : (line : List ℕ) (o : Order) → Proper o → asks line ≡ o → (line ≡ order_line o) × (allowed o ≡ true)
unfolding asks
asks_only line o p e = go (same (order_line (ordered line)) line && allowed (ordered line)) refl e
  where
    go : (b : Bool) → same (order_line (ordered line)) line && allowed (ordered line) ≡ b → cond b (ordered line) bad ≡ o → (line ≡ order_line o) × (allowed o ≡ true)
    go true q r =
        let w = both (same (order_line (ordered line)) line) (allowed (ordered line)) q in
        (sym ((same_exactly (order_line (ordered line)) line).0 w.0) ∙ ap order_line r, sym (ap allowed r) ∙ w.1)
    go false q r = absurd (subst Proper (sym r) p)
