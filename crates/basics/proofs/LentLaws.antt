-- What is lent and written from its start: the new entries, then the old ones.
use mathlib.Core.Path.{◌≡◌, refl, sym, ap, ◌∙◌}
use mathlib.Core.List.{List, [], ◌∷◌, ◌++◌, append-nil, append_assoc}
use Prim.Native.Nat.{ℕ, suc, ◌+◌, ◌-◌, ◌<◌, ◌≤◌}
use native.Mathlib.Omega.{arith}
use lib.ListN.{length, get_or, drop, set, length-append, length-drop, get_or-append}
use lib.Seq.{drop-cons, set_at, get_or-append-add, get_or-drop, sets, sets-eq}
use Rattle.rules.specs.Lent.{over}

-- Each entry before the end of the new ones is new;
pub over_new : (new old : List ℕ) (i d : ℕ) → i < length new → get_or (over new old) i d ≡ get_or new i d
over_new new old i d l = get_or-append new (drop (length new) old) d i l

-- each one from there on is as it was;
pub over_old : (new old : List ℕ) (i d : ℕ) → length new ≤ i → get_or (over new old) i d ≡ get_or old i d
over_old new old i d l =
    let e : length new + (i - length new) ≡ i = omega arith in
    ap (λ (k : ℕ). get_or (over new old) k d) (sym e)
    ∙ get_or-append-add new (drop (length new) old) (i - length new) d
    ∙ get_or-drop (length new) old (i - length new) d
    ∙ ap (λ (k : ℕ). get_or old k d) e

-- and there are as many as before.
pub over_length : (new old : List ℕ) → length new ≤ length old → length (over new old) ≡ length old
over_length new old l = omega (arith, length-append new (drop (length new) old), length-drop (length new) old)

-- So it is where they are stored one after the other from the start.
pub over_stored : (new old : List ℕ) → length new ≤ length old → sets old 0 new ≡ over new old
over_stored new old l =
    let e : 0 + length new ≡ length new = omega arith in
    rw e at (sets-eq new old 0 (omega arith))

-- One more is written behind the new ones.
pub over_next : (new old : List ℕ) (x : ℕ) → length new < length old → set (over new old) (length new) x ≡ over (new ++ (x ∷ [])) old
over_next new old x l =
    let e : length (new ++ (x ∷ [])) ≡ suc (length new) = omega (arith, length-append new (x ∷ [])) in
    ap (λ (z : List ℕ). set (new ++ z) (length new) x) (drop-cons old (length new) 0 l)
    ∙ set_at new (get_or old (length new) 0) (drop (suc (length new)) old) x (length new) refl
    ∙ sym (append_assoc new (x ∷ []) (drop (suc (length new)) old))
    ∙ ap (λ (k : ℕ). (new ++ (x ∷ [])) ++ drop k old) (sym e)

-- So are several, one after the other.
pub over_more : (new old xs : List ℕ) → length new + length xs ≤ length old → sets (over new old) (length new) xs ≡ over (new ++ xs) old
over_more new old [] l = sym (ap (λ (x : List ℕ). over x old) (append-nil new))
over_more new old (x ∷ xs) l =
    let one = new ++ (x ∷ []) in
    let n : length one ≡ suc (length new) = omega (arith, length-append new (x ∷ [])) in
    ap (λ (b : List ℕ). sets b (suc (length new)) xs) (over_next new old x (omega arith))
    ∙ ap (λ (i : ℕ). sets (over one old) i xs) (sym n)
    ∙ over_more one old xs (omega arith)
    ∙ ap (λ (y : List ℕ). over y old) (append_assoc new (x ∷ []) xs)
