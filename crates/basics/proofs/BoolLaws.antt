-- Truth values.
use mathlib.Core.Path.{◌≡◌, refl, sym}
use mathlib.Core.Bool.{Bool, true, false, ◌||◌, ◌&&◌, not, false≢true}

-- Two truth values are equal where each holds if the other does.
pub bool_iff : (a b : Bool) → (a ≡ true → b ≡ true) → (b ≡ true → a ≡ true) → a ≡ b
bool_iff true b f g = sym (f refl)
bool_iff false true f g = g refl
bool_iff false false f g = refl

pub and_assoc : (a b d : Bool) → (a && b) && d ≡ a && (b && d)
and_assoc true b d = refl
and_assoc false b d = refl

pub and_true : (a : Bool) → a && true ≡ a
and_true true = refl
and_true false = refl

pub both : (a b : Bool) → a && b ≡ true → (a ≡ true) × (b ≡ true)
both true b e = (refl, e)
both false b e = absurd (false≢true e)

pub either : (a b : Bool) → a || b ≡ true → (a ≡ false) → b ≡ true
either true b e f = absurd (false≢true (sym f))
either false b e f = e

pub neither : (a b : Bool) → a || b ≡ false → (a ≡ false) × (b ≡ false)
neither true b e = absurd (false≢true (sym e))
neither false b e = (refl, e)

pub not_true_is_false : (a : Bool) → not a ≡ true → a ≡ false
not_true_is_false true e = absurd (false≢true e)
not_true_is_false false e = refl

pub not_false_is_true : (a : Bool) → not a ≡ false → a ≡ true
not_false_is_true true e = refl
not_false_is_true false e = absurd (false≢true (sym e))

pub is_false : (a : Bool) → (a ≡ true → ⊥) → a ≡ false
is_false true f = absurd (f refl)
is_false false f = refl
