-- Check 10, one record after the other: the form with a running bound.
use mathlib.Core.Path.{◌≡◌, refl, sym, ap, ap₂, ◌∙◌}
use mathlib.Core.Bool.{Bool, true, false, ◌&&◌, false≢true}
use mathlib.Core.Logic.{◌↔◌}
use mathlib.Core.List.{List, [], ◌∷◌, map}
use Prim.Native.Nat.{ℕ, suc, ◌<◌, ◌≤◌}
use native.Mathlib.Omega.{arith}
use lib.Dec.{leb, ltb}
use borrow.Author.Tests.{le-leb, leb-true, lt-ltb, ltb-true}
use Rattle.rules.specs.Ownership.{handles}
use Rattle.rules.specs.Sound.{numbers_within}
use Rattle.rules.specs.Records.{Piece}
use Rattle.rules.specs.Fields.{handle_in, connection_in}
use Rattle.rules.specs.Load.{all_numbers_within, rising, records_within}
use Rattle.basics.proofs.BoolLaws.{both, is_false}

-- The numbers are in their bounds, k to `most`, and each handle is at least h and above the one before it.
unfoldable pub sound_from : ℕ → ℕ → List Piece → Bool
sound_from most h [] = true
sound_from most h (r ∷ rs) = leb h (handle_in r) && (ltb (handle_in r) handles && numbers_within most (connection_in r)) && sound_from most (suc (handle_in r)) rs

-- ---- it is the check: the numbers are in their bounds, the handles rise, and the first is at least h
alone : (y s : Bool) → y && s && true ≡ y && (s && true && true)
alone true true = refl
alone true false = refl
alone false s = refl

regroup : (y s w a r : Bool) → y && s && (w && (a && r)) ≡ y && (s && a && (w && r))
regroup false s w a r = refl
regroup true false w a r = refl
regroup true true true a r = refl
regroup true true false true r = refl
regroup true true false false r = refl

from_first : (most h : ℕ) (r : Piece) (rs : List Piece) → sound_from most h (r ∷ rs) ≡ leb h (handle_in r) && records_within most (r ∷ rs)
unfolding sound_from records_within all_numbers_within rising
from_first most h r [] = alone (leb h (handle_in r)) (ltb (handle_in r) handles && numbers_within most (connection_in r))
from_first most h r (q ∷ rs) =
    let s = ltb (handle_in r) handles && numbers_within most (connection_in r) in
    ap (λ (v : Bool). leb h (handle_in r) && s && v) (from_first most (suc (handle_in r)) q rs)
    ∙ regroup (leb h (handle_in r)) s (ltb (handle_in r) (handle_in q)) (all_numbers_within most (q ∷ rs)) (rising (map handle_in (q ∷ rs)))

pub sound_from_lem : (most : ℕ) (rs : List Piece) → records_within most rs ≡ sound_from most 0 rs
unfolding sound_from records_within all_numbers_within rising
sound_from_lem most [] = refl
sound_from_lem most (r ∷ rs) = sym (from_first most 0 r rs ∙ ap (λ (v : Bool). v && records_within most (r ∷ rs)) (le-leb 0 (handle_in r) (omega arith)))

-- ---- what it tests, of one record and those after it
pub record Rising (most h : ℕ) (r : Piece) (rs : List Piece) : Type 0 where
  pub below : handle_in r < handles
  pub above : h ≤ handle_in r
  pub numbers : numbers_within most (connection_in r) ≡ true
  pub later : sound_from most (suc (handle_in r)) rs ≡ true

pub rising_exactly : (most h : ℕ) (r : Piece) (rs : List Piece) → (sound_from most h (r ∷ rs) ≡ true) ↔ Rising most h r rs
unfolding sound_from
rising_exactly most h r rs =
    let x = leb h (handle_in r) in
    let y = ltb (handle_in r) handles in
    let z = numbers_within most (connection_in r) in
    let w = sound_from most (suc (handle_in r)) rs in (
      λ e.
          let p = both (x && (y && z)) w e in
          let q = both x (y && z) p.0 in
          let s = both y z q.1 in
          record { below = ltb-true (handle_in r) handles s.0; above = leb-true h (handle_in r) q.0; numbers = s.1; later = p.1 },
      λ p. ap₂ ◌&&◌ (ap₂ ◌&&◌ (le-leb h (handle_in r) p.above) (ap₂ ◌&&◌ (lt-ltb (handle_in r) handles p.below) p.numbers)) p.later,
    )

module _ (most h : ℕ) (r : Piece) (rs : List Piece) where
  -- A record that passes leaves the others.
  pub pieces_pass : handle_in r < handles → h ≤ handle_in r → numbers_within most (connection_in r) ≡ true → sound_from most h (r ∷ rs) ≡ sound_from most (suc (handle_in r)) rs
  unfolding sound_from
  pieces_pass l m n = rw (lt-ltb (handle_in r) handles l, le-leb h (handle_in r) m, n)

  pub handle_above : handles ≤ handle_in r → sound_from most h (r ∷ rs) ≡ false
  handle_above l = is_false (sound_from most h (r ∷ rs)) (λ e. omega (arith, ((rising_exactly most h r rs).0 e).below))

  pub handle_falls : handle_in r < h → sound_from most h (r ∷ rs) ≡ false
  handle_falls l = is_false (sound_from most h (r ∷ rs)) (λ e. omega (arith, ((rising_exactly most h r rs).0 e).above))

  pub numbers_fail : numbers_within most (connection_in r) ≡ false → sound_from most h (r ∷ rs) ≡ false
  numbers_fail n = is_false (sound_from most h (r ∷ rs)) (λ e. false≢true (sym n ∙ ((rising_exactly most h r rs).0 e).numbers))
