-- The place of a byte.
use mathlib.Core.Path.{◌≡◌, refl, sym}
use mathlib.Core.Bool.{Bool, true, false, cond}
use mathlib.Core.List.{List, [], ◌∷◌}
use Prim.Native.Nat.{ℕ, ◌+◌}
use lib.Dec.{eqb, ltb}
use lib.ListN.{length}
use native.Mathlib.Omega.{arith}
use borrow.Author.Tests.{ltb-false}
use Rattle.std.specs.Prelude.{Some, None}
use Rattle.texts.proofs.SplitLaws.{before_le}
use Rattle.std.specs.Option.{unwrap_or}
use Rattle.std.specs.List.{position, position_or_len}
use Rattle.std.proofs.lemmas.List.Recursion.{is_position_or_len}
use Rattle.rules.specs.Split.{before}

cond_length : (t : Bool) (b : ℕ) (xs : List ℕ) → length (cond {A = List ℕ} t [] (b ∷ xs)) ≡ cond t 0 (1 + length xs)
cond_length true b xs = refl
cond_length false b xs = omega arith

-- It is where the bytes before it end,
pub before_position : (s : ℕ) (bs : List ℕ) → length (before s bs) ≡ position_or_len (λ b. eqb b s) bs
unfolding before
before_position s = is_position_or_len (λ bs. length (before s bs)) (λ b. eqb b s) refl (λ b bs. cond_length (eqb b s) b (before s bs))

-- or the end.
pub found : (s : ℕ) (bs : List ℕ) → unwrap_or (position (λ b. eqb b s) bs) (length bs) ≡ length (before s bs)
found s bs = go (ltb (position_or_len (λ b. eqb b s) bs) (length bs)) refl
  where
    go : (t : Bool) → ltb (position_or_len (λ b. eqb b s) bs) (length bs) ≡ t
        → unwrap_or (cond t (Some (position_or_len (λ b. eqb b s) bs)) None) (length bs) ≡ length (before s bs)
    go true e = sym (before_position s bs)
    go false e = omega (arith, before_position s bs, ltb-false _ _ e, before_le s bs)
