-- A run is free if each of its blocks is.
use mathlib.Core.Path.{◌≡◌, sym, ◌∙◌}
use mathlib.Core.Bool.{Bool, true, false, false≢true}
use Prim.Native.Nat.{ℕ, ◌+◌, ◌%◌, ◌^◌, ◌<◌}
use native.Mathlib.Omega.{arith}
use lib.ListN.{length}
use Rattle.std.specs.Bool.{MatchBool}
use Rattle.std.specs.List.{AllWithin, HoldsAt, range_with_len}
use Rattle.std.proofs.lemmas.List.FromFn.{get_or-range_with_len, length-range_with_len}
use Rattle.rules.specs.Classes.{free, run_free}
use Rattle.basics.proofs.BoolLaws.{is_false}
use Rattle.basics.proofs.BelowLaws.{every_at, every_of}

-- What `all` answers of the blocks of a run is whether the run is free.
pub free_says : (f : ℕ → Bool) (k A n : ℕ) (r : Bool)
    → MatchBool r
    (AllWithin (λ j. true ≡ free f k ((A + j) % 2 ^ k)) (range_with_len 0 n) 0 (length (range_with_len 0 n)))
    ((j : ℕ) × (j < length (range_with_len 0 n)) × HoldsAt (λ j. false ≡ free f k ((A + j) % 2 ^ k)) (range_with_len 0 n) j)
    → r ≡ run_free f k A n
unfolding run_free
free_says f k A n true h =
    let l : length (range_with_len 0 n) ≡ n = length-range_with_len 0 n in
    sym
    (every_of n _ (λ j b.
    let z : 0 + j ≡ j = omega arith in
    sym (rw (get_or-range_with_len 0 n j 0 b, z) at (h j 0 (omega arith) (omega arith)))))
free_says f k A n false h =
    let b : h.0 < n = omega (arith, h.1, length-range_with_len 0 n) in
    let z : 0 + h.0 ≡ h.0 = omega arith in
    sym (is_false (run_free f k A n) (λ t. false≢true (rw (get_or-range_with_len 0 n h.0 0 b, z) at (h.2 0) ∙ every_at n _ t h.0 b)))
