-- A line opens with a word, or is one.
use mathlib.Core.Path.{◌≡◌, sym, ap}
use mathlib.Core.Bool.{true}
use mathlib.Core.List.{List}
use Prim.Native.Nat.{ℕ, ◌≤◌}
use native.Mathlib.Omega.{arith}
use lib.ListN.{length, take, length-take}
use Rattle.std.specs.Str.{bytes_eq}
use Rattle.std.proofs.lemmas.Bool.Decides.{same_from_decides, Decides-like}
use Rattle.std.proofs.lemmas.Slice.Eq.{bytes_eq-Decides}
use Rattle.rules.specs.Bytes.{same}
use Rattle.basics.proofs.BytesLaws.{same_exactly}

-- The test of two slices is that of two lists, from either side.
pub same_tested : (xs ys : List ℕ) → bytes_eq xs ys ≡ same xs ys
same_tested xs ys = same_from_decides _ _ (bytes_eq-Decides xs ys) (same_exactly xs ys)

pub same_turned : (xs ys : List ℕ) → bytes_eq ys xs ≡ same xs ys
same_turned xs ys = same_from_decides _ _ (Decides-like _ sym sym (bytes_eq-Decides ys xs)) (same_exactly xs ys)

-- A line that opens with a word is no shorter.
pub opens_long : (line word : List ℕ) → same (take (length word) line) word ≡ true → length word ≤ length line
opens_long line word e =
    let n = ap (λ (x : List ℕ). length x) ((same_exactly (take (length word) line) word).0 e) in
    omega (arith, n, length-take (length word) line)
