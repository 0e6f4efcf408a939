-- Parts of one size.
use mathlib.Core.Path.{◌≡◌, sym, ap, ◌∙◌}
use mathlib.Core.List.{List, []}
use Prim.Native.Nat.{ℕ, zero, suc, ◌+◌, ◌*◌, ◌<◌}
use native.Mathlib.Nat.{add_comm, mul-suc}
use native.Mathlib.Omega.{arith}
use lib.ListN.{get_or, take, drop}
use lib.Seq.{get_or-drop, get_or-take, drop-drop}
use Rattle.std.specs.Simd.{first_chunks}

-- The part of place i.
chunk_at : (n k : ℕ) (xs : List ℕ) (i : ℕ) → i < k → get_or (first_chunks n k xs) i [] ≡ take n (drop (n * i) xs)
chunk_at n zero xs i h = absurd (omega arith)
chunk_at n (suc k) xs zero h =
    let e : 0 ≡ n * 0 = omega arith in
    ap (λ (m : ℕ). take n (drop m xs)) e
chunk_at n (suc k) xs (suc i) h =
    let e : n + n * i ≡ n * suc i = add_comm n (n * i) ∙ sym (mul-suc n i) in
    chunk_at n k (drop n xs) i (omega arith) ∙ ap (take n) (drop-drop (n * i) n xs ∙ ap (λ (m : ℕ). drop m xs) e)

-- Its number of place j.
pub chunk_item : (n k : ℕ) (xs : List ℕ) (i j d : ℕ) → i < k → j < n
    → get_or (get_or (first_chunks n k xs) i []) j d ≡ get_or xs (n * i + j) d
chunk_item n k xs i j d h l =
    ap (λ (x : List ℕ). get_or x j d) (chunk_at n k xs i h)
    ∙ get_or-take n (drop (n * i) xs) j d l
    ∙ get_or-drop (n * i) xs j d
