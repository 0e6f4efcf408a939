-- Stores one after the other.
use mathlib.Core.Path.{◌≡◌, sym, ap, ap₂, ◌∙◌}
use mathlib.Core.List.{List, [], ◌∷◌, ◌++◌, append_assoc}
use Prim.Native.Nat.{ℕ, suc, ◌+◌, ◌≤◌}
use native.Mathlib.Nat.{add-zero}
use native.Mathlib.Omega.{arith}
use lib.ListN.{length, take, drop, set}
use lib.Seq.{sets, sets-eq, drop-drop}
use borrow.Rule.Slice.PartMut.{put_mid}

-- What is stored after something is stored behind it.
pub sets_append : (l : List ℕ) (i : ℕ) (xs ys : List ℕ) → sets (sets l i xs) (i + length xs) ys ≡ sets l i (xs ++ ys)
sets_append l i [] ys = ap (λ (k : ℕ). sets l k ys) (add-zero i)
sets_append l i (x ∷ xs) ys =
    let e : i + suc (length xs) ≡ suc i + length xs = omega arith in
    ap (λ (k : ℕ). sets (sets (set l i x) (suc i) xs) k ys) e ∙ sets_append (set l i x) (suc i) xs ys

-- What is stored second, where the first ends.
pub put_after : (l b c : List ℕ) (i j : ℕ) (xs ys : List ℕ) → b ≡ sets l i xs → c ≡ sets b j ys → j ≡ i + length xs → c ≡ sets l i (xs ++ ys)
put_after l b c i j xs ys p q e = q ∙ ap₂ (λ (x : List ℕ) (k : ℕ). sets x k ys) p e ∙ sets_append l i xs ys

-- A part that was written is stored.
pub part_stored : (a k : ℕ) (l xs : List ℕ) → length xs ≡ k → a + k ≤ length l → put_mid a k l xs ≡ sets l a xs
part_stored a k l xs e h =
    let n : k ≡ length xs = sym e in
    ap (λ (t : List ℕ). take a l ++ (xs ++ t)) (drop-drop k a l ∙ ap (λ (m : ℕ). drop (a + m) l) n)
    ∙ sym (append_assoc (take a l) xs (drop (a + length xs) l)) ∙ sym (sets-eq xs l a (omega arith))
