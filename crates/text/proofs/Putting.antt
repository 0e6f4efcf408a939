-- Bytes put one after the other.
use mathlib.Core.Path.{◌≡◌, refl, sym, ap, subst, ◌∙◌}
use mathlib.Core.List.{List, [], ◌∷◌, ◌++◌, append-nil, append_assoc}
use Prim.Native.Nat.{ℕ, suc, ◌+◌, ◌/◌, ◌%◌, ◌^◌, ◌<◌, ◌≤◌}
use native.Mathlib.Omega.{arith}
use lib.ListN.{length, take, set, length-append}
use lib.Seq.{length-sets, length-take-le}
use Rattle.rules.specs.Decimal.{decimal}
use Rattle.rules.specs.Words.{spaced}
use Rattle.basics.proofs.StoreLaws.{put_after}
use Rattle.texts.proofs.DecimalLaws.{decimal_one, decimal_more, decimal_length}
use Rattle.text.specs.Promises.{Puts, PutsWithin}

-- What is put second, from where the first ends on.
pub puts_after : {l b c : List ℕ} {start i j : ℕ} {xs ys : List ℕ} → Puts l start xs b i → Puts b i ys c j → Puts l start (xs ++ ys) c j
puts_after {l} {b} {c} {start} {i} {j} {xs} {ys} p q = record {
  stored = put_after l b c start i xs ys p.stored q.stored p.ends;
  ends = omega (arith, p.ends, q.ends, length-append xs ys);
}

-- One byte.
pub puts_byte : (l : List ℕ) (start b : ℕ) → Puts l start (b ∷ []) (set l start b) (start + 1)
puts_byte l start b = record { stored = refl; ends = refl }

-- Nothing.
pub puts_nothing : (l : List ℕ) (start : ℕ) → Puts l start [] l start
puts_nothing l start = record { stored = refl; ends = omega arith }

pub puts_length : {l b : List ℕ} {start i : ℕ} {xs : List ℕ} → Puts l start xs b i → length b ≡ length l
puts_length {l} {b} {start} {i} {xs} p = ap (λ (x : List ℕ). length x) p.stored ∙ length-sets l start xs

-- ---- a number
-- One digit,
pub digits_one : (n : ℕ) → n < 10 → length (decimal n) ≡ 1
digits_one n h = ap (λ (x : List ℕ). length x) (decimal_one n h)

-- or one more than a tenth of it has.
pub digits_more : (n : ℕ) → 10 ≤ n → length (decimal n) ≡ length (decimal (n / 10)) + 1
digits_more n h = ap (λ (x : List ℕ). length x) (decimal_more n h) ∙ length-append (decimal (n / 10)) ((48 + n % 10) ∷ [])

pub puts_one : (l : List ℕ) (start n : ℕ) → n < 10 → Puts l start (decimal n) (set l start (48 + n)) (start + 1)
puts_one l start n h = rw (decimal_one n h) (puts_byte l start (48 + n))

pub puts_more : (l b : List ℕ) (start n next : ℕ) → 10 ≤ n → Puts l start (decimal (n / 10)) b next
    → Puts l start (decimal n) (set b next (48 + n % 10)) (next + 1)
puts_more l b start n next h p = rw (decimal_more n h) (puts_after p (puts_byte b next (48 + n % 10)))

-- A space before it.
pub spaced_one : (n : ℕ) → spaced (n ∷ []) ≡ 32 ∷ decimal n
unfolding spaced
spaced_one n = ap {B = List ℕ} (λ l. 32 ∷ l) (append-nil (decimal n))

pub puts_spaced : (l b : List ℕ) (start n next : ℕ) → Puts (set l start 32) (start + 1) (decimal n) b next → Puts l start (spaced (n ∷ [])) b next
puts_spaced l b start n next p = rw (spaced_one n) (puts_after (puts_byte l start 32) p)

pub spaced_length : (n : ℕ) → length (spaced (n ∷ [])) ≡ length (decimal n) + 1
spaced_length n = ap (λ (x : List ℕ). length x) (spaced_one n) ∙ omega arith

-- Of a number below 10^(k+1) these are k + 2 bytes at most.
pub number_room : (k n : ℕ) → n < 10 ^ suc k → length (spaced (n ∷ [])) ≤ k + 2
number_room k n h = omega (arith, spaced_length n, decimal_length k n h)

-- Numbers after others.
pub spaced_append : (ns ms : List ℕ) → spaced (ns ++ ms) ≡ spaced ns ++ spaced ms
unfolding spaced
spaced_append [] ms = refl
spaced_append (n ∷ ns) ms =
    ap {B = List ℕ} (λ l. 32 ∷ l) (ap (λ (l : List ℕ). decimal n ++ l) (spaced_append ns ms) ∙ sym (append_assoc (decimal n) (spaced ns) (spaced ms)))

pub puts_row : {l b c : List ℕ} {start i j : ℕ} (word ns ms : List ℕ) → Puts l start (word ++ spaced ns) b i → Puts b i (spaced ms) c j
    → Puts l start (word ++ spaced (ns ++ ms)) c j
puts_row {l} {c = c} {start} {j = j} word ns ms p q =
    subst (λ (x : List ℕ). Puts l start x c j) (append_assoc word (spaced ns) (spaced ms) ∙ ap (λ (x : List ℕ). word ++ x) (sym (spaced_append ns ms))) (puts_after p q)

-- ---- and so many bytes at most
-- The digits of a number below 10^(k+1).
pub within_decimal : {l b : List ℕ} {start i : ℕ} (k n : ℕ) → n < 10 ^ suc k → Puts l start (decimal n) b i → PutsWithin (suc k) l start (decimal n) b i
within_decimal k n h p = record { puts = p; room = omega (arith, p.ends, decimal_length k n h) }

module _ {l b : List ℕ} {start i : ℕ} {xs : List ℕ} where
  -- What is put takes no more than it has;
  pub within_all : Puts l start xs b i → PutsWithin (length xs) l start xs b i
  within_all p = record { puts = p; room = omega (arith, p.ends) }

  -- a number of k + 1 digits at most fits behind it where there is room for them and a space,
  pub room_spaced : {most : ℕ} (k n : ℕ) → n < 10 ^ suc k → PutsWithin most l start xs b i → start + (most + (k + 2)) ≤ length l → i + length (spaced (n ∷ [])) ≤ length b
  room_spaced k n h p r = omega (arith, p.room, r, puts_length p.puts, number_room k n h)

  -- and is put there, the first of its row
  pub within_first : {c : List ℕ} {most j : ℕ} (k n : ℕ) → n < 10 ^ suc k → PutsWithin most l start xs b i → Puts b i (spaced (n ∷ [])) c j
      → PutsWithin (most + (k + 2)) l start (xs ++ spaced (n ∷ [])) c j
  within_first k n h p q = record { puts = puts_after p.puts q; room = omega (arith, p.room, q.ends, number_room k n h) }

-- or a later one.
pub within_spaced : {l b c : List ℕ} {start i j most : ℕ} (word ns : List ℕ) (k n : ℕ) → n < 10 ^ suc k → PutsWithin most l start (word ++ spaced ns) b i
    → Puts b i (spaced (n ∷ [])) c j → PutsWithin (most + (k + 2)) l start (word ++ spaced (ns ++ (n ∷ []))) c j
within_spaced word ns k n h p q = record { puts = puts_row word ns (n ∷ []) p.puts q; room = omega (arith, p.room, q.ends, number_room k n h) }

-- What is put from the start is a part of the buffer.
pub within_part : {l b xs : List ℕ} {most n : ℕ} → PutsWithin most l 0 xs b n → most ≤ length l → n ≡ length (take n b)
within_part {l} {b} {xs} {most} {n} p h = sym (length-take-le n b (omega (arith, p.room, puts_length p.puts)))

-- The same, where the buffer and the place go by other names.
pub puts_moved : {l x b c : List ℕ} {start m n : ℕ} → c ≡ b → n ≡ m → Puts l start x b m → Puts l start x c n
puts_moved {l} {x} {b} {c} {start} {m} {n} e q p = record { stored = e ∙ p.stored; ends = q ∙ p.ends }

pub puts_as : {l x y b : List ℕ} {start n : ℕ} → x ≡ y → Puts l start x b n → Puts l start y b n
puts_as {l} {b = b} {start} {n} e p = subst (λ (z : List ℕ). Puts l start z b n) e p

pub within_as : {l x y b : List ℕ} {most start n : ℕ} → x ≡ y → PutsWithin most l start x b n → PutsWithin most l start y b n
within_as e p = record { puts = puts_as e p.puts; room = p.room }
