-- Shifts, masks, and one bit written into a list of bytes.
use mathlib.Core.Path.{◌≡◌, refl, sym, ap, ◌∙◌}
use mathlib.Core.Bool.{Bool, true, false, ◌||◌, ◌&&◌, not, cond, beq, or-true, or-false, and-true, and-false, false≢true}
use mathlib.Core.List.{List}
use mathlib.Core.Logic.{by_cases}
use Prim.Native.Nat.{ℕ, zero, suc, ◌+◌, ◌-◌, ◌*◌, ◌/◌, ◌%◌, ◌^◌, ◌<◌, ◌≤◌}
use native.Mathlib.Nat.{mod-eq_of_lt, zero-mul, one-mul, mul-le-mul_right}
use native.Mathlib.Decide.{ℕ_discrete}
use native.Mathlib.Omega.{arith}
use lib.Bits.{bit_or, bit_and, and_mask, or_shr, or_mod, or_zero_l, or_zero_r, or_lt, and_shr, and_mod, and_zero_l, and_le_l, or_shifted}
use lib.Pow.{pow-lt, pow_mono, pow-add}
use lib.Dec.{eqb}
use lib.ListN.{length, get_or, set, length-set}
use lib.Seq.{get_or-set_same, get_or-set_other}
use mir.Val.{bool_byte}
use borrow.Author.Tests.{eq-eqb, ne_eqb}
use Rattle.rules.specs.Classes.{depth}
use Rattle.rules.specs.Below.{every}
use Rattle.rules.specs.Mirror.{mirrored}
use Rattle.rules.specs.TreeBytes.{bit_of, bit_at}
use Rattle.blocks.specs.Children.{Sized}
use Rattle.tree.specs.Promises.{Writes}
use Rattle.basics.proofs.BelowLaws.{every_at}
use Rattle.blocks.proofs.MirrorLaws.{mirror_lt}

-- ---- a mask as a remainder, at the literal that the code has
pub and7 : (n : ℕ) → bit_and n 7 ≡ n % 8
and7 n = and_mask n 3

-- `1u8 << (n & 7)`
pub one_shl : (n : ℕ) → 1 * 2 ^ bit_and n 7 % 256 ≡ 2 ^ (n % 8)
one_shl n =
    let h : n % 8 < 8 = omega arith in
    rw (and7 n, one-mul) (mod-eq_of_lt (pow-lt h))

pub eqb_iff : (a b c d : ℕ) → (a ≡ b → c ≡ d) → (c ≡ d → a ≡ b) → eqb a b ≡ eqb c d
eqb_iff a b c d f g =
    by_cases (ℕ_discrete a b)
    (λ e. eq-eqb a b e ∙ sym (eq-eqb c d (f e)))
    (λ e. ne_eqb a b e ∙ sym (ne_eqb c d (λ h. e (g h))))

-- ---- the bits of a byte with one bit set, and with one bit cleared
or2 : (p q : ℕ) → p < 2 → q < 2 → eqb (bit_or p q) 1 ≡ eqb p 1 || eqb q 1
or2 zero q hp hq = ap (λ (r : ℕ). eqb r 1) (or_zero_l q)
or2 (suc zero) zero hp hq = refl
or2 (suc zero) (suc zero) hp hq = refl
or2 (suc zero) (suc (suc q)) hp hq = absurd (omega arith)
or2 (suc (suc p)) q hp hq = absurd (omega arith)

or_bit : (a b j : ℕ) → bit_of (bit_or a b) j ≡ bit_of a j || bit_of b j
or_bit a b j =
    ap (λ (r : ℕ). eqb (r % 2) 1) (or_shr a b j)
    ∙ ap (λ (r : ℕ). eqb r 1) (or_mod (a / 2 ^ j) (b / 2 ^ j) 1)
    ∙ or2 (a / 2 ^ j % 2) (b / 2 ^ j % 2) (omega arith) (omega arith)

and2 : (p q : ℕ) → p < 2 → q < 2 → eqb (bit_and p q) 1 ≡ eqb p 1 && eqb q 1
and2 zero q hp hq = ap (λ (r : ℕ). eqb r 1) (and_zero_l q)
and2 (suc zero) zero hp hq = refl
and2 (suc zero) (suc zero) hp hq = refl
and2 (suc zero) (suc (suc q)) hp hq = absurd (omega arith)
and2 (suc (suc p)) q hp hq = absurd (omega arith)

and_bit : (a b j : ℕ) → bit_of (bit_and a b) j ≡ bit_of a j && bit_of b j
and_bit a b j =
    ap (λ (r : ℕ). eqb (r % 2) 1) (and_shr a b j)
    ∙ ap (λ (r : ℕ). eqb r 1) (and_mod (a / 2 ^ j) (b / 2 ^ j) 1)
    ∙ and2 (a / 2 ^ j % 2) (b / 2 ^ j % 2) (omega arith) (omega arith)

-- what the test of two bits says
beq_true : (a b : Bool) → beq a b ≡ true → a ≡ b
beq_true true true e = refl
beq_true true false e = absurd (false≢true e)
beq_true false true e = absurd (false≢true e)
beq_true false false e = refl

-- a test of two numbers below 8, computed at each
at_8_8 : (f g : ℕ → ℕ → Bool) → every 8 (λ i. every 8 (λ j. beq (f i j) (g i j))) ≡ true → (i j : ℕ) → i < 8 → j < 8 → f i j ≡ g i j
at_8_8 f g e i j hi hj =
    beq_true (f i j) (g i j)
    (every_at 8 (λ j. beq (f i j) (g i j)) (every_at 8 (λ i. every 8 (λ j. beq (f i j) (g i j))) e i hi) j hj)

pow_bit : (i j : ℕ) → i < 8 → j < 8 → bit_of (2 ^ i) j ≡ eqb j i
unfolding every
pow_bit = at_8_8 (λ i j. bit_of (2 ^ i) j) (λ i j. eqb j i) refl

mask_bit : (i j : ℕ) → i < 8 → j < 8 → bit_of (255 - 2 ^ i) j ≡ not (eqb j i)
unfolding every
mask_bit = at_8_8 (λ i j. bit_of (255 - 2 ^ i) j) (λ i j. not (eqb j i)) refl

or_cond : (e b : Bool) → b || e ≡ cond e true b
or_cond true b = or-true b
or_cond false b = or-false b

and_cond : (e b : Bool) → b && not e ≡ cond e false b
and_cond true b = and-false b
and_cond false b = and-true b

cond_again : (e b : Bool) → cond e true (cond e false b) ≡ cond e true b
cond_again true b = refl
cond_again false b = refl

pub set_bit : (x i j : ℕ) → i < 8 → j < 8 → bit_of (bit_or x (2 ^ i)) j ≡ cond (eqb j i) true (bit_of x j)
set_bit x i j hi hj =
    or_bit x (2 ^ i) j ∙ ap (λ (v : Bool). bit_of x j || v) (pow_bit i j hi hj) ∙ or_cond (eqb j i) (bit_of x j)

pub clear_bit : (x i j : ℕ) → i < 8 → j < 8 → bit_of (bit_and x (255 - 2 ^ i)) j ≡ cond (eqb j i) false (bit_of x j)
clear_bit x i j hi hj =
    and_bit x (255 - 2 ^ i) j ∙ ap (λ (v : Bool). bit_of x j && v) (mask_bit i j hi hj) ∙ and_cond (eqb j i) (bit_of x j)

pub set_byte : (x i : ℕ) → x < 256 → i < 8 → bit_or x (2 ^ i) < 256
set_byte x i hx hi = or_lt 8 x (2 ^ i) hx (pow-lt hi)

pub clear_byte : (x y : ℕ) → x < 256 → bit_and x y < 256
clear_byte x y hx = omega (arith, and_le_l x y)

-- ---- one byte of the tree replaced by one that differs in the bit of node n alone
module _ (t : List ℕ) (n y : ℕ) (v : Bool) (sized : Sized t) (hn : n < 1024)
    (written : (j : ℕ) → j < 8 → bit_of y j ≡ cond (eqb j (n % 8)) v (bit_of (get_or t (n / 8) 0) j)) where
  inside : n / 8 < length t
  inside = omega (arith, sized.long)

  pub written_bits : (m : ℕ) → bit_at (set t (n / 8) y) m ≡ cond (eqb m n) v (bit_at t m)
  written_bits m =
      by_cases (ℕ_discrete (m / 8) (n / 8))
      (λ e.
      rw (e, get_or-set_same t (n / 8) y 0 inside)
      (written (m % 8) (omega arith)
      ∙ ap (λ (u : Bool). cond u v (bit_of (get_or t (n / 8) 0) (m % 8))) (eqb_iff (m % 8) (n % 8) m n (λ q. omega arith) (λ q. omega arith))))
      (λ e. rw (get_or-set_other t (n / 8) (m / 8) y 0 e, ne_eqb m n (λ q. e (ap (λ (k : ℕ). k / 8) q))))

  pub written_sized : y < 256 → Sized (set t (n / 8) y)
  written_sized small =
      record {
        long = length-set t (n / 8) y ∙ sized.long;
        small = λ i.
            by_cases (ℕ_discrete i (n / 8))
            (λ e. rw (e, get_or-set_same t (n / 8) y 0 inside) small)
            (λ e. rw (get_or-set_other t (n / 8) i y 0 e) (sized.small i));
      }

-- what `write_node` stores: the byte with the node's bit cleared, and the new one in its place
module _ (t : List ℕ) (n : ℕ) (sized : Sized t) (hn : n < 1024) where
  abbrev byte : ℕ
  byte = get_or t (n / 8) 0

  abbrev cleared : ℕ
  cleared = bit_and byte (255 - 2 ^ (n % 8))

  sets : Writes n true t (set t (n / 8) (bit_or cleared (2 ^ (n % 8))))
  sets =
      let w : (j : ℕ) → j < 8 → bit_of (bit_or cleared (2 ^ (n % 8))) j ≡ cond (eqb j (n % 8)) true (bit_of byte j) =
      λ j h.
      set_bit cleared (n % 8) j (omega arith) h
      ∙ ap (λ (b : Bool). cond (eqb j (n % 8)) true b) (clear_bit byte (n % 8) j (omega arith) h)
      ∙ cond_again (eqb j (n % 8)) (bit_of byte j) in
      record {
        sized = written_sized t n _ true sized hn w (set_byte cleared (n % 8) (clear_byte byte (255 - 2 ^ (n % 8)) (sized.small (n / 8))) (omega arith));
        bits = written_bits t n _ true sized hn w;
      }

  clears : Writes n false t (set t (n / 8) cleared)
  clears =
      let w : (j : ℕ) → j < 8 → bit_of cleared j ≡ cond (eqb j (n % 8)) false (bit_of byte j) = λ j h. clear_bit byte (n % 8) j (omega arith) h in
      record {
        sized = written_sized t n _ false sized hn w (clear_byte byte (255 - 2 ^ (n % 8)) (sized.small (n / 8)));
        bits = written_bits t n _ false sized hn w;
      }

  pub writes : (taken : Bool)
      → Writes n taken t (set t (n / 8) (bit_or (bit_and (get_or t (n / 8) 0) (255 - 1 * 2 ^ bit_and n 7 % 256)) (bool_byte taken * 2 ^ bit_and n 7 % 256)))
  writes true = rw (one_shl n) sets
  writes false = rw (one_shl n, zero-mul, or_zero_r) clears

-- ---- the node of a class
-- the bit of depth k above what is mirrored
pub node_number : (k r : ℕ) → k ≤ depth → bit_or (1 * 2 ^ k % 4294967296) (mirrored k r) ≡ 2 ^ k + mirrored k r
node_number k r h =
    let k32 : k < 32 = omega arith in
    let e : 1 * 2 ^ k % 4294967296 ≡ 1 * 2 ^ k = mod-eq_of_lt (rw one-mul (pow-lt k32)) in
    rw e (or_shifted 1 k (mirrored k r) (mirror_lt k r) ∙ omega arith)

-- the node of a class lies in the tree, and so does all that is below it
pub node_lt : (k r : ℕ) → k ≤ depth → 2 ^ k + mirrored k r < 1024
node_lt k r h =
    let g : 2 ^ k ≤ 512 = pow_mono h in
    omega (arith, mirror_lt k r)

pub node_room : (k r : ℕ) → k ≤ depth → (2 ^ k + mirrored k r + 1) * 2 ^ (depth - k) ≤ 1024
node_room k r h =
    let s : k + (depth - k) ≡ 9 = omega arith in
    let e : 2 ^ k * 2 ^ (depth - k) ≡ 512 = sym (pow-add 2 k (depth - k)) ∙ ap (λ (x : ℕ). 2 ^ x) s in
    let g : 2 ^ k + mirrored k r + 1 ≤ 2 ^ k + 2 ^ k = omega (arith, mirror_lt k r) in
    omega (arith, e, mul-le-mul_right (2 ^ (depth - k)) g)
