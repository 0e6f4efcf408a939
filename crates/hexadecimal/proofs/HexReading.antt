-- Digits, read pair by pair.
use mathlib.Core.Path.{◌≡◌, refl, sym, ap, ap₂, ◌∙◌}
use mathlib.Core.Bool.{true}
use mathlib.Core.List.{List, [], ◌∷◌, ◌++◌, append-nil, append_assoc}
use Prim.Native.Nat.{ℕ, suc, ◌+◌, ◌*◌, ◌/◌, ◌%◌, ◌<◌, ◌≤◌}
use native.Mathlib.Numerals.{add-one}
use native.Mathlib.Omega.{arith}
use lib.ListN.{length, get_or, take, drop, set, length-set}
use lib.Seq.{drop-cons, drop-length, get_or-drop, length-take-le, take-suc-set}
use Rattle.std.specs.Prelude.{Some}
use Rattle.std.specs.Simd.{first_chunks}
use Rattle.basics.proofs.ChunkLaws.{chunk_item}
use Rattle.hexadecimal.specs.Hex.{hex_digit, hex, all_bytes}
use Rattle.hexadecimal.specs.Promises.{ReadsHex}
use Rattle.hexadecimal.proofs.HexLaws.{hex_snoc, hex_length, hex_rest, hex_first, all_drop, all_snoc}

-- The digits before next are read, as the first n bytes of the buffer.
pub record Read (line : List ℕ) (start size : ℕ) (buffer : List ℕ) (next n : ℕ) : Type 0 where
  pub here : next ≤ length line
  pub at_next : next ≡ start + 2 * n
  pub sized : length buffer ≡ size
  pub within : n ≤ length buffer
  pub digits : drop start line ≡ hex (take n buffer) ++ drop next line
  pub bytes : all_bytes (take n buffer) ≡ true

pub read_none : (line buffer : List ℕ) (start : ℕ) → start ≤ length line → Read line start (length buffer) buffer start 0
unfolding hex all_bytes
read_none line buffer start h = record { here = h; at_next = omega arith; sized = refl; within = omega arith; digits = refl; bytes = refl }

-- The digits of no bytes.
abbrev Unread : List ℕ → ℕ → Type 0
Unread line start = (bs : List ℕ) → 0 < length bs → all_bytes bs ≡ true → drop start line ≡ hex bs → ⊥

-- No pair at all, or a digit without its second.
pub wrong_size : (line : List ℕ) (start : ℕ) → ((n : ℕ) → 0 < n → length (drop start line) ≡ 2 * n → ⊥) → Unread line start
wrong_size line start f bs l a e = f (length bs) l (ap (λ (x : List ℕ). length x) e ∙ hex_length bs)

-- A digit of the pair of place i.
pub digit_at : (line : List ℕ) (start k i j next : ℕ) → i < k → j < 2 → next ≡ start + 2 * i + j
    → get_or (get_or (first_chunks 2 k (drop start line)) i []) j 0 ≡ get_or line next 0
digit_at line start k i j next h l e =
    let past : start + (2 * i + j) ≡ next = omega (arith, e) in
    chunk_item 2 k (drop start line) i j 0 h l
    ∙ get_or-drop start line (2 * i + j) 0
    ∙ ap (λ (m : ℕ). get_or line m 0) past

module _ {line buffer : List ℕ} {start size next n : ℕ} (r : Read line start size buffer next n) where
  -- What is left are the digits of what is left of the bytes.
  rest : (bs : List ℕ) → drop start line ≡ hex bs → drop next line ≡ hex (drop n bs)
  rest bs e =
      hex_rest (take n buffer) bs (drop next line) (sym r.digits ∙ e) ∙ ap (λ (k : ℕ). hex (drop k bs)) (length-take-le n buffer r.within)

  module _ (h : next < length line) where
    first : (bs : List ℕ) → all_bytes bs ≡ true → drop start line ≡ hex bs
        → (b : ℕ) × (b < 256) × (get_or line next 0 ≡ hex_digit (b / 16)) × (get_or (drop (suc next) line) 0 0 ≡ hex_digit (b % 16)) × (0 < length (drop (suc next) line))
    first bs a e = hex_first (drop n bs) (get_or line next 0) (drop (suc next) line) (all_drop n bs a) (sym (drop-cons line next 0 h) ∙ rest bs e)

    -- The first of a pair is no digit,
    pub wrong_first : ((d : ℕ) → d < 16 → get_or line next 0 ≡ hex_digit d → ⊥) → Unread line start
    wrong_first f bs l a e = let w = first bs a e in f (w.0 / 16) (omega (arith, w.1)) w.2

    -- or the second is none.
    pub wrong_second : ((d : ℕ) → d < 16 → get_or line (next + 1) 0 ≡ hex_digit d → ⊥) → Unread line start
    wrong_second f bs l a e =
        let w = first bs a e in
        let q : suc next + 0 ≡ next + 1 = omega arith in
        f (w.0 % 16) (omega arith) (sym (get_or-drop (suc next) line 0 0 ∙ ap (λ (k : ℕ). get_or line k 0) q) ∙ w.3)

    -- One more byte.
    pub read_more : next + 1 < length line → n < length buffer → (high low : ℕ) → high < 16 → low < 16
        → get_or line next 0 ≡ hex_digit high → get_or line (next + 1) 0 ≡ hex_digit low → Read line start size (set buffer n (high * 16 + low)) (next + 2) (n + 1)
    read_more l m high low hh hl p q =
        let b = high * 16 + low in
        let up : b / 16 ≡ high = omega arith in
        let down : b % 16 ≡ low = omega arith in
        let taken : take (n + 1) (set buffer n b) ≡ take n buffer ++ (b ∷ []) = rw (add-one n) (take-suc-set buffer n b m) in
        let two : suc (suc next) ≡ next + 2 = omega arith in
        let one : suc next ≡ next + 1 = omega arith in
        let pair : drop next line ≡ hex_digit (b / 16) ∷ hex_digit (b % 16) ∷ drop (next + 2) line =
        drop-cons line next 0 h
        ∙ ap₂ {C = List ℕ} (λ c t. c ∷ t) (p ∙ ap hex_digit (sym up))
        (ap (λ (k : ℕ). drop k line) one ∙ drop-cons line (next + 1) 0 l
        ∙ ap₂ {C = List ℕ} (λ c t. c ∷ t) (q ∙ ap hex_digit (sym down)) (ap (λ (k : ℕ). drop k line) (ap suc (sym one) ∙ two))) in
        record {
          here = omega arith;
          at_next = omega (arith, r.at_next);
          sized = length-set buffer n b ∙ r.sized;
          within = simp length-set (omega arith);
          digits =
              r.digits ∙ ap (λ (x : List ℕ). hex (take n buffer) ++ x) pair
              ∙ sym (append_assoc (hex (take n buffer)) (hex_digit (b / 16) ∷ hex_digit (b % 16) ∷ []) (drop (next + 2) line))
              ∙ ap (λ (x : List ℕ). x ++ drop (next + 2) line) (sym (ap hex taken ∙ hex_snoc (take n buffer) b));
          bytes = ap all_bytes taken ∙ all_snoc (take n buffer) b r.bytes (omega arith);
        }

  module _ (h : length line ≤ next) where
    nothing : drop next line ≡ []
    nothing = let e : next ≡ length line = omega (arith, r.here) in ap (λ (k : ℕ). drop k line) e ∙ drop-length line

    whole : drop start line ≡ hex (take n buffer)
    whole = r.digits ∙ ap (λ (x : List ℕ). hex (take n buffer) ++ x) nothing ∙ append-nil (hex (take n buffer))

    -- All of them.
    pub read_all : 0 < n → ReadsHex (drop start line) buffer (Some n)
    read_all l = (l, r.within, whole, r.bytes)
