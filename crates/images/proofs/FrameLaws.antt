-- The laws of check 9: one record after the other, and what framed bytes are.
use mathlib.Core.Path.{◌≡◌, refl, sym, ap, ap₂, ◌∙◌, subst}
use mathlib.Core.Bool.{Bool, true, false, ◌&&◌, not}
use mathlib.Core.List.{List, [], ◌∷◌, ◌++◌, map}
use Prim.Native.Nat.{ℕ, zero, suc, ◌+◌, ◌<◌, ◌≤◌}
use native.Mathlib.Omega.{arith}
use lib.Dec.{leb}
use lib.ListN.{length, take, drop, length-append, length-take, length-drop, take-append-drop, get_or-append}
use lib.Seq.{take-add, take_all, get_or-append_seam}
use borrow.Author.Tests.{le-leb, leb-true, eq-eqb, not-false}
use Rattle.rules.specs.Ownership.{handles}
use Rattle.rules.specs.Bytes.{little, little_number, same}
use Rattle.rules.specs.Records.{Piece, bytes_of, joined, begin, pieces_in, pieces_of}
use Rattle.rules.specs.Form.{Head, head_of, connection_size, tree_size, form, formed}
use Rattle.rules.specs.Framing.{count_in, records_are, records_wrong, Framed}
use Rattle.rules.specs.Fields.{connections_in, tree_in}
use Rattle.basics.proofs.BoolLaws.{both, is_false}
use Rattle.basics.proofs.BytesLaws.{AllBytes, bytes_take, bytes_drop, little_number_lem, number_lt, number_little, same_exactly}
use Rattle.images.proofs.PieceLaws.{nth, record_length, each_nth, pieces_small, begin_next, begin_here, stands_whole, stands_size, stands_part}
use Rattle.images.proofs.FormLaws.{IsConnection, Parts, form_parts, parts_form, connections_inside, tree_inside}

-- ---- the record that bytes begin with
-- Two bytes are those of the number that they say.
two_bytes : (d : List ℕ) (m : ℕ) → AllBytes d → 2 ≤ length d → little_number (take 2 d) ≡ m → little 2 m ≡ take 2 d
two_bytes d m h l e =
    let len : length (take 2 d) ≡ 2 = simp length-take (omega arith) in
    rw (len, e) at (number_little (take 2 d) (bytes_take 2 d h))

-- The kind and the size that bytes begin with,
abbrev pub head_from : List ℕ → Head
head_from d = record { kind = little_number (take 2 (drop 2 d)); size = little_number (take 2 d) }

-- and the record.
abbrev piece_from : List ℕ → Piece
piece_from d = record { kind = little_number (take 2 (drop 2 d)); payload = take (little_number (take 2 d)) (drop 4 d) }

-- It and what is after it are the bytes.
opens_with : (d : List ℕ) → AllBytes d → 4 + (head_from d).size ≤ length d → bytes_of (piece_from d) ++ drop (4 + (head_from d).size) d ≡ d
unfolding bytes_of
opens_with d h l =
    let size = (head_from d).size in
    let kind = (head_from d).kind in
    let len : length (take size (drop 4 d)) ≡ size = simp (length-take, length-drop) (omega arith) in
    let more : 2 ≤ length (drop 2 d) = simp length-drop (omega arith) in
    let s : little 2 (length (take size (drop 4 d))) ≡ take 2 d = ap (little 2) len ∙ two_bytes d size h (omega arith) refl in
    let k : little 2 kind ≡ take 2 (drop 2 d) = two_bytes (drop 2 d) kind (bytes_drop 2 d h) more refl in
    let four : take 2 d ++ take 2 (drop 2 d) ≡ take 4 d = sym (take-add 2 2 d) in
    ap₂ (λ (x y : List ℕ). ((x ++ y) ++ take size (drop 4 d)) ++ drop (4 + size) d) s k
    ∙ ap (λ (x : List ℕ). (x ++ take size (drop 4 d)) ++ drop (4 + size) d) four
    ∙ ap (λ (x : List ℕ). x ++ drop (4 + size) d) (sym (take-add 4 size d))
    ∙ take-append-drop (4 + size) d

-- A bound that is long enough does not matter.
pieces_none : (n : ℕ) → pieces_in n [] ≡ []
unfolding pieces_in
pieces_none zero = refl
pieces_none (suc n) = refl

pieces_enough : (n m : ℕ) (bytes : List ℕ) → length bytes ≤ n → length bytes ≤ m → pieces_in n bytes ≡ pieces_in m bytes
unfolding pieces_in
pieces_enough zero m [] p q = sym (pieces_none m)
pieces_enough zero m (b ∷ bs) p q = absurd (omega arith)
pieces_enough (suc n) zero [] p q = refl
pieces_enough (suc n) zero (b ∷ bs) p q = absurd (omega arith)
pieces_enough (suc n) (suc m) [] p q = refl
pieces_enough (suc n) (suc m) (b ∷ bs) p q =
    let d = drop (4 + (head_from (b ∷ bs)).size) (b ∷ bs) in
    let l : length d ≤ length bs = simp length-drop (omega arith) in
    ap {B = List Piece} (λ l. piece_from (b ∷ bs) ∷ l) (pieces_enough n m d (omega arith) (omega arith))

pieces_first : (d : List ℕ) → 4 + (head_from d).size ≤ length d → pieces_of d ≡ piece_from d ∷ pieces_of (drop (4 + (head_from d).size) d)
unfolding pieces_of pieces_in
pieces_first [] l = absurd (omega arith)
pieces_first (b ∷ bs) l =
    let d = drop (4 + (head_from (b ∷ bs)).size) (b ∷ bs) in
    let short : length d ≤ length bs = simp length-drop (omega arith) in
    ap {B = List Piece} (λ l. piece_from (b ∷ bs) ∷ l) (pieces_enough (length bs) (length d) d short (omega arith))

-- ---- one record after the other
same_append : (xs ys zs : List ℕ) → same (xs ++ ys) (xs ++ zs) ≡ same ys zs
unfolding same
same_append [] ys zs = refl
same_append (x ∷ xs) ys zs = rw (eq-eqb x x refl) (same_append xs ys zs)

swap : (a b c : Bool) → a && (b && c) ≡ b && (a && c)
swap true b c = refl
swap false true c = refl
swap false false c = refl

never : (a : Bool) → a && false ≡ false
never true = refl
never false = refl

module _ (d : List ℕ) (small : AllBytes d) (asked : Head → Bool) (later : List (Head → Bool)) where
  -- A whole record is what is asked for, and the rest is as asked for.
  pub are_step : 4 + (head_from d).size ≤ length d → records_are (asked ∷ later) d ≡ asked (head_from d) && records_are later (drop (4 + (head_from d).size) d)
  unfolding records_are joined formed
  are_step l =
      let r = piece_from d in
      let rest = drop (4 + (head_from d).size) d in
      let len : length r.payload ≡ (head_from d).size = simp (length-take, length-drop) (omega arith) in
      let head : head_of r ≡ head_from d = λ i. record { kind = r.kind; size = len i } in
      let after : same (bytes_of r ++ joined (pieces_of rest)) d ≡ same (joined (pieces_of rest)) rest =
      ap (same (bytes_of r ++ joined (pieces_of rest))) (sym (opens_with d small l)) ∙ same_append (bytes_of r) (joined (pieces_of rest)) rest in
      ap (λ (rs : List Piece). same (joined rs) d && formed (asked ∷ later) (map head_of rs)) (pieces_first d l)
      ∙ ap₂ (λ (v : Bool) (h : Head). v && (asked h && formed later (map head_of (pieces_of rest)))) after head
      ∙ swap (same (joined (pieces_of rest)) rest) (asked (head_from d)) (formed later (map head_of (pieces_of rest)))

-- Where records are the bytes, the first is whole.
whole_first : (b : ℕ) (bs : List ℕ) → AllBytes (b ∷ bs) → joined (pieces_of (b ∷ bs)) ≡ b ∷ bs → 4 + (head_from (b ∷ bs)).size ≤ length (b ∷ bs)
unfolding pieces_of pieces_in joined bytes_of
whole_first b bs small e =
    let d = b ∷ bs in
    let r = piece_from d in
    let size = (head_from d).size in
    let rest = joined (pieces_in (length bs) (drop (4 + size) d)) in
    let long : length d ≡ 4 + length r.payload + length rest = omega (arith, ap {B = ℕ} length e, length-append (bytes_of r) rest, record_length r) in
    let two : length (take 2 d) ≡ 2 = simp length-take (omega arith) in
    let fits : size < 65536 = omega (arith, rw two at (number_lt (take 2 d) (bytes_take 2 d small))) in
    let most : length r.payload ≤ size = simp length-take (omega arith) in
    let says : size ≡ length r.payload = ap (λ (x : List ℕ). little_number (take 2 x)) (sym e) ∙ little_number_lem 2 (length r.payload) (omega arith) in
    omega arith

-- No whole record is there: nothing is as asked for.
pub are_short : (d : List ℕ) → AllBytes d → (asked : Head → Bool) (later : List (Head → Bool)) → length d < 4 + (head_from d).size → records_are (asked ∷ later) d ≡ false
unfolding records_are pieces_of pieces_in joined formed
are_short [] small asked later l = never (same [] [])
are_short (b ∷ bs) small asked later l =
    let d = b ∷ bs in
    is_false (records_are (asked ∷ later) d) (λ e.
    let p = both (same (joined (pieces_of d)) d) (formed (asked ∷ later) (map head_of (pieces_of d))) e in
    omega (arith, whole_first b bs small ((same_exactly (joined (pieces_of d)) d).0 p.0)))

-- Nothing more is asked for: nothing is left over.
pub are_none : records_are [] [] ≡ true
unfolding records_are pieces_of pieces_in joined same formed
are_none = refl

pub are_over : (b : ℕ) (bs : List ℕ) → records_are [] (b ∷ bs) ≡ false
unfolding records_are pieces_of pieces_in formed
are_over b bs = never (same (joined (pieces_of (b ∷ bs))) (b ∷ bs))

-- The count of a first record of two bytes.
pub count_first : (bytes : List ℕ) → (head_from bytes).size ≡ 2 → count_in (pieces_of bytes) ≡ little_number (take 2 (drop 4 bytes))
unfolding count_in pieces_of pieces_in little_number
count_first [] e = absurd (omega arith)
count_first (b ∷ bs) e = ap (λ (n : ℕ). little_number (take n (drop 4 (b ∷ bs)))) e

-- ---- what framed bytes are
pub record FramedSays (bytes : List ℕ) (n : ℕ) : Type 0 where
  pub most : n ≤ handles
  pub records : joined (pieces_of bytes) ≡ bytes
  pub parts : Parts n (pieces_of bytes)

pub framed_exactly : (bytes : List ℕ) (n : ℕ) → Framed bytes n → FramedSays bytes n
unfolding records_wrong records_are
framed_exactly bytes n f =
    let rs = pieces_of bytes in
    let p = both (leb (count_in rs) handles) (records_are (form (count_in rs)) bytes) (not-false (leb (count_in rs) handles && records_are (form (count_in rs)) bytes) f.right) in
    let q = both (same (joined rs) bytes) (formed (form (count_in rs)) (map head_of rs)) p.1 in
    let m = leb-true (count_in rs) handles p.0 in
    record {
      most = omega (arith, f.counts, m);
      records = (same_exactly (joined rs) bytes).0 q.0;
      parts = subst (λ (k : ℕ). Parts k rs) f.counts (form_parts (count_in rs) rs q.1);
    }

-- Each record stands where it begins, and says where the next does.
module _ (bytes : List ℕ) (n : ℕ) (f : Framed bytes n) (small : AllBytes bytes) where
  framed_stands : (i : ℕ) → i < length (pieces_of bytes) → drop (begin (pieces_of bytes) i) bytes ≡ bytes_of (nth (pieces_of bytes) i) ++ joined (drop (suc i) (pieces_of bytes))
  framed_stands i l = ap (λ (b : List ℕ). drop (begin (pieces_of bytes) i) b) (sym (framed_exactly bytes n f).records) ∙ begin_here (pieces_of bytes) i l

  framed_next : (i : ℕ) → i < length (pieces_of bytes) → begin (pieces_of bytes) (suc i) ≡ begin (pieces_of bytes) i + (4 + little_number (take 2 (drop (begin (pieces_of bytes) i) bytes)))
  framed_next i l =
      let rs = pieces_of bytes in
      let size = stands_size bytes (begin rs i) (nth rs i) (joined (drop (suc i) rs)) (framed_stands i l) (each_nth (λ r. length r.payload < 65536) rs i l (pieces_small bytes small)) in
      omega (arith, begin_next rs i l, size)

  pieces_long : length (pieces_of bytes) ≡ 2 + n
  pieces_long =
      let p = (framed_exactly bytes n f).parts in
      omega (arith, ap {B = ℕ} length p.whole, length-append p.each (p.last ∷ []), p.number)

  -- The count's, and after it the first connection's or the tree's.
  pub next_first : begin (pieces_of bytes) 1 ≡ 0 + (4 + little_number (take 2 (drop 0 bytes)))
  unfolding joined
  next_first = framed_next 0 (omega (arith, pieces_long))

  pub first_whole : 4 ≤ length bytes
  unfolding joined
  first_whole = omega (arith, stands_whole bytes 0 (nth (pieces_of bytes) 0) (joined (drop 1 (pieces_of bytes))) (framed_stands 0 (omega (arith, pieces_long))))

  pub connections_long : length (connections_in (pieces_of bytes)) ≡ n
  connections_long =
      let p = (framed_exactly bytes n f).parts in
      ap {B = ℕ} length (connections_inside n (pieces_of bytes) p) ∙ p.number

  -- A connection's.
  module _ (i : ℕ) (l : i < n) where
    nth_connection : nth (pieces_of bytes) (suc i) ≡ nth (connections_in (pieces_of bytes)) i
    nth_connection =
        let p = (framed_exactly bytes n f).parts in
        ap (λ (rs : List Piece). nth rs (suc i)) p.whole
        ∙ get_or-append p.each (p.last ∷ []) _ i (omega (arith, p.number))
        ∙ ap (λ (rs : List Piece). nth rs i) (sym (connections_inside n (pieces_of bytes) p))

    pub connection_stands : drop (begin (pieces_of bytes) (suc i)) bytes ≡ bytes_of (nth (connections_in (pieces_of bytes)) i) ++ joined (drop (suc (suc i)) (pieces_of bytes))
    connection_stands =
        framed_stands (suc i) (omega (arith, pieces_long)) ∙ ap (λ (r : Piece). bytes_of r ++ joined (drop (suc (suc i)) (pieces_of bytes))) nth_connection

    pub connection_sized : length (nth (connections_in (pieces_of bytes)) i).payload ≡ connection_size
    connection_sized =
        let p = (framed_exactly bytes n f).parts in
        let q : nth (connections_in (pieces_of bytes)) i ≡ nth p.each i = ap (λ (rs : List Piece). nth rs i) (connections_inside n (pieces_of bytes) p) in
        ap (λ (r : Piece). length r.payload) q ∙ (each_nth IsConnection p.each i (omega (arith, p.number)) p.connections).size_is

    pub next_connection : begin (pieces_of bytes) (suc (suc i)) ≡ begin (pieces_of bytes) (suc i) + (4 + little_number (take 2 (drop (begin (pieces_of bytes) (suc i)) bytes)))
    next_connection = framed_next (suc i) (omega (arith, pieces_long))

  -- The tree's.
  nth_tree : nth (pieces_of bytes) (suc n) ≡ (framed_exactly bytes n f).parts.last
  nth_tree =
      let p = (framed_exactly bytes n f).parts in
      ap (λ (rs : List Piece). nth rs (suc n)) p.whole
      ∙ ap (λ (m : ℕ). nth (p.each ++ (p.last ∷ [])) m) (sym p.number)
      ∙ get_or-append_seam p.each p.last [] _

  tree_size_lem : length (nth (pieces_of bytes) (suc n)).payload ≡ tree_size
  tree_size_lem = ap (λ (r : Piece). length r.payload) nth_tree ∙ (framed_exactly bytes n f).parts.ends.size_is

  pub tree_place : begin (pieces_of bytes) (suc n) + 4 + tree_size ≡ length bytes
  tree_place =
      let rs = pieces_of bytes in
      let end : begin rs (suc (suc n)) ≡ length bytes = ap (λ (xs : List Piece). length (joined xs)) (take_all (suc (suc n)) rs (omega (arith, pieces_long))) ∙ ap {B = ℕ} length (framed_exactly bytes n f).records in
      omega (arith, begin_next rs (suc n) (omega (arith, pieces_long)), tree_size_lem, end)

  pub tree_stands : take tree_size (drop (begin (pieces_of bytes) (suc n) + 4) bytes) ≡ tree_in (pieces_of bytes)
  tree_stands =
      let rs = pieces_of bytes in
      let e : begin rs (suc n) + 4 ≡ begin rs (suc n) + 4 + 0 = omega arith in
      ap (λ (k : ℕ). take tree_size (drop k bytes)) e
      ∙ stands_part bytes (begin rs (suc n)) (nth rs (suc n)) (joined (drop (suc (suc n)) rs)) (framed_stands (suc n) (omega (arith, pieces_long))) 0 tree_size (omega (arith, tree_size_lem))
      ∙ take_all tree_size (nth rs (suc n)).payload (omega (arith, tree_size_lem))
      ∙ ap (λ (r : Piece). r.payload) nth_tree
      ∙ sym (tree_inside n rs (framed_exactly bytes n f).parts)

-- ---- the answers of check 9, by the count
module _ (bytes : List ℕ) (n : ℕ) (c : count_in (pieces_of bytes) ≡ n) where
  counted : records_wrong bytes ≡ not (leb n handles && records_are (form n) bytes)
  unfolding records_wrong
  counted = ap (λ (k : ℕ). not (leb k handles && records_are (form k) bytes)) c

  pub framed_are : n ≤ handles → records_are (form n) bytes ≡ true → Framed bytes n
  framed_are l e = record { right = counted ∙ ap not (ap₂ ◌&&◌ (le-leb n handles l) e); counts = c }

  pub wrong_are : records_are (form n) bytes ≡ false → records_wrong bytes ≡ true
  wrong_are e = counted ∙ ap (λ (v : Bool). not (leb n handles && v)) e ∙ ap not (never (leb n handles))

  pub wrong_many : handles < n → records_wrong bytes ≡ true
  wrong_many l = counted ∙ ap (λ (v : Bool). not (v && records_are (form n) bytes)) (is_false (leb n handles) (λ e. omega (arith, leb-true n handles e)))

  pub framed_of : FramedSays bytes n → Framed bytes n
  unfolding records_are
  framed_of s =
      let rs = pieces_of bytes in
      framed_are s.most (ap₂ ◌&&◌ ((same_exactly (joined rs) bytes).1 s.records) (parts_form n rs s.parts))
