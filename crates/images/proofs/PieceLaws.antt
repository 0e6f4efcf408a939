-- The laws of records: what is written is read back.
use mathlib.Core.Path.{◌≡◌, refl, sym, ap, ap₂, ◌∙◌}
use mathlib.Core.Bool.{true}
use mathlib.Core.List.{List, [], ◌∷◌, ◌++◌, append_assoc}
use Prim.Native.Nat.{ℕ, zero, suc, ◌+◌, ◌^◌, ◌<◌, ◌≤◌}
use native.Mathlib.Omega.{arith}
use lib.Pow.{pow_mono}
use lib.ListN.{length, get_or, take, drop, length-append, length-take, length-drop, take-append-drop}
use lib.Seq.{take_at, drop_at, take_all, take-suc, drop-cons, drop-drop, drop-append_seam, take-append-le, drop-append-le}
use Rattle.rules.specs.declared.Connection.{Connection}
use Rattle.rules.specs.Bytes.{little, little_number}
use Rattle.rules.specs.Records.{Piece, bytes_of, joined, begin, pieces_in, pieces_of}
use Rattle.rules.specs.Form.{connection_kind, connection_size}
use Rattle.rules.specs.Image.{connection_piece}
use Rattle.rules.specs.Fields.{field_in, handle_in, connection_in}
use Rattle.rules.specs.Sound.{Numbers}
use Rattle.basics.proofs.BytesLaws.{AllBytes, bytes_take, bytes_drop, little_number_lem, number_at_lt, number_next}
use Rattle.blocks.proofs.ClassLaws.{within_depth}

-- Record i, from 0 on.
abbrev pub nth : List Piece → ℕ → Piece
nth rs i = get_or rs i (record { kind = 0; payload = [] })

-- The kind and the length of a record fit in two bytes each.
pub record Fitting (r : Piece) : Type 0 where
  pub kind_fits : r.kind < 65536
  pub size_fits : length r.payload < 65536

-- So it is of each record.
abbrev pub Each : (Piece → Type 0) → List Piece → Type 0
Each P [] = Unit {0}
Each P (r ∷ rs) = P r × Each P rs

pub each_nth : (P : Piece → Type 0) (rs : List Piece) (i : ℕ) → i < length rs → Each P rs → P (nth rs i)
each_nth P [] i l e = absurd (omega arith)
each_nth P (r ∷ rs) zero l e = e.0
each_nth P (r ∷ rs) (suc i) l e = each_nth P rs i (omega arith) e.1

-- ---- records one after the other
-- A record is its payload and four bytes before it.
pub record_length : (r : Piece) → length (bytes_of r) ≡ 4 + length r.payload
unfolding bytes_of
record_length r = omega arith

pub joined_append : (xs ys : List Piece) → joined (xs ++ ys) ≡ joined xs ++ joined ys
unfolding joined
joined_append [] ys = refl
joined_append (x ∷ xs) ys = ap (λ (l : List ℕ). bytes_of x ++ l) (joined_append xs ys) ∙ sym (append_assoc (bytes_of x) (joined xs) (joined ys))

-- ---- where each begins
module _ (rs : List Piece) (i : ℕ) (l : i < length rs) where
  -- A record begins after the one before it, which has four bytes and its payload.
  pub begin_next : begin rs (suc i) ≡ begin rs i + (4 + length (nth rs i).payload)
  unfolding joined
  begin_next =
      let r = nth rs i in
      let e : joined (take (suc i) rs) ≡ joined (take i rs) ++ joined (r ∷ []) = ap joined (take-suc rs i _ l) ∙ joined_append (take i rs) (r ∷ []) in
      omega (arith, ap {B = ℕ} length e ∙ length-append (joined (take i rs)) (joined (r ∷ [])), length-append (bytes_of r) [], record_length r)

  -- From there on the bytes are the record, and the records after it.
  pub begin_here : drop (begin rs i) (joined rs) ≡ bytes_of (nth rs i) ++ joined (drop (suc i) rs)
  unfolding joined
  begin_here =
      ap (λ (bytes : List ℕ). drop (begin rs i) bytes) (ap joined (sym (take-append-drop i rs)) ∙ joined_append (take i rs) (drop i rs))
      ∙ drop-append_seam (joined (take i rs)) (joined (drop i rs))
      ∙ ap joined (drop-cons rs i _ l)

-- What the bytes say where a record stands: its size, and each part of its payload.
module _ (bytes : List ℕ) (at : ℕ) (r : Piece) (later : List ℕ) (here : drop at bytes ≡ bytes_of r ++ later) where
  pub stands_whole : at + (4 + length r.payload) ≤ length bytes
  stands_whole = omega (arith, ap {B = ℕ} length here, length-drop at bytes, length-append (bytes_of r) later, record_length r)

  pub stands_size : length r.payload < 65536 → little_number (take 2 (drop at bytes)) ≡ length r.payload
  unfolding bytes_of
  stands_size l = ap (λ (d : List ℕ). little_number (take 2 d)) here ∙ little_number_lem 2 (length r.payload) l

  pub stands_part : (start width : ℕ) → start + width ≤ length r.payload → take width (drop (at + 4 + start) bytes) ≡ take width (drop start r.payload)
  unfolding bytes_of
  stands_part start width l =
      let from : start ≤ length r.payload = omega arith in
      let upto : width ≤ length (drop start r.payload) = simp length-drop (omega arith) in
      ap (take width) (sym (ap (drop start) (drop-drop 4 at bytes) ∙ drop-drop start (at + 4) bytes)
      ∙ ap (λ (d : List ℕ). drop start (drop 4 d)) here
      ∙ drop-append-le start r.payload later from)
      ∙ take-append-le width (drop start r.payload) later upto

-- ---- written and read back
-- With n for a bound, as many records as there are.
pieces_in_lem : (rs : List Piece) (n : ℕ) → length (joined rs) ≤ n → Each Fitting rs → pieces_in n (joined rs) ≡ rs
unfolding joined bytes_of pieces_in
pieces_in_lem [] zero h f = refl
pieces_in_lem [] (suc n) h f = refl
pieces_in_lem (r ∷ rs) zero h f = absurd (omega arith)
pieces_in_lem (r ∷ rs) (suc n) h f =
    let size = little_number (little 2 (length r.payload)) in
    let e : size ≡ length r.payload = little_number_lem 2 (length r.payload) f.0.size_fits in
    let first : take size (r.payload ++ joined rs) ≡ r.payload = ap (λ (m : ℕ). take m (r.payload ++ joined rs)) e ∙ take_at r.payload (joined rs) _ refl in
    let rest : drop (4 + size) (bytes_of r ++ joined rs) ≡ joined rs = ap (λ (m : ℕ). drop (4 + m) (bytes_of r ++ joined rs)) e ∙ drop_at (bytes_of r) (joined rs) _ (record_length r) in
    let below : length (joined rs) ≤ n = omega (arith, length-append (bytes_of r) (joined rs), record_length r) in
    ap₂ {C = List Piece} (λ x l. x ∷ l)
    (λ i. record { kind = little_number_lem 2 r.kind f.0.kind_fits i; payload = first i })
    (ap (pieces_in n) rest ∙ pieces_in_lem rs n below f.1)

-- Bytes that are records one after the other are read back as those records.
pub pieces_joined : (rs : List Piece) → Each Fitting rs → pieces_of (joined rs) ≡ rs
unfolding pieces_of
pieces_joined rs f = pieces_in_lem rs (length (joined rs)) (omega arith) f

pieces_in_bytes : (n : ℕ) (bytes : List ℕ) → AllBytes bytes → Each (λ r. AllBytes r.payload) (pieces_in n bytes)
unfolding pieces_in
pieces_in_bytes zero bytes h = tt
pieces_in_bytes (suc n) [] h = tt
pieces_in_bytes (suc n) (b ∷ bs) h =
    let size = little_number (take 2 (b ∷ bs)) in
    (bytes_take size (drop 4 (b ∷ bs)) (bytes_drop 4 (b ∷ bs) h), pieces_in_bytes n (drop (4 + size) (b ∷ bs)) (bytes_drop (4 + size) (b ∷ bs) h))

pieces_in_small : (n : ℕ) (bytes : List ℕ) → AllBytes bytes → Each (λ r. length r.payload < 65536) (pieces_in n bytes)
unfolding pieces_in
pieces_in_small zero bytes h = tt
pieces_in_small (suc n) [] h = tt
pieces_in_small (suc n) (b ∷ bs) h =
    let size = little_number (take 2 (b ∷ bs)) in
    (simp length-take (omega (arith, number_at_lt (b ∷ bs) 0 2 h)), pieces_in_small n (drop (4 + size) (b ∷ bs)) (bytes_drop (4 + size) (b ∷ bs) h))

-- The size of each record of bytes fits in two,
pub pieces_small : (bytes : List ℕ) → AllBytes bytes → Each (λ r. length r.payload < 65536) (pieces_of bytes)
unfolding pieces_of
pieces_small bytes h = pieces_in_small (length bytes) bytes h

-- and they hold bytes.
pub pieces_bytes : (bytes : List ℕ) → AllBytes bytes → Each (λ r. AllBytes r.payload) (pieces_of bytes)
unfolding pieces_of
pieces_bytes bytes h = pieces_in_bytes (length bytes) bytes h

-- ---- a connection in its bytes
-- The numbers of a connection fit in their bytes.
pub record Narrow (c : Connection) : Type 0 where
  pub k_narrow : c.k < 256
  pub anchor_narrow : c.anchor < 65536
  pub length_narrow : c.length < 65536
  pub floor_narrow : c.floor < 65536
  pub ceiling_narrow : c.ceiling < 65536
  pub estimate_narrow : c.estimate < 4294967296

-- Sound numbers do.
pub numbers_narrow : (c : Connection) → Numbers c → Narrow c
numbers_narrow c n =
    let g : 2 ^ c.k ≤ 2 ^ 9 = pow_mono (within_depth n.deep) in
    omega arith

-- Its handle and its numbers are read back.
pub connection_read : (h : ℕ) (c : Connection) → h < 256 → Narrow c → c.live ≡ true
    → (handle_in (connection_piece h c) ≡ h) × (connection_in (connection_piece h c) ≡ c)
unfolding connection_piece handle_in connection_in
connection_read h c l n live = (
  little_number_lem 1 h l,
  λ i.
      record {
        live = sym live i;
        k = little_number_lem 1 c.k n.k_narrow i;
        anchor = little_number_lem 2 c.anchor n.anchor_narrow i;
        length = little_number_lem 2 c.length n.length_narrow i;
        floor = little_number_lem 2 c.floor n.floor_narrow i;
        ceiling = little_number_lem 2 c.ceiling n.ceiling_narrow i;
        estimate = little_number_lem 4 c.estimate n.estimate_narrow i;
      },
)

-- The bytes of a connection's record are those of the connection that they say.
pub connection_written : (r : Piece) → r.kind ≡ connection_kind → length r.payload ≡ connection_size → AllBytes r.payload → connection_piece (handle_in r) (connection_in r) ≡ r
unfolding connection_piece handle_in connection_in
connection_written r q l h = λ i. record { kind = sym q i; payload = whole i }
  where
    then : (s w : ℕ) → s + w ≤ connection_size → {x : List ℕ} → x ≡ take s r.payload → x ++ little w (field_in r s w) ≡ take (s + w) r.payload
    then s w g e = number_next r.payload s w h (omega arith) e

    whole : (connection_piece (handle_in r) (connection_in r)).payload ≡ r.payload
    whole =
        then 10 4 (omega arith)
        (then 8 2 (omega arith) (then 6 2 (omega arith) (then 4 2 (omega arith) (then 2 2 (omega arith) (then 1 1 (omega arith) (then 0 1 (omega arith) {x = []} refl))))))
        ∙ take_all connection_size r.payload (omega arith)
