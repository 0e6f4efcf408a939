-- The records of the connections in the bytes of an image, and the test of their numbers.
use mathlib.Core.Path.{◌≡◌, refl, sym, ap, ap₂, ◌∙◌, subst}
use mathlib.Core.Bool.{Bool, true, false, ◌||◌, or_assoc, or-false}
use mathlib.Core.List.{List, [], ◌∷◌, ◌++◌, append_assoc, map}
use Prim.Native.Nat.{ℕ, zero, suc, ◌+◌, ◌-◌, ◌*◌, ◌/◌, ◌<◌, ◌≤◌}
use native.Mathlib.Numerals.{add-one}
use native.Mathlib.Omega.{arith}
use mir.Syntax.{w8}
use mir.Val.{Fits}
use lib.ListN.{length, get_or, take, drop, length-append, length-drop, drop_of_length-le}
use lib.Seq.{drop-cons, take_at, drop_at, take_all}
use Rattle.std.specs.Simd.{first_chunks}
use Rattle.std.proofs.lemmas.List.{get_or-map, length-map}
use Rattle.std.specs.Prelude.{Result, Ok, Err}
use Rattle.rules.specs.declared.Refusal.{Refusal}
use lib.Dec.{ltb}
use Rattle.std.proofs.Common.{lt-ltb, le-ltb}
use Rattle.rules.specs.declared.Refusal.TheVariants.{NumbersUnsound, FactorIllegal}
use Rattle.rules.specs.Ownership.{handles, largest_k}
use Rattle.rules.specs.Sound.{numbers_within}
use Rattle.rules.specs.Refusals.{number}
use Rattle.rules.specs.Steps.{refuses}
use Rattle.rules.specs.Records.{Piece, bytes_of, joined, begin, pieces_of}
use Rattle.rules.specs.Bytes.{little}
use Rattle.rules.specs.Framing.{Framed}
use Rattle.rules.specs.Fields.{handle_in, connection_in}
use Rattle.rules.specs.Load.{largest_record_k, any_illegal}
use Rattle.basics.proofs.BytesLaws.{AllBytes}
use Rattle.images.proofs.RisingLaws.{sound_from, sound_from_lem, pieces_pass, handle_above, handle_falls, numbers_fail}
use Rattle.images.proofs.PieceLaws.{nth, Each, each_nth, record_length, joined_append}
use Rattle.images.proofs.FormLaws.{IsConnection, Parts, connections_inside}
use Rattle.images.proofs.FrameLaws.{framed_exactly, connections_long, tree_place}
use Rattle.restore.specs.LoadSteps.{of_soundness, checked, records_step}
use Rattle.restore.specs.Promises.{records}

-- ---- the records of the connections, one after the other
first_size : (rs later : List Piece) (i : ℕ) → i ≤ length rs → Each IsConnection rs
    → length (joined (take i (rs ++ later))) ≡ i * 18
unfolding joined
first_size rs later zero l e = refl
first_size [] later (suc i) l e = absurd (omega arith)
first_size (r ∷ rs) later (suc i) l e =
    let rest = first_size rs later i (omega arith) e.1 in
    let split = length-append (bytes_of r) (joined (take i (rs ++ later))) in
    omega (arith, split, record_length r, e.0.size_is, rest)

-- Chunks of as many bytes are the records.
chunks_are : (rs : List Piece) (k : ℕ) (later : List ℕ) → length rs ≤ k → Each IsConnection rs
    → take (length rs) (first_chunks 18 k (joined rs ++ later)) ≡ map bytes_of rs
unfolding joined
chunks_are [] k later l e = refl
chunks_are (r ∷ rs) zero later l e = absurd (omega arith)
chunks_are (r ∷ rs) (suc k) later l e =
    let size : length (bytes_of r) ≡ 18 = omega (arith, record_length r, e.0.size_is) in
    let rest = joined rs ++ later in
    let split = append_assoc (bytes_of r) (joined rs) later in
    ap₂ (λ (x : List ℕ) (xs : List (List ℕ)). x ∷ xs)
    (ap (take 18) split ∙ take_at (bytes_of r) rest 18 size)
    (ap (λ (xs : List ℕ). take (length rs) (first_chunks 18 k xs))
    (ap (drop 18) split ∙ drop_at (bytes_of r) rest 18 size)
    ∙ chunks_are rs k later (omega arith) e.1)

module _ (bytes : List ℕ) (n : ℕ) (f : Framed bytes n) (fits : (i : ℕ) → Fits w8 (get_or bytes i 0)) where
  small : AllBytes bytes
  small i = (fits i).fits

  parts : Parts n (pieces_of bytes)
  parts = (framed_exactly bytes n f).parts

  pub long : length (records bytes) ≡ n
  long = connections_long bytes n f small

  each_of : Each IsConnection (records bytes)
  each_of =
      let inside = connections_inside n (pieces_of bytes) parts in
      subst (Each IsConnection) (sym inside) parts.connections

  counted : length (bytes_of parts.first) ≡ 6
  counted = omega (arith, record_length parts.first, parts.counts.size_is)

  -- Where the record after the first i begins; after all that is within the bytes.
  pub ends_at : (i : ℕ) → i ≤ n → begin (pieces_of bytes) (suc i) ≡ 6 + i * 18
  unfolding joined
  ends_at i l =
      let p = parts in
      let last = p.last ∷ [] in
      let e = ap (λ (rs : List Piece). begin rs (suc i)) p.whole in
      let split = length-append (bytes_of p.first) (joined (take i (p.each ++ last))) in
      let size = first_size p.each last i (omega (arith, l, p.number)) p.connections in
      omega (arith, e, split, counted, size)

  pub end_room : 6 + n * 18 ≤ length bytes
  end_room = omega (arith, ends_at n (omega arith), tree_place bytes n f small)

  after_count : drop 6 bytes ≡ joined (records bytes) ++ joined (parts.last ∷ [])
  unfolding joined
  after_count =
      let p = parts in
      let rest = p.each ++ (p.last ∷ []) in
      let inside = connections_inside n (pieces_of bytes) p in
      ap (drop 6) (sym (framed_exactly bytes n f).records ∙ ap joined p.whole)
      ∙ drop_at (bytes_of p.first) (joined rest) 6 counted
      ∙ joined_append p.each (p.last ∷ [])
      ∙ ap (λ (rs : List Piece). joined rs ++ joined (p.last ∷ [])) (sym inside)

  -- What is behind the count's record, as a slice of the bytes has it.
  behind : take (length bytes - 6) (drop 6 bytes) ≡ drop 6 bytes
  behind = take_all (length bytes - 6) (drop 6 bytes) (omega (arith, length-drop 6 bytes))

  pub chunks_room : n ≤ length (take (length bytes - 6) (drop 6 bytes)) / 18
  chunks_room = omega (arith, end_room, length-drop 6 bytes, ap {B = ℕ} length behind)

  pub chunked : (k : ℕ) → n ≤ k
      → take n (first_chunks 18 k (take (length bytes - 6) (drop 6 bytes)))
      ≡ map bytes_of (records bytes)
  chunked k l =
      ap₂ (λ (m : ℕ) (xs : List ℕ). take m (first_chunks 18 k xs)) (sym long) (behind ∙ after_count)
      ∙ chunks_are (records bytes) k (joined (parts.last ∷ [])) (omega (arith, long)) each_of

  module _ (items : List (List ℕ)) (e : items ≡ map bytes_of (records bytes)) where
    pub as_many : length items ≡ length (records bytes)
    as_many = ap {B = ℕ} length e ∙ length-map (records bytes) bytes_of

    -- One of them: it is record i, and its payload is behind four bytes of it.
    module _ (i : ℕ) (l : i < length items) where
      pub listed : i < length (records bytes)
      listed = omega (arith, l, as_many)

      pub payload_is : (d : List ℕ)
          → take 14 (drop 4 (get_or items i d)) ≡ (nth (records bytes) i).payload
      unfolding bytes_of little
      payload_is d =
          let rs = records bytes in
          let sized = (each_nth IsConnection rs i listed each_of).size_is in
          ap (λ (xs : List (List ℕ)). take 14 (drop 4 (get_or xs i d))) e
          ∙ ap (λ (xs : List ℕ). take 14 (drop 4 xs)) (get_or-map bytes_of rs i _ d listed)
          ∙ take_all 14 (nth rs i).payload (omega (arith, sized))

-- ---- both checks up to record i: what they say is what they say of the records from i on, where `illegal` says whether a k above 8 was seen
abbrev pub Tested : List Piece → ℕ → ℕ → Bool → Type 0
Tested rs i least illegal = records_step rs ≡ checked (sound_from largest_record_k least (drop i rs)) (illegal || any_illegal (drop i rs))

pub tested_none : (rs : List Piece) → Tested rs 0 0 false
unfolding records_step
tested_none rs = ap (λ (v : Bool). checked v (any_illegal rs)) (sound_from_lem largest_record_k rs)

module _ (rs : List Piece) (i least h : ℕ) (illegal : Bool) (l : i < length rs) (t : Tested rs i least illegal) (e : h ≡ handle_in (nth rs i)) where
  begun : records_step rs ≡ checked (sound_from largest_record_k least (nth rs i ∷ drop (suc i) rs)) (illegal || any_illegal (nth rs i ∷ drop (suc i) rs))
  begun = t ∙ ap (λ (xs : List Piece). checked (sound_from largest_record_k least xs) (illegal || any_illegal xs)) (drop-cons rs i _ l)

  -- It is unsound: whatever k was seen, that is 10.
  unsound_here : sound_from largest_record_k least (nth rs i ∷ drop (suc i) rs) ≡ false → refuses (number NumbersUnsound) ≡ records_step rs
  unfolding checked
  unsound_here s = sym (begun ∙ ap (λ (v : Bool). checked v (illegal || any_illegal (nth rs i ∷ drop (suc i) rs))) s)

  pub tested_above : handles ≤ h → refuses (number NumbersUnsound) ≡ records_step rs
  tested_above m = unsound_here (handle_above largest_record_k least (nth rs i) (drop (suc i) rs) (omega arith))

  pub tested_falls : h < least → refuses (number NumbersUnsound) ≡ records_step rs
  tested_falls q = unsound_here (handle_falls largest_record_k least (nth rs i) (drop (suc i) rs) (omega arith))

  pub tested_fails : numbers_within largest_record_k (connection_in (nth rs i)) ≡ false → refuses (number NumbersUnsound) ≡ records_step rs
  tested_fails s = unsound_here (numbers_fail largest_record_k least (nth rs i) (drop (suc i) rs) s)

  pub tested_more : h < handles → least ≤ h → numbers_within largest_record_k (connection_in (nth rs i)) ≡ true → (k : ℕ) → k ≡ (connection_in (nth rs i)).k
      → Tested rs (i + 1) (h + 1) (illegal || ltb largest_k k)
  unfolding any_illegal
  tested_more m q s k ek =
      rw (add-one i, add-one h, e, ek)
      (begun
      ∙ ap₂ checked
      (pieces_pass largest_record_k least (nth rs i) (drop (suc i) rs) (omega arith) (omega arith) s)
      (sym (or_assoc illegal (ltb largest_k (connection_in (nth rs i)).k) (any_illegal (drop (suc i) rs)))))

-- What was seen of k is the answer, where no record is unsound.
abbrev pub answer_of : Bool → Result (Unit {0}) Refusal
answer_of true = Err FactorIllegal
answer_of false = Ok tt

seen : (v : Bool) → v || true ≡ true
seen true = refl
seen false = refl

pub said_above : (illegal : Bool) (k : ℕ) → largest_k < k → Err FactorIllegal ≡ answer_of (illegal || ltb largest_k k)
said_above illegal k l = rw (lt-ltb largest_k k l, seen illegal) refl

pub said_within : (illegal : Bool) (k : ℕ) → k ≤ largest_k → answer_of illegal ≡ answer_of (illegal || ltb largest_k k)
said_within illegal k l = rw (le-ltb largest_k k l, or-false illegal) refl

answered : (v : Bool) → of_soundness (answer_of v) ≡ checked true v
unfolding checked
answered true = refl
answered false = refl

-- No record is left: what was seen decides.
pub tested_all : (rs : List Piece) (i least : ℕ) (illegal : Bool) → length rs ≤ i → Tested rs i least illegal → of_soundness (answer_of illegal) ≡ records_step rs
unfolding sound_from any_illegal
tested_all rs i least illegal l t =
    answered illegal
    ∙ sym (t
    ∙ ap (λ (xs : List Piece). checked (sound_from largest_record_k least xs) (illegal || any_illegal xs)) (drop_of_length-le rs l)
    ∙ ap (checked true) (or-false illegal))
