-- What a save and a load mean: an image is that of exactly one schedule, and only the image of a sound one is accepted.
use mathlib.Core.Path.{◌≡◌, refl, sym, ap, ap₂, ◌∙◌, subst}
use mathlib.Core.Bool.{Bool, true, false, ◌||◌, ◌&&◌, not, cond, false≢true}
use mathlib.Core.Logic.{◌↔◌}
use mathlib.Core.List.{List, [], ◌∷◌, ◌++◌, map, append-nil, append_assoc}
use Prim.Native.Nat.{ℕ, zero, suc, ◌+◌, ◌-◌, ◌*◌, ◌<◌, ◌≤◌}
use native.Mathlib.Omega.{arith}
use lib.ListN.{length, set, replicate, length-append, length-replicate, replicate-append-replicate}
use lib.Seq.{set_at}
use borrow.Author.Tests.{not-false}
use Rattle.rules.specs.declared.Connection.{Connection}
use Rattle.rules.specs.declared.Schedule.{Schedule}
use Rattle.rules.specs.Ownership.{handles, largest_k, nobody, at, owns, taken, owned_twice}
use Rattle.rules.specs.Sound.{sound_numbers, all_sound, apart, sound_connections, sound, Numbers}
use Rattle.rules.specs.Good.{Good, FreeSlotsZero, tree_for, fresh, with_connections}
use Rattle.rules.specs.Refusals.{number}
use Rattle.rules.specs.Answers.{Outcome, refusing, loaded}
use Rattle.rules.specs.Handles.{each_live}
use Rattle.rules.specs.Bytes.{little, little_number, same}
use Rattle.rules.specs.Records.{Piece, bytes_of, joined, pieces_of}
use Rattle.rules.specs.Form.{head_of, count_kind, count_size, connection_kind, connection_size, tree_kind, tree_size, form, formed}
use Rattle.rules.specs.Image.{count_piece, connection_piece, connection_pieces, tree_piece, pieces, image, IsImage}
use Rattle.rules.specs.Framing.{count_in, Framed}
use Rattle.rules.specs.Fields.{connections_in, handle_in, connection_in, tree_in}
use Rattle.rules.specs.Load.{largest_record_k, records_within, numbers_unsound, factor_illegal, at_handles, connections_of, load_checks, load_done, load}
use Rattle.basics.proofs.BoolLaws.{both}
use Rattle.basics.proofs.BelowLaws.{any_ext}
use Rattle.blocks.proofs.TreeLaws.{tree_sized, tree_ext}
use Rattle.blocks.proofs.SoundLaws.{numbers_sound, all_sound_at, connected_good}
use Rattle.blocks.proofs.ScheduleLaws.{at_free}
use Rattle.calls.proofs.RefusalLaws.{Passed, decided_cases, decided_passed}
use Rattle.calls.proofs.EachLaws.{live_count, count_most, each_count}
use Rattle.basics.proofs.BytesLaws.{AllBytes, bytes_append, little_bytes, little_number_lem, number_little, same_exactly}
use Rattle.images.proofs.RisingLaws.{sound_from, sound_from_lem, rising_exactly}
use Rattle.images.proofs.LegalLaws.{legal_of, legal_told}
use Rattle.images.proofs.PieceLaws.{Fitting, Each, record_length, joined_append, pieces_joined, pieces_bytes, numbers_narrow, connection_read, connection_written}
use Rattle.images.proofs.FormLaws.{HeadIs, IsConnection, Parts, parts_form, connections_inside, tree_inside}
use Rattle.images.proofs.FrameLaws.{framed_exactly, framed_of}

-- The same connections, with every slot that is not live set to zeros.
unfoldable pub cleared : List Connection → List Connection
cleared [] = []
cleared (c ∷ cs) = cond c.live c nobody ∷ cleared cs

-- ---- what a cleared slot changes: nothing that a live connection has
slot_owns : (c : Connection) (b : ℕ) → owns (cond c.live c nobody) b ≡ owns c b
unfolding owns
slot_owns c b = go c.live refl
  where
    go : (v : Bool) → c.live ≡ v → owns (cond v c nobody) b ≡ owns c b
    go true q = refl
    go false q = rw q

-- Each handle owns the same blocks.
pub cleared_owns : (cs : List Connection) (b h : ℕ) → owns (at (cleared cs) h) b ≡ owns (at cs h) b
unfolding cleared
cleared_owns [] b h = refl
cleared_owns (c ∷ cs) b zero = slot_owns c b
cleared_owns (c ∷ cs) b (suc h) = cleared_owns cs b h

cleared_taken : (cs : List Connection) (b : ℕ) → taken (cleared cs) b ≡ taken cs b
unfolding cleared taken
cleared_taken [] b = refl
cleared_taken (c ∷ cs) b = ap₂ ◌||◌ (slot_owns c b) (cleared_taken cs b)

cleared_twice : (cs : List Connection) (b : ℕ) → owned_twice (cleared cs) b ≡ owned_twice cs b
unfolding cleared owned_twice
cleared_twice [] b = refl
cleared_twice (c ∷ cs) b = ap₂ ◌||◌ (ap₂ ◌&&◌ (slot_owns c b) (cleared_taken cs b)) (cleared_twice cs b)

cleared_apart : (cs : List Connection) → apart (cleared cs) ≡ apart cs
unfolding apart
cleared_apart cs = ap not (any_ext 512 (owned_twice (cleared cs)) (owned_twice cs) (λ b l. cleared_twice cs b))

pub cleared_tree : (cs : List Connection) → tree_for (cleared cs) ≡ tree_for cs
unfolding tree_for
cleared_tree cs = tree_ext (taken (cleared cs)) (taken cs) (λ b l. cleared_taken cs b)

-- Where the free slots are zeros already, nothing changes.
pub cleared_same : (cs : List Connection) → ((h : ℕ) → (at cs h).live ≡ false → at cs h ≡ nobody) → cleared cs ≡ cs
unfolding cleared
cleared_same [] z = refl
cleared_same (c ∷ cs) z = ap₂ {C = List Connection} (λ x l. x ∷ l) (go c.live refl) (cleared_same cs (λ h. z (suc h)))
  where
    go : (v : Bool) → c.live ≡ v → cond v c nobody ≡ c
    go true q = refl
    go false q = sym (z 0 q)

-- ---- each record of an image
pub each_append : (P : Piece → Type 0) (xs ys : List Piece) → Each P xs → Each P ys → Each P (xs ++ ys)
each_append P [] ys p q = q
each_append P (x ∷ xs) ys p q = (p.0, each_append P xs ys p.1 q)

each_left : (P : Piece → Type 0) (xs ys : List Piece) → Each P (xs ++ ys) → Each P xs
each_left P [] ys p = tt
each_left P (x ∷ xs) ys p = (p.0, each_left P xs ys p.1)

module _ (P : Piece → Type 0) (each : (h : ℕ) (c : Connection) → P (connection_piece h c)) where
  each_connection : (h : ℕ) (cs : List Connection) → Each P (connection_pieces h cs)
  unfolding each_live
  each_connection h [] = tt
  each_connection h (c ∷ cs) = go c.live (each_connection (suc h) cs)
    where
      go : (v : Bool) → Each P (connection_pieces (suc h) cs) → Each P (cond v (connection_piece h c ∷ connection_pieces (suc h) cs) (connection_pieces (suc h) cs))
      go true later = (each h c, later)
      go false later = later

  each_piece : (s : Schedule) → ((n : ℕ) → P (count_piece n)) → P (tree_piece s) → Each P (pieces s)
  unfolding pieces
  each_piece s count tree =
      let each = connection_pieces 0 s.connections in
      (count (length each), each_append P each (tree_piece s ∷ []) (each_connection 0 s.connections) (tree, tt))

-- The kind and the size of each.
count_has : (n : ℕ) → HeadIs count_kind count_size (head_of (count_piece n))
unfolding count_piece
count_has n = record { kind_is = refl; size_is = refl }

pub connection_has : (h : ℕ) (c : Connection) → IsConnection (connection_piece h c)
unfolding connection_piece
connection_has h c = record { kind_is = refl; size_is = refl }

tree_has : (s : Schedule) → HeadIs tree_kind tree_size (head_of (tree_piece s))
unfolding tree_piece
tree_has s = record { kind_is = refl; size_is = (tree_sized (taken s.connections)).long }

pieces_parts : (s : Schedule) → Parts (live_count s.connections) (pieces s)
unfolding pieces
pieces_parts s =
    let each = connection_pieces 0 s.connections in
    record {
      first = count_piece (length each);
      each = each;
      last = tree_piece s;
      whole = refl;
      number = each_count connection_piece 0 s.connections;
      counts = count_has (length each);
      connections = each_connection IsConnection connection_has 0 s.connections;
      ends = tree_has s;
    }

-- The records of an image have the form.
pub pieces_formed : (s : Schedule) → formed (form (live_count s.connections)) (map head_of (pieces s)) ≡ true
pieces_formed s = parts_form (live_count s.connections) (pieces s) (pieces_parts s)

-- ---- the size of an image
-- Records of connections have as many bytes each.
joined_length : (rs : List Piece) → Each IsConnection rs → length (joined rs) ≡ (4 + connection_size) * length rs
unfolding joined
joined_length [] e = refl
joined_length (r ∷ rs) e = omega (arith, length-append (bytes_of r) (joined rs), record_length r, e.0.size_is, joined_length rs e.1)

pub connections_length : (h : ℕ) (cs : List Connection) → length (joined (connection_pieces h cs)) ≡ (4 + connection_size) * length (connection_pieces h cs)
connections_length h cs = joined_length (connection_pieces h cs) (each_connection IsConnection connection_has h cs)

-- The size is 138 + 18 × n, for n live connections.
pub image_length : (s : Schedule) → length (image s) ≡ 138 + 18 * live_count s.connections
unfolding image pieces joined pieces_parts
image_length s =
    let p = pieces_parts s in
    let each = connection_pieces 0 s.connections in
    let tree = tree_piece s ∷ [] in
    omega (
      arith,
      length-append (bytes_of (count_piece (length each))) (joined (each ++ tree)),
      record_length (count_piece (length each)),
      p.counts.size_is,
      ap {B = ℕ} length (joined_append each tree) ∙ length-append (joined each) (joined tree),
      connections_length 0 s.connections,
      p.number,
      length-append (bytes_of (tree_piece s)) [],
      record_length (tree_piece s),
      p.ends.size_is,
    )

-- 138 when empty, 1,290 when full.
pub image_bounds : (s : Schedule) → length s.connections ≡ handles → (138 ≤ length (image s)) × (length (image s) ≤ 1290)
image_bounds s l = (omega (arith, image_length s), omega (arith, image_length s, count_most s.connections, l))

-- ---- an image is bytes
record_bytes : (r : Piece) → AllBytes r.payload → AllBytes (bytes_of r)
unfolding bytes_of
record_bytes r h = bytes_append (little 2 (length r.payload) ++ little 2 r.kind) r.payload (bytes_append (little 2 (length r.payload)) (little 2 r.kind) (little_bytes 2 _) (little_bytes 2 _)) h

joined_bytes : (rs : List Piece) → Each (λ r. AllBytes r.payload) rs → AllBytes (joined rs)
unfolding joined
joined_bytes [] e = λ i. omega arith
joined_bytes (r ∷ rs) e = bytes_append (bytes_of r) (joined rs) (record_bytes r e.0) (joined_bytes rs e.1)

-- Bytes, as a record: so that `then` reads off its list.
record Bytes (s : List ℕ) : Type 0 where
  each : AllBytes s

then : {s : List ℕ} → Bytes s → (w n : ℕ) → Bytes (s ++ little w n)
then {s} b w n = record { each = bytes_append s (little w n) b.each (little_bytes w n) }

connection_bytes : (h : ℕ) (c : Connection) → AllBytes (connection_piece h c).payload
unfolding connection_piece
connection_bytes h c =
    let none : Bytes [] = record { each = λ i. omega arith } in
    (then (then (then (then (then (then (then none 1 h) 1 c.k) 2 c.anchor) 2 c.length) 2 c.floor) 2 c.ceiling) 4 c.estimate).each

pub image_bytes : (s : Schedule) → AllBytes (image s)
unfolding image count_piece tree_piece
image_bytes s = joined_bytes (pieces s) (each_piece (λ r. AllBytes r.payload) connection_bytes s (λ n. little_bytes 2 n) (tree_sized (taken s.connections)).small)

-- Connections with the same live ones have the same image.
cleared_pieces : (h : ℕ) (cs : List Connection) → connection_pieces h (cleared cs) ≡ connection_pieces h cs
unfolding each_live cleared
cleared_pieces h [] = refl
cleared_pieces h (c ∷ cs) = go c.live refl (cleared_pieces (suc h) cs)
  where
    go : (v : Bool) → c.live ≡ v → connection_pieces (suc h) (cleared cs) ≡ connection_pieces (suc h) cs → connection_pieces h (cond v c nobody ∷ cleared cs) ≡ connection_pieces h (c ∷ cs)
    go true q later = rw later
    go false q later = rw q later

pub image_cleared : (s t : Schedule) → image (with_connections t (cleared s.connections)) ≡ image s
unfolding image pieces tree_piece with_connections
image_cleared s t =
    ap₂ (λ (rs : List Piece) (t : List ℕ). joined (count_piece (length rs) ∷ (rs ++ (record { kind = tree_kind; payload = t } ∷ [])))) (cleared_pieces 0 s.connections) (cleared_tree s.connections)

-- Its count is read back.
count_read : (s : Schedule) → length s.connections ≡ handles → count_in (pieces s) ≡ live_count s.connections
unfolding count_in pieces count_piece
count_read s l =
    let n = each_count connection_piece 0 s.connections in
    little_number_lem 2 (length (connection_pieces 0 s.connections)) (omega (arith, n, count_most s.connections)) ∙ n

-- ---- the connections of the records of a schedule
-- A live connection's record is read back.
live_read : (h : ℕ) (c : Connection) → h < handles → Numbers c → c.live ≡ true → (handle_in (connection_piece h c) ≡ h) × (connection_in (connection_piece h c) ≡ c)
live_read h c l n live = connection_read h c (omega arith) (numbers_narrow c n) live

-- Live connections have sound numbers.
abbrev AllNumbers : List Connection → Type 0
AllNumbers cs = (h : ℕ) → (at cs h).live ≡ true → Numbers (at cs h)

-- A connection after h free slots.
slots_shift : (h : ℕ) (cs : List Connection) → replicate (suc h) nobody ++ cs ≡ replicate h nobody ++ nobody ∷ cs
slots_shift zero cs = refl
slots_shift (suc h) cs = ap {B = List Connection} (λ l. nobody ∷ l) (slots_shift h cs)

slots_set : (h : ℕ) (c : Connection) (cs : List Connection) → set (replicate (suc h) nobody ++ cs) h c ≡ replicate h nobody ++ c ∷ cs
slots_set h c cs = ap (λ (l : List Connection). set l h c) (slots_shift h cs) ∙ set_at (replicate h nobody) nobody cs c h (length-replicate h nobody)

-- After h free slots: the records of the connections from handle h on give these connections again.
restored_cleared : (h : ℕ) (cs : List Connection) → h + length cs ≡ handles → AllNumbers cs → at_handles (connection_pieces h cs) ≡ replicate h nobody ++ cleared cs
unfolding at_handles each_live cleared
restored_cleared h [] l n =
    let e : handles ≡ h = omega arith in
    ap (λ (m : ℕ). replicate m nobody) e ∙ sym (append-nil (replicate h nobody))
restored_cleared h (c ∷ cs) l n = go c.live refl (restored_cleared (suc h) cs (omega arith) (λ j. n (suc j)))
  where
    go : (v : Bool) → c.live ≡ v → at_handles (connection_pieces (suc h) cs) ≡ replicate (suc h) nobody ++ cleared cs
        → at_handles (cond v (connection_piece h c ∷ connection_pieces (suc h) cs) (connection_pieces (suc h) cs)) ≡ replicate h nobody ++ cond v c nobody ∷ cleared cs
    go true q later =
        let r = live_read h c (omega arith) (n 0 q) q in
        ap (λ (l : List Connection). set l (handle_in (connection_piece h c)) (connection_in (connection_piece h c))) later
        ∙ ap₂ (λ (j : ℕ) (x : Connection). set (replicate (suc h) nobody ++ cleared cs) j x) r.0 r.1
        ∙ slots_set h c (cleared cs)
    go false q later = later ∙ slots_shift h (cleared cs)

-- The handles of a schedule's records rise.
pieces_sound : (h g : ℕ) (cs : List Connection) → h ≤ g → g + length cs ≡ handles → AllNumbers cs → sound_from largest_k h (connection_pieces g cs) ≡ true
unfolding sound_from each_live
pieces_sound h g [] m l n = refl
pieces_sound h g (c ∷ cs) m l n = go c.live refl (λ j k. pieces_sound j (suc g) cs k (omega arith) (λ i. n (suc i)))
  where
    go : (v : Bool) → c.live ≡ v → ((j : ℕ) → j ≤ suc g → sound_from largest_k j (connection_pieces (suc g) cs) ≡ true)
        → sound_from largest_k h (cond v (connection_piece g c ∷ connection_pieces (suc g) cs) (connection_pieces (suc g) cs)) ≡ true
    go true q later =
        let r = live_read g c (omega arith) (n 0 q) q in
        (rising_exactly largest_k h (connection_piece g c) (connection_pieces (suc g) cs)).1
        (record {
          below = rw r.0 (omega arith);
          above = rw r.0 m;
          numbers = ap sound_numbers r.1 ∙ (numbers_sound c).1 (n 0 q);
          later = ap (λ (j : ℕ). sound_from largest_k (suc j) (connection_pieces (suc g) cs)) r.0 ∙ later (suc g) (omega arith);
        })
    go false q later = later h (omega arith)

-- ---- the records of a list of connections again
-- h free slots, and then slots whose records they are.
record Laid (h : ℕ) (rs : List Piece) : Type 0 where
  slots : List Connection
  long : h + length slots ≡ handles
  placed : at_handles rs ≡ replicate h nobody ++ slots
  again : connection_pieces h slots ≡ rs
  numbers : all_sound slots ≡ true

-- Free slots in front change nothing.
free_pieces : (n h : ℕ) (cs : List Connection) → connection_pieces h (replicate n nobody ++ cs) ≡ connection_pieces (h + n) cs
unfolding each_live
free_pieces zero h cs = ap (λ (m : ℕ). connection_pieces m cs) (omega arith)
free_pieces (suc n) h cs = free_pieces n (suc h) cs ∙ ap (λ (m : ℕ). connection_pieces m cs) (omega arith)

free_sound : (n : ℕ) (cs : List Connection) → all_sound (replicate n nobody ++ cs) ≡ all_sound cs
unfolding all_sound
free_sound zero cs = refl
free_sound (suc n) cs = free_sound n cs

-- Where slots are laid out from g on, they are from h on, with free ones in front.
laid_from : (h g : ℕ) (rs : List Piece) → h ≤ g → Laid g rs → Laid h rs
laid_from h g rs l w =
    let n = g - h in
    let e : h + n ≡ g = omega arith in
    record {
      slots = replicate n nobody ++ w.slots;
      long = simp (length-append, length-replicate) (omega (arith, w.long));
      placed = w.placed ∙ ap (λ (l : List Connection). l ++ w.slots) (ap (λ (m : ℕ). replicate m nobody) (sym e) ∙ sym (replicate-append-replicate h n nobody)) ∙ append_assoc (replicate h nobody) (replicate n nobody) w.slots;
      again = free_pieces n h w.slots ∙ ap (λ (m : ℕ). connection_pieces m w.slots) e ∙ w.again;
      numbers = free_sound n w.slots ∙ w.numbers;
    }

laid_none : Laid handles []
unfolding at_handles each_live all_sound
laid_none = record { slots = []; long = refl; placed = refl; again = refl; numbers = refl }

laid_one : (r : Piece) (rs : List Piece) → IsConnection r → AllBytes r.payload → sound_numbers (connection_in r) ≡ true → Laid (suc (handle_in r)) rs → Laid (handle_in r) (r ∷ rs)
unfolding at_handles each_live all_sound
laid_one r rs c b n w =
    record {
      slots = connection_in r ∷ w.slots;
      long = omega (arith, w.long);
      placed = ap (λ (l : List Connection). set l (handle_in r) (connection_in r)) w.placed ∙ slots_set (handle_in r) (connection_in r) w.slots;
      again = ap₂ {C = List Piece} (λ x l. x ∷ l) (connection_written r c.kind_is c.size_is b) w.again;
      numbers = ap₂ ◌&&◌ n w.numbers;
    }

-- The connections of rising records have these records.
laid : (rs : List Piece) (h : ℕ) → h ≤ handles → sound_from largest_k h rs ≡ true → Each IsConnection rs → Each (λ r. AllBytes r.payload) rs → Laid h rs
laid [] h l e c b = laid_from h handles [] l laid_none
laid (r ∷ rs) h l e c b =
    let p = (rising_exactly largest_k h r rs).0 e in
    laid_from h (handle_in r) (r ∷ rs) p.above (laid_one r rs c.0 b.0 p.numbers (laid rs (suc (handle_in r)) p.below p.later c.1 b.1))

-- ---- what the checks of a load test
record Accepted (bytes : List ℕ) (rs : List Piece) : Type 0 where
  most : count_in rs ≤ handles
  records : joined rs ≡ bytes
  parts : Parts (count_in rs) rs
  rising : records_within largest_k (connections_in rs) ≡ true
  separate : apart (connections_of rs) ≡ true
  tree : tree_in rs ≡ tree_for (connections_of rs)

passed_exactly : (bytes : List ℕ) → Passed (load_checks bytes) ↔ Accepted bytes (pieces_of bytes)
unfolding load_checks numbers_unsound factor_illegal
passed_exactly bytes =
    let rs = pieces_of bytes in
    let n = count_in rs in
    let tree = same_exactly (tree_in rs) (tree_for (connections_of rs)) in (
      λ p.
          let f : Framed bytes n = record { right = p.0; counts = refl } in
          let q = framed_exactly bytes n f in
          record {
            most = q.most;
            records = q.records;
            parts = q.parts;
            rising = legal_of (connections_in rs) (not-false (records_within largest_record_k (connections_in rs)) p.1.0) p.1.1.0;
            separate = not-false (apart (connections_of rs)) p.1.1.1.0;
            tree = tree.0 (not-false (same (tree_in rs) (tree_for (connections_of rs))) p.1.1.1.1.0);
          },
      λ a.
          let w = legal_told (connections_in rs) a.rising in (
            (framed_of bytes n refl (record { most = a.most; records = a.records; parts = a.parts })).right,
            (ap not w.0, (w.1, (ap not a.separate, (ap not (tree.1 a.tree), tt)))),
          ),
    )

-- ---- the image of a schedule is accepted
module _ (s : Schedule) (long : length s.connections ≡ handles) (is_sound : sound s ≡ true) where
  numbered : AllNumbers s.connections
  unfolding sound sound_connections
  numbered = all_sound_at s.connections (both (all_sound s.connections) (apart s.connections) is_sound).0

  read : pieces_of (image s) ≡ pieces s
  unfolding image
  read =
      let fits : (kind size : ℕ) (r : Piece) → kind < 65536 → size < 65536 → HeadIs kind size (head_of r) → Fitting r = λ kind size r k l h. record { kind_fits = omega (arith, h.kind_is); size_fits = omega (arith, h.size_is) } in
      pieces_joined (pieces s)
      (each_piece Fitting (λ h c. fits connection_kind connection_size (connection_piece h c) (omega arith) (omega arith) (connection_has h c)) s
      (λ n. fits count_kind count_size (count_piece n) (omega arith) (omega arith) (count_has n))
      (fits tree_kind tree_size (tree_piece s) (omega arith) (omega arith) (tree_has s)))

  read_each : connections_in (pieces s) ≡ connection_pieces 0 s.connections
  unfolding pieces_parts
  read_each = connections_inside (live_count s.connections) (pieces s) (pieces_parts s)

  read_tree : tree_in (pieces s) ≡ tree_for s.connections
  unfolding tree_piece pieces_parts
  read_tree = tree_inside (live_count s.connections) (pieces s) (pieces_parts s)

  read_connections : connections_of (pieces s) ≡ cleared s.connections
  unfolding connections_of
  read_connections = ap at_handles read_each ∙ restored_cleared 0 s.connections (omega arith) numbered

  pieces_accepted : Accepted (image s) (pieces s)
  unfolding image sound sound_connections
  pieces_accepted =
      let cs = s.connections in
      record {
        most = omega (arith, count_read s long, count_most cs);
        records = refl;
        parts = subst (λ (n : ℕ). Parts n (pieces s)) (sym (count_read s long)) (pieces_parts s);
        rising = ap (records_within largest_k) read_each ∙ sound_from_lem largest_k (connection_pieces 0 cs) ∙ pieces_sound 0 0 cs (omega arith) (omega arith) numbered;
        separate = ap apart read_connections ∙ cleared_apart cs ∙ (both (all_sound cs) (apart cs) is_sound).1;
        tree = read_tree ∙ sym (ap tree_for read_connections ∙ cleared_tree cs);
      }

-- The image of a sound schedule is accepted, and gives its live connections.
pub load_image : (s t : Schedule) → length t.connections ≡ handles → sound t ≡ true
    → load s (image t) ≡ record { answer = loaded (live_count t.connections); schedule = with_connections fresh (cleared t.connections) }
unfolding load load_done
load_image s t l e =
    let r = read t l e in
    decided_passed (load_checks (image t)) (refusing s) (load_done (image t)) ((passed_exactly (image t)).1 (subst (Accepted (image t)) (sym r) (pieces_accepted t l e)))
    ∙ ap (λ (rs : List Piece). record { answer = loaded (count_in rs); schedule = with_connections fresh (connections_of rs) }) r
    ∙ ap₂ (λ (n : ℕ) (cs : List Connection). record { answer = loaded n; schedule = with_connections fresh cs }) (count_read t l) (read_connections t l e)

-- Two sound schedules with the same image have the same connections.
pub image_unique : (s t : Schedule) → length s.connections ≡ handles → length t.connections ≡ handles → sound s ≡ true → sound t ≡ true
    → image s ≡ image t → cleared s.connections ≡ cleared t.connections
image_unique s t l m e f q =
    sym (ap connections_of (read s l e) ∙ read_connections s l e)
    ∙ ap (λ (bytes : List ℕ). connections_of (pieces_of bytes)) q
    ∙ (ap connections_of (read t m f) ∙ read_connections t m f)

-- ---- what is accepted is the image of a schedule
pub record Restores (bytes : List ℕ) (cs : List Connection) : Type 0 where
  pub long : length cs ≡ handles
  pub is_sound : sound_connections cs ≡ true
  pub saved : image (with_connections fresh cs) ≡ bytes

-- A record is its kind and its payload.
piece_is : (r : Piece) (kind : ℕ) (payload : List ℕ) → r.kind ≡ kind → payload ≡ r.payload → record { kind = kind; payload = payload } ≡ r
piece_is r kind payload k p = λ i. record { kind = sym k i; payload = p i }

accepted_restores : (bytes : List ℕ) (rs : List Piece) → Each (λ r. AllBytes r.payload) rs → Accepted bytes rs → Restores bytes (connections_of rs)
unfolding connections_of image pieces count_piece tree_piece sound_connections with_connections count_in
accepted_restores bytes rs b a =
    let n = count_in rs in
    let p = a.parts in
    let first = p.first in
    let each = p.each in
    let last = p.last in
    let cs = connections_of rs in
    let held = subst (Each (λ r. AllBytes r.payload)) p.whole b in
    let inner : connections_in rs ≡ each = connections_inside n rs p in
    let w = laid each 0 (omega arith) (sym (sound_from_lem largest_k each) ∙ ap (records_within largest_k) (sym inner) ∙ a.rising) p.connections (each_left (λ r. AllBytes r.payload) each (last ∷ []) held.1) in
    let slots : cs ≡ w.slots = ap at_handles inner ∙ w.placed in
    let again : connection_pieces 0 cs ≡ each = ap (connection_pieces 0) slots ∙ w.again in
    let says : length each ≡ little_number first.payload = p.number ∙ ap count_in p.whole in
    let count : little 2 (length each) ≡ first.payload = ap₂ little (sym p.counts.size_is) says ∙ number_little first.payload held.0 in
    let tree : tree_for cs ≡ last.payload = sym a.tree ∙ tree_inside n rs p in
    record {
      long = ap length slots ∙ omega (arith, w.long);
      is_sound = ap₂ ◌&&◌ (ap all_sound slots ∙ w.numbers) a.separate;
      saved =
          ap₂ (λ (l : List Piece) (t : Piece). joined (count_piece (length l) ∷ (l ++ (t ∷ [])))) again (piece_is last tree_kind (tree_for cs) p.ends.kind_is tree)
          ∙ ap (λ (r : Piece). joined (r ∷ (each ++ (last ∷ [])))) (piece_is first count_kind (little 2 (length each)) p.counts.kind_is count)
          ∙ ap joined (sym p.whole) ∙ a.records;
    }

-- A load is refused, or its bytes are the image of the sound connections that it gives.
pub load_cases {ℓ} : (s : Schedule) (bytes : List ℕ) → AllBytes bytes → (P : Outcome → Type ℓ) → ((n : ℕ) → P (refusing s n))
    → ((cs : List Connection) (n : ℕ) → Restores bytes cs → P (record { answer = loaded n; schedule = with_connections fresh cs })) → P (load s bytes)
unfolding load load_done
load_cases s bytes b P f g =
    decided_cases P (load_checks bytes) (refusing s) (load_done bytes) (λ why. f (number why))
    (λ p. g (connections_of (pieces_of bytes)) (count_in (pieces_of bytes)) (accepted_restores bytes (pieces_of bytes) (pieces_bytes bytes b) ((passed_exactly bytes).0 p)))

-- Load accepts bytes exactly when they are the image of some sound schedule.
pub load_exactly : (s : Schedule) (bytes : List ℕ) → AllBytes bytes
    → ((n : ℕ) × ((load s bytes).answer ≡ loaded n)) ↔ ((t : Schedule) × (length t.connections ≡ handles) × (sound t ≡ true) × IsImage bytes t)
unfolding sound with_connections
load_exactly s bytes b = (
  λ p. to p.0 p.1,
  λ w. (live_count w.0.connections, ap (λ (l : List ℕ). (load s l).answer) w.3 ∙ ap (λ (o : Outcome). o.answer) (load_image s w.0 w.1 w.2)),
)
  where
    to : (n : ℕ) → (load s bytes).answer ≡ loaded n → (t : Schedule) × (length t.connections ≡ handles) × (sound t ≡ true) × IsImage bytes t
    to n =
        load_cases s bytes b (λ o. o.answer ≡ loaded n → (t : Schedule) × (length t.connections ≡ handles) × (sound t ≡ true) × IsImage bytes t)
        (λ m e. let z : ◌≡◌ {A = ℕ} 0 1 = cc in absurd (omega arith))
        (λ cs m r e. (with_connections fresh cs, r.long, r.is_sound, sym r.saved))

-- The schedule that it gives, saved, gives the same bytes.
pub load_saves : (s : Schedule) (bytes : List ℕ) (n : ℕ) → AllBytes bytes → (load s bytes).answer ≡ loaded n → image (load s bytes).schedule ≡ bytes
load_saves s bytes n b =
    load_cases s bytes b (λ o. o.answer ≡ loaded n → image o.schedule ≡ bytes)
    (λ m e. let z : ◌≡◌ {A = ℕ} 0 1 = cc in absurd (omega arith))
    (λ cs m r e. r.saved)

-- A load leaves a good schedule.
pub load_good : (s : Schedule) → Good s → (bytes : List ℕ) → AllBytes bytes → Good (load s bytes).schedule
load_good s good bytes b = load_cases s bytes b (λ o. Good o.schedule) (λ n. good) (λ cs n r. connected_good fresh cs r.long r.is_sound)

-- ---- free slots stay zeros
set_zeros : (cs : List Connection) (g : ℕ) (c : Connection) → c.live ≡ true → ((h : ℕ) → (at cs h).live ≡ false → at cs h ≡ nobody)
    → (h : ℕ) → (at (set cs g c) h).live ≡ false → at (set cs g c) h ≡ nobody
set_zeros [] g c l z h e = refl
set_zeros (x ∷ cs) zero c l z zero e = absurd (false≢true (sym e ∙ l))
set_zeros (x ∷ cs) zero c l z (suc h) e = z (suc h) e
set_zeros (x ∷ cs) (suc g) c l z zero e = z 0 e
set_zeros (x ∷ cs) (suc g) c l z (suc h) e = set_zeros cs g c l (λ j. z (suc j)) h e

restored_zero : (rs : List Piece) (h : ℕ) → (at (at_handles rs) h).live ≡ false → at (at_handles rs) h ≡ nobody
unfolding at_handles
restored_zero [] h e = at_free handles h
restored_zero (r ∷ rs) h e = set_zeros (at_handles rs) (handle_in r) (connection_in r) refl (restored_zero rs) h e

-- After a load a free slot is all zeros, where it was before.
pub load_zero : (s : Schedule) → FreeSlotsZero s → (bytes : List ℕ) → FreeSlotsZero (load s bytes).schedule
unfolding load load_done with_connections connections_of
load_zero s z bytes =
    decided_cases (λ o. FreeSlotsZero o.schedule) (load_checks bytes) (refusing s) (load_done bytes) (λ n. z)
    (λ p. restored_zero (connections_in (pieces_of bytes)))
