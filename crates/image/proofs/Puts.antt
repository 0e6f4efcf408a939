-- What several numbers stored one after the other come to.
use mathlib.Core.Path.{◌≡◌, refl, sym, ap, ap₂, ◌∙◌}
use mathlib.Core.List.{List, [], ◌∷◌, ◌++◌, append-nil}
use mathlib.Core.Bool.{true, false}
use Prim.Native.Nat.{ℕ, suc, ◌+◌, ◌*◌, ◌<◌, ◌≤◌}
use native.Mathlib.Omega.{arith}
use lib.ListN.{length, take, get_or, set, length-take, length-append}
use lib.Seq.{sets, take-suc}
use Rattle.rules.specs.declared.Connection.{Connection}
use Rattle.rules.specs.declared.Schedule.{Schedule}
use Rattle.rules.specs.declared.Refusal.TheVariants.{BufferShort}
use Rattle.rules.specs.Ownership.{at, taken}
use Rattle.rules.specs.Bytes.{little}
use Rattle.rules.specs.TreeBytes.{tree_bytes}
use Rattle.rules.specs.Records.{bytes_of, joined}
use Rattle.rules.specs.Form.{count_kind, count_size, connection_kind, connection_size, tree_kind, tree_size}
use Rattle.rules.specs.Image.{count_piece, connection_piece, connection_pieces, tree_piece, pieces, image}
use Rattle.rules.specs.Good.{Good, tree_for}
use Rattle.rules.specs.Refusals.{number}
use Rattle.rules.specs.Answers.{Written, refused, saved}
use Rattle.rules.specs.Save.{save}
use Rattle.calls.proofs.EachLaws.{each_count}
use Rattle.images.proofs.PieceLaws.{record_length, joined_append}
use Rattle.basics.proofs.StoreLaws.{put_after}
use Rattle.blocks.proofs.TreeLaws.{tree_sized}
use Rattle.images.proofs.ImageLaws.{connection_has, image_length}
use Rattle.images.proofs.SaveLaws.{joined_live, joined_dead, joined_most, save_short, save_written}
use Rattle.image.specs.Promises.{tree_record, PutsConnections}

module _ (l : List ℕ) (start : ℕ) where
  pub header_put : (size kind : ℕ) {b c : List ℕ} → b ≡ sets l start (little 2 size) → c ≡ sets b (start + 2) (little 2 kind) → c ≡ sets l start (little 2 size ++ little 2 kind)
  unfolding little
  header_put size kind {b} {c} p q = put_after l b c start (start + 2) (little 2 size) (little 2 kind) p q refl

  pub run_put : (h k A L : ℕ) {b c d e : List ℕ} → b ≡ sets l start (little 1 h) → c ≡ sets b (start + 1) (little 1 k) → d ≡ sets c (start + 2) (little 2 A) → e ≡ sets d (start + 4) (little 2 L)
      → e ≡ sets l start (little 1 h ++ little 1 k ++ little 2 A ++ little 2 L)
  unfolding little
  run_put h k A L {b} {c} {d} {e} p q r t =
      let x = put_after l b c start (start + 1) (little 1 h) (little 1 k) p q refl in
      let y = put_after l c d start (start + 2) (little 1 h ++ little 1 k) (little 2 A) x r refl in
      put_after l d e start (start + 4) (little 1 h ++ little 1 k ++ little 2 A) (little 2 L) y t refl

  pub share_put : (f g m : ℕ) {b c d : List ℕ} → b ≡ sets l start (little 2 f) → c ≡ sets b (start + 2) (little 2 g) → d ≡ sets c (start + 4) (little 4 m)
      → d ≡ sets l start (little 2 f ++ little 2 g ++ little 4 m)
  unfolding little
  share_put f g m {b} {c} {d} p q r =
      let x = put_after l b c start (start + 2) (little 2 f) (little 2 g) p q refl in
      put_after l c d start (start + 4) (little 2 f ++ little 2 g) (little 4 m) x r refl

  pub connection_put : (h : ℕ) (s : Connection) {b c d : List ℕ} → b ≡ sets l start (little 2 connection_size ++ little 2 connection_kind)
      → c ≡ sets b (start + 4) (little 1 h ++ little 1 s.k ++ little 2 s.anchor ++ little 2 s.length)
      → d ≡ sets c (start + 10) (little 2 s.floor ++ little 2 s.ceiling ++ little 4 s.estimate)
      → d ≡ sets l start (bytes_of (connection_piece h s))
  unfolding little bytes_of connection_piece
  connection_put h s {b} {c} {d} p q r =
      let run = little 1 h ++ little 1 s.k ++ little 2 s.anchor ++ little 2 s.length in
      let share = little 2 s.floor ++ little 2 s.ceiling ++ little 4 s.estimate in
      let x = put_after l b c start (start + 4) (little 2 connection_size ++ little 2 connection_kind) run p q refl in
      put_after l c d start (start + 10) (little 2 connection_size ++ little 2 connection_kind ++ run) share x r refl

-- With a live one more, the records are as much longer as its record is; and there is room for it where there is for all.
module _ (cs : List Connection) (h : ℕ) (here : h < length cs) (e : (at cs h).live ≡ true) where
  live_longer : length (joined (connection_pieces 0 (take (h + 1) cs))) ≡ length (joined (connection_pieces 0 (take h cs))) + (4 + connection_size)
  live_longer =
      let r = connection_piece h (at cs h) in
      omega (arith, ap {B = ℕ} length (joined_live cs h here e) ∙ length-append (joined (connection_pieces 0 (take h cs))) (bytes_of r), record_length r, (connection_has h (at cs h)).size_is)

  pub live_room : length (joined (connection_pieces 0 (take h cs))) + (4 + connection_size) ≤ length (joined (connection_pieces 0 cs))
  live_room = omega (arith, live_longer, joined_most cs (h + 1))

-- The records of the handles before h and the one of h, if it is live.
module _ (l : List ℕ) (start : ℕ) (cs : List Connection) (h : ℕ) (here : h < length cs) {b : List ℕ} {next : ℕ}
    (p : b ≡ sets l start (joined (connection_pieces 0 (take h cs)))) (q : next ≡ start + length (joined (connection_pieces 0 (take h cs)))) where
  pub live_put : (at cs h).live ≡ true → {c : List ℕ} → c ≡ sets b next (bytes_of (connection_piece h (at cs h)))
      → (c ≡ sets l start (joined (connection_pieces 0 (take (h + 1) cs)))) × (next + (4 + connection_size) ≡ start + length (joined (connection_pieces 0 (take (h + 1) cs))))
  live_put e {c} r = (
    put_after l b c start next (joined (connection_pieces 0 (take h cs))) (bytes_of (connection_piece h (at cs h))) p r q
        ∙ ap (λ (x : List ℕ). sets l start x) (sym (joined_live cs h here e)),
    omega (arith, q, live_longer cs h here e),
  )

  pub dead_put : (at cs h).live ≡ false
      → (b ≡ sets l start (joined (connection_pieces 0 (take (h + 1) cs)))) × (next ≡ start + length (joined (connection_pieces 0 (take (h + 1) cs))))
  dead_put e = (p ∙ ap (λ (x : List ℕ). sets l start x) (sym (joined_dead cs h here e)), q ∙ ap (λ (x : List ℕ). start + length x) (sym (joined_dead cs h here e)))

-- As many as the tree has.
pub tree_for_long : (cs : List Connection) → length (tree_for cs) ≡ tree_bytes
unfolding tree_for
tree_for_long cs = (tree_sized (taken cs)).long

-- The tree's record: its header, then its bytes one by one.
module _ (l : List ℕ) (start : ℕ) (tree : List ℕ) where
  pub tree_turn : (i : ℕ) → i < length tree → {b : List ℕ} → b ≡ sets l start (take i tree) → set b (start + i) (get_or tree i 0) ≡ sets l start (take (i + 1) tree)
  tree_turn i here {b} p =
      let e : i + 1 ≡ suc i = omega arith in
      let n : length (take i tree) ≡ i = simp length-take (omega arith) in
      put_after l b (set b (start + i) (get_or tree i 0)) start (start + i) (take i tree) (get_or tree i 0 ∷ []) p refl (ap (λ (k : ℕ). start + k) (sym n))
      ∙ rw e (ap (λ (x : List ℕ). sets l start x) (sym (take-suc tree i 0 here)))

  pub tree_put : length tree ≡ tree_bytes → {b c : List ℕ} → b ≡ sets l start (little 2 tree_size ++ little 2 tree_kind) → c ≡ sets b (start + 4) tree → c ≡ sets l start (bytes_of (tree_record tree))
  unfolding bytes_of
  tree_put n {b} {c} p q =
      put_after l b c start (start + 4) (little 2 tree_size ++ little 2 tree_kind) tree p q refl
      ∙ ap (λ (k : ℕ). sets l start (little 2 k ++ little 2 tree_kind ++ tree)) (sym n)

-- The whole image: the count, the connections, the tree.
image_put : (l : List ℕ) (s : Schedule) {b c d e : List ℕ} {n next : ℕ}
    → n ≡ length (connection_pieces 0 s.connections) → b ≡ sets l 0 (little 2 count_size ++ little 2 count_kind) → c ≡ sets b 4 (little count_size n)
    → PutsConnections (4 + count_size) s.connections c d next → e ≡ sets d next (bytes_of (tree_piece s))
    → e ≡ sets l 0 (image s)
unfolding little bytes_of joined count_piece pieces image
image_put l s {b} {c} {d} {e} {n} {next} m p q r u =
    let rs = connection_pieces 0 s.connections in
    let each = joined rs in
    let count = little 2 count_size ++ little 2 count_kind ++ little count_size n in
    let x = put_after l b c 0 4 (little 2 count_size ++ little 2 count_kind) (little count_size n) p q refl in
    let y = put_after l c d 0 (4 + count_size) count each x r.bytes refl in
    let z = put_after l d e 0 next (count ++ each) (bytes_of (tree_piece s)) y u (omega (arith, r.ends, length-append count each)) in
    let ends : joined (rs ++ (tree_piece s ∷ [])) ≡ each ++ bytes_of (tree_piece s) =
    joined_append rs (tree_piece s ∷ []) ∙ ap (λ (w : List ℕ). each ++ w) (append-nil (bytes_of (tree_piece s))) in
    z ∙ ap (λ (w : List ℕ). sets l 0 (count ++ w)) (sym ends) ∙ ap (λ (k : ℕ). sets l 0 (bytes_of (count_piece k) ++ joined (rs ++ (tree_piece s ∷ [])))) m

-- ---- the exits of `save`
module _ (s : Schedule) (good : Good s) (l : List ℕ) {n size : ℕ} (m : n ≡ length (connection_pieces 0 s.connections))
    (e : size ≡ 4 + count_size + (4 + connection_size) * n + (4 + tree_size)) where
  size_is : size ≡ length (image s)
  size_is = omega (arith, m, e, image_length s, each_count connection_piece 0 s.connections)

  pub too_short : length l < size → ◌≡◌ {A = Written} (record { answer = refused (number BufferShort); buffer = l }) (save s l)
  too_short h = save_short s l (omega (arith, size_is))

  pub image_saved : size ≤ length l → {b c d f : List ℕ} {next : ℕ} → b ≡ sets l 0 (little 2 count_size ++ little 2 count_kind) → c ≡ sets b 4 (little count_size n)
      → PutsConnections (4 + count_size) s.connections c d next → f ≡ sets d next (bytes_of (tree_record s.tree.bytes))
      → ◌≡◌ {A = Written} (record { answer = saved size; buffer = f }) (save s l)
  unfolding tree_piece
  image_saved h {b} {c} {d} {f} {next} p q r u =
      let t : f ≡ sets d next (bytes_of (tree_piece s)) = u ∙ ap (λ (x : List ℕ). sets d next (bytes_of (tree_record x))) good.has_tree in
      ap₂ (λ (k : ℕ) (x : List ℕ). record { answer = saved k; buffer = x }) size_is (image_put l s m p q r t)
      ∙ save_written s l (omega (arith, size_is))
