-- The laws of the reading of an image's frame.
use mathlib.Core.Path.{◌≡◌, refl, sym, ap, ◌∙◌}
use mathlib.Core.Bool.{Bool, true, false, ◌&&◌, false≢true}
use mathlib.Core.Logic.{by_cases}
use mathlib.Core.List.{List, [], ◌∷◌}
use Prim.Native.Nat.{ℕ, suc, ◌+◌, ◌-◌, ◌<◌, ◌≤◌}
use native.Mathlib.Decide.{dec_le}
use native.Mathlib.Omega.{arith}
use mir.Syntax.{w8}
use mir.Val.{Fits}
use lib.ListN.{length, get_or, take, drop, length-drop}
use lib.Seq.{drop-cons, drop-drop, drop-length}
use Rattle.rules.specs.Ownership.{handles}
use Rattle.rules.specs.Bytes.{little_number}
use Rattle.rules.specs.Records.{pieces_of}
use Rattle.rules.specs.Form.{Head, count_kind, count_size, connection_kind, connection_size, connection_head, tree_kind, tree_size, tree_head, headed, form}
use Rattle.rules.specs.Framing.{count_in, records_are, records_wrong, Framed}
use Rattle.basics.proofs.BoolLaws.{both, is_false}
use Rattle.basics.proofs.BytesLaws.{AllBytes, bytes_drop}
use Rattle.images.proofs.FormLaws.{headed_exactly}
use Rattle.images.proofs.FrameLaws.{head_from, are_step, are_short, are_none, are_over, count_first, framed_are, wrong_are, wrong_many}
use Rattle.frame.specs.Promises.{HeadSays, connections_then}

-- What is asked for after the connections.
abbrev tree_form : List (Head → Bool)
tree_form = tree_head ∷ []

-- Of n records of connections, i are passed, and the cursor is after them.
abbrev pub PassedSoFar : List ℕ → ℕ → ℕ → ℕ → ℕ → Type 0
PassedSoFar bytes at n i cursor = (later : List (Head → Bool)) → records_are (connections_then n later) (drop at bytes) ≡ records_are (connections_then (n - i) later) (drop cursor bytes)

module _ (bytes : List ℕ) (fits : (i : ℕ) → Fits w8 (get_or bytes i 0)) where
  small : AllBytes bytes
  small i = (fits i).fits

  -- ---- one record
  module _ (at kind size : ℕ) (later : List (Head → Bool)) where
    whole : 4 + (head_from (drop at bytes)).size ≤ length (drop at bytes)
        → records_are (headed kind size ∷ later) (drop at bytes) ≡ headed kind size (head_from (drop at bytes)) && records_are later (drop (4 + (head_from (drop at bytes)).size) (drop at bytes))
    whole = are_step (drop at bytes) (bytes_drop at bytes small) (headed kind size) later

    kind_at : (head_from (drop at bytes)).kind ≡ little_number (take 2 (drop (at + 2) bytes))
    kind_at = ap (λ (d : List ℕ). little_number (take 2 d)) (drop-drop 2 at bytes)

    -- It is there: it is up to those after it.
    pub one_there : (next : ℕ) → HeadSays bytes at kind size × (next ≡ at + (4 + size)) → records_are (headed kind size ∷ later) (drop at bytes) ≡ records_are later (drop next bytes)
    one_there next p =
        let d = drop at bytes in
        let s : (head_from d).size ≡ size = p.0.size_is in
        let room : 4 + (head_from d).size ≤ length d = simp length-drop (omega (arith, p.0.fits)) in
        let q : at + (4 + (head_from d).size) ≡ next = omega (arith, p.1) in
        whole room
        ∙ ap (λ (v : Bool). v && records_are later (drop (4 + (head_from d).size) d)) ((headed_exactly kind size (head_from d)).1 (record { kind_is = kind_at ∙ p.0.kind_is; size_is = s }))
        ∙ ap (records_are later) (drop-drop (4 + (head_from d).size) at bytes ∙ ap (λ (k : ℕ). drop k bytes) q)

    -- It is not there.
    pub one_missing : (HeadSays bytes at kind size → ⊥) → records_are (headed kind size ∷ later) (drop at bytes) ≡ false
    one_missing none =
        let d = drop at bytes in
        is_false (records_are (headed kind size ∷ later) d) (λ e.
        by_cases (dec_le (4 + (head_from d).size) (length d))
        (λ l.
        let h = (headed_exactly kind size (head_from d)).0 (both (headed kind size (head_from d)) _ (sym (whole l) ∙ e)).0 in
        none (record { kind_is = sym kind_at ∙ h.kind_is; size_is = h.size_is; fits = omega (arith, length-drop at bytes, h.size_is) }))
        (λ l. false≢true (sym (are_short d (bytes_drop at bytes small) (headed kind size) later (omega arith)) ∙ e)))

  -- ---- the connections, one after the other
  pub connections_none : (at n : ℕ) → PassedSoFar bytes at n 0 at
  connections_none at n later =
      let e : n ≡ n - 0 = omega arith in
      ap (λ (m : ℕ). records_are (connections_then m later) (drop at bytes)) e

  pub connections_all : (at n i cursor : ℕ) → n ≤ i → PassedSoFar bytes at n i cursor → (later : List (Head → Bool)) → records_are (connections_then n later) (drop at bytes) ≡ records_are later (drop cursor bytes)
  connections_all at n i cursor l t later =
      let e : n - i ≡ 0 = omega arith in
      t later ∙ ap (λ (m : ℕ). records_are (connections_then m later) (drop cursor bytes)) e

  module _ (at n i cursor : ℕ) (l : i < n) (t : PassedSoFar bytes at n i cursor) where
    next_asked : n - i ≡ suc (n - (i + 1))
    next_asked = omega arith

    begun : (later : List (Head → Bool)) → records_are (connections_then n later) (drop at bytes) ≡ records_are (connection_head ∷ connections_then (n - (i + 1)) later) (drop cursor bytes)
    begun later = t later ∙ ap (λ (m : ℕ). records_are (connections_then m later) (drop cursor bytes)) next_asked

    pub connections_more : (next : ℕ) → HeadSays bytes cursor connection_kind connection_size × (next ≡ cursor + (4 + connection_size)) → PassedSoFar bytes at n (i + 1) next
    connections_more next p later = begun later ∙ one_there cursor connection_kind connection_size (connections_then (n - (i + 1)) later) next p

    pub connections_missing : (HeadSays bytes cursor connection_kind connection_size → ⊥) → (later : List (Head → Bool)) → records_are (connections_then n later) (drop at bytes) ≡ false
    connections_missing none later = begun later ∙ one_missing cursor connection_kind connection_size (connections_then (n - (i + 1)) later) none

  -- ---- the frame, record by record: each reason to refuse
  pub wrong_first : (HeadSays bytes 0 count_kind count_size → ⊥) → records_wrong bytes ≡ true
  wrong_first none = wrong_are bytes (count_in (pieces_of bytes)) refl (one_missing 0 count_kind count_size (connections_then (count_in (pieces_of bytes)) tree_form) none)

  -- The first record is there, and n is what it counts.
  module _ (start n : ℕ) (first : HeadSays bytes 0 count_kind count_size × (start ≡ 0 + (4 + count_size))) (says : n ≡ little_number (take 2 (drop 4 bytes))) where
    counted : count_in (pieces_of bytes) ≡ n
    counted = count_first bytes first.0.size_is ∙ sym says

    after_first : records_are (form n) bytes ≡ records_are (connections_then n tree_form) (drop start bytes)
    after_first = one_there 0 count_kind count_size (connections_then n tree_form) start first

    pub wrong_count : handles < n → records_wrong bytes ≡ true
    wrong_count l = wrong_many bytes n counted l

    pub wrong_connections : ((later : List (Head → Bool)) → records_are (connections_then n later) (drop start bytes) ≡ false) → records_wrong bytes ≡ true
    wrong_connections none = wrong_are bytes n counted (after_first ∙ none tree_form)

    -- So are the connections'.
    module _ (end : ℕ) (each : (later : List (Head → Bool)) → records_are (connections_then n later) (drop start bytes) ≡ records_are later (drop end bytes)) where
      pub wrong_last : (HeadSays bytes end tree_kind tree_size → ⊥) → records_wrong bytes ≡ true
      wrong_last none = wrong_are bytes n counted (after_first ∙ each tree_form ∙ one_missing end tree_kind tree_size [] none)

      -- And the tree's.
      module _ (over : ℕ) (last : HeadSays bytes end tree_kind tree_size × (over ≡ end + (4 + tree_size))) where
        after_last : records_are (form n) bytes ≡ records_are [] (drop over bytes)
        after_last = after_first ∙ each tree_form ∙ one_there end tree_kind tree_size [] over last

        pub wrong_end : (over ≡ length bytes → ⊥) → records_wrong bytes ≡ true
        wrong_end more =
            let l : over < length bytes = omega (arith, last.0.fits, last.1, more) in
            wrong_are bytes n counted (after_last ∙ ap (records_are []) (drop-cons bytes over 0 l) ∙ are_over (get_or bytes over 0) (drop (suc over) bytes))

        -- Nothing is left over.
        pub right : n ≤ handles → over ≡ length bytes → Framed bytes n
        right most whole-read =
            framed_are bytes n counted most (after_last ∙ ap (λ (k : ℕ). records_are [] (drop k bytes)) whole-read ∙ ap (records_are []) (drop-length bytes) ∙ are_none)
