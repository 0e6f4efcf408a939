-- The laws of the form: records that have it are the count's, the connections' and the tree's.
use mathlib.Core.Path.{◌≡◌, refl, sym, ap, ap₂, ◌∙◌}
use mathlib.Core.Bool.{Bool, true, false, ◌&&◌, false≢true}
use mathlib.Core.Logic.{◌↔◌}
use mathlib.Core.List.{List, [], ◌∷◌, ◌++◌, map, append-nil}
use Prim.Native.Nat.{ℕ, zero, suc}
use native.Mathlib.Omega.{arith}
use lib.Dec.{eqb}
use lib.ListN.{length, replicate}
use borrow.Author.Tests.{eq-eqb, ne_eqb, eqb-true}
use Rattle.rules.specs.Records.{Piece}
use Rattle.rules.specs.Form.{Head, head_of, headed, count_kind, count_size, count_head, connection_kind, connection_size, connection_head, tree_kind, tree_size, tree_head, form, formed}
use Rattle.rules.specs.Fields.{connections_in, tree_in}
use Rattle.basics.proofs.BoolLaws.{both}
use Rattle.images.proofs.PieceLaws.{Each}

-- This kind and this size.
pub record HeadIs (kind size : ℕ) (h : Head) : Type 0 where
  pub kind_is : h.kind ≡ kind
  pub size_is : h.size ≡ size

abbrev pub IsConnection : Piece → Type 0
IsConnection r = HeadIs connection_kind connection_size (head_of r)

pub headed_exactly : (kind size : ℕ) (h : Head) → (headed kind size h ≡ true) ↔ HeadIs kind size h
unfolding headed
headed_exactly kind size h = (
  λ e.
      let p = both (eqb h.kind kind) (eqb h.size size) e in
      record { kind_is = eqb-true h.kind kind p.0; size_is = eqb-true h.size size p.1 },
  λ p. ap₂ ◌&&◌ (eq-eqb h.kind kind p.kind_is) (eq-eqb h.size size p.size_is),
)

-- The parts of records that have the form.
pub record Parts (n : ℕ) (rs : List Piece) : Type 0 where
  pub first : Piece
  pub each : List Piece
  pub last : Piece
  pub whole : rs ≡ first ∷ (each ++ (last ∷ []))
  pub number : length each ≡ n
  pub counts : HeadIs count_kind count_size (head_of first)
  pub connections : Each IsConnection each
  pub ends : HeadIs tree_kind tree_size (head_of last)

-- ---- the records after the first
record Rest (n : ℕ) (rs : List Piece) : Type 0 where
  pub each : List Piece
  pub last : Piece
  pub whole : rs ≡ each ++ (last ∷ [])
  pub number : length each ≡ n
  pub connections : Each IsConnection each
  pub ends : HeadIs tree_kind tree_size (head_of last)

one_more : (n : ℕ) (r : Piece) (rs : List Piece) → IsConnection r → Rest n rs → Rest (suc n) (r ∷ rs)
one_more n r rs c w =
    record {
      each = r ∷ w.each;
      last = w.last;
      whole = ap {B = List Piece} (λ l. r ∷ l) w.whole;
      number = ap suc w.number;
      connections = (c, w.connections);
      ends = w.ends;
    }

abbrev rest_form : ℕ → List (Head → Bool)
rest_form n = replicate n connection_head ++ (tree_head ∷ [])

rest_of : (n : ℕ) (rs : List Piece) → formed (rest_form n) (map head_of rs) ≡ true → Rest n rs
unfolding formed
rest_of zero [] e = absurd (false≢true e)
rest_of zero (r ∷ []) e =
    record { each = []; last = r; whole = refl; number = refl; connections = tt; ends = (headed_exactly tree_kind tree_size (head_of r)).0 (both (tree_head (head_of r)) true e).0 }
rest_of zero (r ∷ r' ∷ rs) e = absurd (false≢true (both (tree_head (head_of r)) false e).1)
rest_of (suc n) [] e = absurd (false≢true e)
rest_of (suc n) (r ∷ rs) e =
    let p = both (connection_head (head_of r)) (formed (rest_form n) (map head_of rs)) e in
    one_more n r rs ((headed_exactly connection_kind connection_size (head_of r)).0 p.0) (rest_of n rs p.1)

rest_formed : (each : List Piece) (last : Piece) → Each IsConnection each → HeadIs tree_kind tree_size (head_of last) → formed (rest_form (length each)) (map head_of (each ++ (last ∷ []))) ≡ true
unfolding formed
rest_formed [] last c t = ap (λ (v : Bool). v && true) ((headed_exactly tree_kind tree_size (head_of last)).1 t)
rest_formed (r ∷ rs) last c t = ap₂ ◌&&◌ ((headed_exactly connection_kind connection_size (head_of r)).1 c.0) (rest_formed rs last c.1 t)

-- ---- the whole
pub form_parts : (n : ℕ) (rs : List Piece) → formed (form n) (map head_of rs) ≡ true → Parts n rs
unfolding formed
form_parts n [] e = absurd (false≢true e)
form_parts n (r ∷ rs) e =
    let p = both (count_head (head_of r)) (formed (rest_form n) (map head_of rs)) e in
    let w = rest_of n rs p.1 in
    record {
      first = r;
      each = w.each;
      last = w.last;
      whole = ap {B = List Piece} (λ l. r ∷ l) w.whole;
      number = w.number;
      counts = (headed_exactly count_kind count_size (head_of r)).0 p.0;
      connections = w.connections;
      ends = w.ends;
    }

pub parts_form : (n : ℕ) (rs : List Piece) → Parts n rs → formed (form n) (map head_of rs) ≡ true
unfolding formed
parts_form n rs p =
    ap (λ (l : List Piece). formed (form n) (map head_of l)) p.whole
    ∙ ap₂ ◌&&◌ ((headed_exactly count_kind count_size (head_of p.first)).1 p.counts)
    (ap (λ (m : ℕ). formed (rest_form m) (map head_of (p.each ++ (p.last ∷ [])))) (sym p.number) ∙ rest_formed p.each p.last p.connections p.ends)

-- ---- what is in them
rest_inside : (each : List Piece) (last : Piece) → Each IsConnection each → HeadIs tree_kind tree_size (head_of last)
    → (connections_in (each ++ (last ∷ [])) ≡ each) × (tree_in (each ++ (last ∷ [])) ≡ last.payload)
unfolding connections_in tree_in
rest_inside [] last c t =
    let k : last.kind ≡ 3 = t.kind_is in
    (rw (ne_eqb last.kind 2 (omega arith)), rw (eq-eqb last.kind 3 k) (append-nil last.payload))
rest_inside (r ∷ rs) last c t =
    let k : r.kind ≡ 2 = c.0.kind_is in
    let later = rest_inside rs last c.1 t in
    (rw (eq-eqb r.kind 2 k) (ap {B = List Piece} (λ l. r ∷ l) later.0), rw (ne_eqb r.kind 3 (omega arith)) later.1)

-- The connections' records are those between, and the tree bytes those of the last.
pub inside : (first : Piece) (each : List Piece) (last : Piece) → HeadIs count_kind count_size (head_of first) → Each IsConnection each → HeadIs tree_kind tree_size (head_of last)
    → (connections_in (first ∷ (each ++ (last ∷ []))) ≡ each) × (tree_in (first ∷ (each ++ (last ∷ []))) ≡ last.payload)
unfolding connections_in tree_in
inside first each last f c t =
    let k : first.kind ≡ 1 = f.kind_is in
    let later = rest_inside each last c t in
    (rw (ne_eqb first.kind 2 (omega arith)) later.0, rw (ne_eqb first.kind 3 (omega arith)) later.1)

module _ (n : ℕ) (rs : List Piece) (p : Parts n rs) where
  pub connections_inside : connections_in rs ≡ p.each
  connections_inside = ap connections_in p.whole ∙ (inside p.first p.each p.last p.counts p.connections p.ends).0

  pub tree_inside : tree_in rs ≡ p.last.payload
  tree_inside = ap tree_in p.whole ∙ (inside p.first p.each p.last p.counts p.connections p.ends).1
