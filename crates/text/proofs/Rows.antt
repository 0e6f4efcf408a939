-- A row of numbers, read one after the other.
use mathlib.Core.Path.{◌≡◌, refl, sym, ap, ◌∙◌}
use mathlib.Core.List.{List, [], ◌∷◌, ◌++◌, append-nil, append_assoc}
use Rattle.std.specs.Prelude.{Option, None, Some}
use Prim.Native.Nat.{ℕ, ◌+◌, ◌-◌, ◌<◌, ◌≤◌}
use native.Mathlib.Numerals.{add-one}
use native.Mathlib.Omega.{arith}
use lib.ListN.{length, get_or, take, drop, set, length-drop, length-set, length-append, drop_of_length-le}
use lib.Seq.{drop-cons, drop-drop, drop-set-lt, length-take-le, take-suc-set}
use Rattle.texts.specs.Row.{number_in, IsRow}
use Rattle.rules.specs.Split.{before}
use Rattle.texts.proofs.SplitLaws.{before_take, before_le}
use Rattle.texts.proofs.RowLaws.{First, row_nothing, row_longer, row_first}
use Rattle.text.specs.Promises.{ReadsRow}

-- What is sought is found within the line.
pub found_within : (b : ℕ) (line : List ℕ) (from : ℕ) → from ≤ length line → from + length (before b (drop from line)) ≤ length line
found_within b line from h = omega (arith, before_le b (drop from line), length-drop from line)

-- The numbers before next are read: they stand first in the slice, and what makes the row is up to the line from next on.
pub record SoFar (line : List ℕ) (start : ℕ) (entry exit : List ℕ) (next count : ℕ) : Type 0 where
  pub here : next ≤ length line
  pub within : count ≤ length exit
  pub sized : length exit ≡ length entry
  pub rest : drop count exit ≡ drop count entry
  pub right : (ms : List ℕ) → IsRow (drop next line) ms → IsRow (drop start line) (take count exit ++ ms)
  pub only : (ns : List ℕ) → IsRow (drop start line) ns → (ms : List ℕ) × (ns ≡ take count exit ++ ms) × IsRow (drop next line) ms

pub so_far_none : (line : List ℕ) (start : ℕ) (entry : List ℕ) → start ≤ length line → SoFar line start entry entry start 0
so_far_none line start entry h =
    record { here = h; within = omega arith; sized = refl; rest = refl; right = λ ms r. r; only = λ ns r. (ns, refl, r) }

same_number : {m n : ℕ} {o : Option ℕ} → o ≡ Some m → Some n ≡ o → m ≡ n
same_number p q = cc

module _ (line : List ℕ) (start : ℕ) (entry exit : List ℕ) (next count : ℕ) (f : SoFar line start entry exit next count) where
  -- All is read.
  pub so_far_all : length line ≤ next → ReadsRow (drop start line) entry exit (Some count)
  so_far_all h =
      let r = f.right [] (rw (drop_of_length-le line h) row_nothing) in
      record { within = f.within; row = rw (append-nil (take count exit)) at r; rest = f.rest }

  module _ (h : next < length line) where
    -- What is left is a number at least;
    left : (ms : List ℕ) → IsRow (drop next line) ms → First (get_or line next 0) (drop (next + 1) line) ms
    left ms r = row_first (get_or line next 0) (drop (next + 1) line) ms (rw (drop-cons line next 0 h, ← add-one next) at r)

    -- the row is wrong if there can be none,
    pub so_far_wrong : ((ms : List ℕ) → First (get_or line next 0) (drop (next + 1) line) ms → ⊥) → ReadsRow (drop start line) entry exit None
    so_far_wrong none_left ns l r = let o = f.only ns r in none_left o.0 (left o.0 o.2)

    -- and if there is no room for it.
    pub so_far_full : count ≡ length exit → ReadsRow (drop start line) entry exit None
    so_far_full e ns l r =
        let o = f.only ns r in
        let g = left o.0 o.2 in
        omega (
          arith,
          f.sized,
          ap (λ (x : List ℕ). length x) o.1,
          length-append (take count exit) o.0,
          length-take-le count exit f.within,
          ap (λ (x : List ℕ). length x) g.is,
        )

    -- One number more: what stands between this space and the next.
    module _ (stop : ℕ) (q : stop ≡ next + 1 + length (before 32 (drop (next + 1) line))) where
      abbrev after : List ℕ
      after = drop (next + 1) line

      digits : take (stop - (next + 1)) after ≡ before 32 after
      digits =
          let n : stop - (next + 1) ≡ length (before 32 after) = omega (arith, q) in
          ap (λ (k : ℕ). take k after) n ∙ sym (before_take 32 after)

      beyond : drop (length (before 32 after)) after ≡ drop stop line
      beyond = drop-drop (length (before 32 after)) (next + 1) line ∙ ap (λ (k : ℕ). drop k line) (sym q)

      -- It may be none;
      pub so_far_no_number : None ≡ number_in (take (stop - (next + 1)) after) → ReadsRow (drop start line) entry exit None
      so_far_no_number e =
          so_far_wrong (λ ms g.
          let d = g.reads in
          let c = ap number_in digits in
          let z : ◌≡◌ {A = ℕ} 0 1 = cc in
          omega arith)

      -- else it is the next.
      module _ (n : ℕ) (space : get_or line next 0 ≡ 32) (room : count < length exit) (reads : Some n ≡ number_in (take (stop - (next + 1)) after)) where
        taken : take (count + 1) (set exit count n) ≡ take count exit ++ (n ∷ [])
        taken = rw (add-one count) (take-suc-set exit count n room)

        grown : (ms : List ℕ) → take (count + 1) (set exit count n) ++ ms ≡ take count exit ++ (n ∷ ms)
        grown ms = ap (λ (l : List ℕ). l ++ ms) taken ∙ append_assoc (take count exit) (n ∷ []) ms

        one_more : (ms : List ℕ) → IsRow (drop stop line) ms → IsRow (drop next line) (n ∷ ms)
        one_more ms r =
            let here : drop next line ≡ 32 ∷ after = drop-cons line next 0 h ∙ ap {B = List ℕ} (λ k. get_or line next 0 ∷ drop k line) (sym (add-one next)) ∙ ap {B = List ℕ} (λ b. b ∷ after) space in
            rw here (row_longer after n ms (sym (reads ∙ ap number_in digits)) (rw beyond r))

        one_less : (ns ms : List ℕ) → ns ≡ take count exit ++ ms → First (get_or line next 0) after ms
            → (ls : List ℕ) × (ns ≡ take (count + 1) (set exit count n) ++ ls) × IsRow (drop stop line) ls
        one_less ns ms e g =
            let same : g.n ≡ n = same_number g.reads (reads ∙ ap number_in digits) in (
              g.later,
              e ∙ ap (λ (l : List ℕ). take count exit ++ l) (g.is ∙ ap {B = List ℕ} (λ k. k ∷ g.later) same) ∙ sym (grown g.later),
              rw beyond at g.row,
            )

        pub so_far_more : SoFar line start entry (set exit count n) stop (count + 1)
        so_far_more =
            record {
              here = omega (arith, q, found_within 32 line (next + 1) (omega arith));
              within = omega (arith, length-set exit count n);
              sized = length-set exit count n ∙ f.sized;
              rest = drop-set-lt (count + 1) exit count n (omega arith) ∙ sym (drop-drop 1 count exit) ∙ ap (drop 1) f.rest ∙ drop-drop 1 count entry;
              right = λ ms r. rw (grown ms) (f.right (n ∷ ms) (one_more ms r));
              only = λ ns r. let o = f.only ns r in one_less ns o.0 o.1 (left o.0 o.2);
            }
