use mathlib.Core.Path.{◌≡◌, sym, ap, ap₂, ◌∙◌}
use Prim.Native.Nat.{ℕ, ◌+◌, ◌*◌, ◌/◌, ◌<◌}
use mathlib.Core.List.{List, []}
use native.Mathlib.Omega.{arith}
use lib.ListN.{length, get_or, take, length-set}
use lib.Seq.{get_or-take, length-take-le}
use Rattle.rules.specs.declared.Report.{Report}
use Rattle.basics.proofs.ChunkLaws.{chunk_item}
use Rattle.reports.specs.Pairs.{reports_of}
use Rattle.reports.proofs.PairLaws.{pairs_length, pair_at, gather_next}
use Rattle.reports.proofs.pairing.gather.Goals as goal
use Rattle.reports.proofs.pairing.gather.Goals.{In-loop-i}

-- there are so many pairs, and this is one of them
within : (c : In-loop-i) → c.loop-i.i < c.args.n
within c =
    let ps = c.as_chunks.result.0.now in
    omega (arith, c.loop-i-test.true, length-take-le c.args.n ps (omega (arith, c.as_chunks.ensures.front_len, c.requires.1)))

-- a number of the pair at hand
number : (c : In-loop-i) (j : ℕ) → j < 2
    → get_or (get_or (take c.args.n c.as_chunks.result.0.now) c.loop-i.i []) j 0 ≡ get_or c.args.numbers.now (2 * c.loop-i.i + j) 0
number c j h =
    let ns = c.args.numbers.now in
    let i = c.loop-i.i in
    ap (λ (p : List ℕ). get_or p j 0) (get_or-take c.args.n c.as_chunks.result.0.now i [] (within c))
    ∙ ap (λ (ps : List (List ℕ)). get_or (get_or ps i []) j 0) c.as_chunks.ensures.front
    ∙ chunk_item 2 (length ns / 2) ns i j 0 (omega (arith, within c, c.requires.1)) h

pub loop-i-preserved : goal.loop-i-preserved
loop-i-preserved c =
    let s = (goal.at.loop-i-preserved c).In-loop-i in
    let l = c.loop-i in
    let ns : List ℕ = c.args.numbers.now in
    let i : ℕ = l.i in
    let inside : 2 * i + 1 < length ns = omega (arith, within s, c.requires.1) in
    let handle : ℕ = get_or (get_or (take c.args.n c.as_chunks.result.0.now) i []) 0 0 in
    let sample : ℕ = get_or (get_or (take c.args.n c.as_chunks.result.0.now) i []) 1 0 in
    let r : Report = record { handle = handle; sample = sample } in
    let zero : 2 * i + 0 ≡ 2 * i = omega arith in
    let here : get_or (reports_of ns) i r ≡ r =
    pair_at ns i r inside
    ∙ sym (ap₂ (λ (a b : ℕ). record { handle = a; sample = b }) (number s 0 (omega arith) ∙ ap (λ (k : ℕ). get_or ns k 0) zero) (number s 1 (omega arith))) in
    (length-set l.reports i r ∙ l.invariant.0, gather_next l.reports (reports_of ns) i r l.invariant.1 (omega (arith, within s, c.requires.0, l.invariant.0)) (omega (arith, within s, pairs_length ns)) here)
