use borrow.Author.Count.{below_more}
use mathlib.Core.Path.{◌≡◌, sym, ap, ◌∙◌}
use mathlib.Core.Bool.{Bool, not}
use Prim.Native.Nat.{ℕ, ◌+◌, ◌%◌, ◌<◌, ◌^◌}
use native.Mathlib.Omega.{arith}
use Rattle.rules.specs.Classes.{class_taken, free}
use Rattle.rules.specs.TreeBytes.{tree_of, bit_at}
use Rattle.rules.specs.Steps.{gives}
use Rattle.basics.proofs.BoolLaws.{not_true_is_false, not_false_is_true}
use Rattle.blocks.proofs.ClassLaws.{within_depth}
use Rattle.place.proofs.SearchLaws.{shut_by, clear_next, own_shut, own_clear, found_at, found_none}
use Rattle.place.proofs.first_by_blocks.Goals as goal
use Rattle.place.proofs.first_by_blocks.Goals.{After-is_free, After-is_set, In-nodes}

-- node p is one of the depth, and its bit is that of the anchor's class
node_below : (c : In-nodes) → c.nodes.p < 2 ^ c.args.k
node_below c = omega (arith, c.factor-f.ensures.is)

own_bit : (c : After-is_set) → bit_at c.args.tree.now (2 ^ c.args.k + c.nodes.p) ≡ c.is_set.result
own_bit c =
    ap (λ (x : ℕ). bit_at c.args.tree.now (x + c.nodes.p)) (sym c.factor-f.ensures.is) ∙ sym c.is_set.ensures

pub nodes-preserved-then-is_set : goal.nodes-preserved-then-is_set
nodes-preserved-then-is_set c t m =
    let a = c.args in
    let w = goal.at.nodes-preserved-then-is_set c in
    below_more _ _ (c.nodes.invariant t m)
    (own_shut t a.k c.nodes.p a.tree.now (within_depth c.requires.0) (node_below w.In-nodes) m a.floor c.requires.1 (own_bit w.After-is_set ∙ c.if-is_set.true))

pub loop-j-init : goal.loop-j-init
loop-j-init c t m =
    let w = goal.at.loop-j-init c in
    rw c.mirror-a.ensures.is (own_clear t c.args.k c.nodes.p c.args.tree.now (within_depth c.requires.0) (node_below w.In-nodes) m (own_bit w.After-is_set ∙ c.if-is_set.false))

-- what is said of block j of the run
says : (c : After-is_free) (t : ℕ → Bool) → c.args.tree.now ≡ tree_of t
    → c.is_free.result ≡ not (class_taken t c.args.k ((c.mirror-a.result + c.loop-j.j) % 2 ^ c.args.k))
unfolding free
says c t m =
    let k = c.args.k in
    c.is_free.ensures t m ∙ ap (λ (r : ℕ). not (class_taken t k r)) c.class_at.ensures.is

pub nodes-preserved : goal.nodes-preserved
nodes-preserved c t m =
    let a = c.args in
    let s = says (goal.at.nodes-preserved c).After-is_free t m in
    below_more _ _ (c.nodes.invariant t m)
    (rw (← c.mirror-a.ensures.is) (shut_by t a.k a.floor c.mirror-a.result c.loop-j.j (omega arith) (not_false_is_true _ (sym s ∙ c.if-not-is_free.true))))

pub loop-j-preserved : goal.loop-j-preserved
loop-j-preserved c t m =
    let s = says (goal.at.loop-j-preserved c).After-is_free t m in
    clear_next t _ c.loop-j.j _ (c.loop-j.invariant t m) (not_true_is_false _ (sym s ∙ c.if-not-is_free.false))

pub returns-in-nodes : goal.returns-in-nodes
returns-in-nodes c t m =
    let a = c.args in
    let e = c.mirror-a.ensures.is in
    let clear = rw e at (c.loop-j.invariant t m) in
    ap gives e
    ∙ found_at t a.k a.floor c.nodes.p (node_below (goal.at.returns-in-nodes c).In-nodes) (λ i h. clear i (omega arith)) (c.nodes.invariant t m)

pub returns : goal.returns
returns c t m =
    found_none t c.args.k c.args.floor (λ q h. c.nodes.invariant t m q (omega (arith, c.factor-f.ensures.is)))
