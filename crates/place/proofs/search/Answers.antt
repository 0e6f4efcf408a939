use mathlib.Core.Path.{◌≡◌, sym, ◌∙◌}
use Prim.Native.Nat.{ℕ, ◌+◌, ◌%◌, ◌≤◌, ◌<◌, ◌^◌}
use native.Mathlib.Nat.{mod-eq_of_lt}
use native.Mathlib.Omega.{arith}
use lib.ListN.{length, get_or, take}
use borrow.Author.Count.{below_more}
use Rattle.std.proofs.lemmas.List.{length-take-le}
use lib.Pow.{pow_mono}
use Rattle.rules.specs.Mirror.{mirrored}
use Rattle.blocks.proofs.ClassLaws.{within_depth}
use Rattle.blocks.proofs.MirrorLaws.{mirror_lt}
use Rattle.place.specs.Promises.{row_classes}
use Rattle.place.proofs.SearchLaws.{clear_more, shut_at, found_at, found_none, listed_front}
use Rattle.place.proofs.search.Goals as goal
use Rattle.place.proofs.search.Goals.{In-nodes}

-- the anchor of the node that is tried
abbrev anchor : In-nodes → ℕ
anchor c = get_or (take c.factor-f.result c.args.anchors.now) c.nodes.a-index 0

-- it is that of its place, and below the factor
anchor_is : (c : In-nodes) → (c.nodes.a-index < 2 ^ c.args.k) × (anchor c ≡ mirrored c.args.k c.nodes.a-index)
anchor_is c = listed_front c.args.k c.factor-f.result c.nodes.a-index c.args.anchors.now c.requires.0 c.factor-f.ensures.is c.told-anchors c.requires.3 c.nodes-test.true

anchor_below : (c : In-nodes) → anchor c < 2 ^ c.args.k
anchor_below c = rw (anchor_is c).1 (mirror_lt c.args.k c.nodes.a-index)

-- it is the class of its run's first block
anchor_first : (c : In-nodes) → (anchor c + 0) % 2 ^ c.args.k ≡ anchor c
anchor_first c =
    let e : anchor c + 0 ≡ anchor c = omega arith in
    rw e (mod-eq_of_lt (anchor_below c))

pub bounds-room-from : goal.bounds-room-from
bounds-room-from c =
    let g : 2 ^ c.args.k ≤ row_classes = pow_mono c.requires.0 in
    omega (arith, anchor_below (goal.at.bounds-room-from c).In-nodes)

pub nodes-preserved-then-j-eq0 : goal.nodes-preserved-then-j-eq0
nodes-preserved-then-j-eq0 c t m =
    let i : In-nodes = (goal.at.nodes-preserved-then-j-eq0 c).In-nodes in
    let a = c.args in
    let e : get_or a.room.now ((anchor i + 0) % 2 ^ a.k) 0 ≡ 0 = rw (anchor_first i, ← c.from.ensures) (sym c.from-j.ensures ∙ c.if-j-eq0.true) in
    below_more _ _ (c.nodes.invariant t m)
    (rw (← (anchor_is i).1) (shut_at t a.k a.room.now m a.floor _ 0 (omega (arith, c.requires.1)) e))

pub loop-j-init : goal.loop-j-init
loop-j-init c t m n l =
    let i : In-nodes = (goal.at.loop-j-init c).In-nodes in
    let a = c.args in
    let e : get_or a.room.now ((anchor i + 0) % 2 ^ a.k) 0 ≡ c.from-j.result = rw (anchor_first i, ← c.from.ensures) (sym c.from-j.ensures) in
    clear_more t a.k a.room.now m 0 (anchor i) (λ j h. absurd (omega arith)) n (omega (arith, e))

pub class_at-requires : goal.class_at-requires
class_at-requires c =
    (within_depth c.requires.0, rw c.from-in-loop-j.ensures (anchor_below (goal.at.class_at-requires c).In-nodes), omega arith)

pub nodes-preserved : goal.nodes-preserved
nodes-preserved c t m =
    let i : In-nodes = (goal.at.nodes-preserved c).In-nodes in
    let a = c.args in
    let e = rw (c.class_at.ensures.is, c.from-in-loop-j.ensures) at (sym c.from-free.ensures ∙ c.if-free-eq0.true) in
    below_more _ _ (c.nodes.invariant t m)
    (rw (← (anchor_is i).1) (shut_at t a.k a.room.now m a.floor _ c.loop-j.j (omega arith) e))

pub loop-j-preserved : goal.loop-j-preserved
loop-j-preserved c t m =
    let i : In-nodes = (goal.at.loop-j-preserved c).In-nodes in
    let a = c.args in
    let l = c.loop-j in
    let e : get_or a.room.now ((anchor i + l.j) % 2 ^ a.k) 0 ≡ c.from-free.result = rw (← c.from-in-loop-j.ensures, ← c.class_at.ensures.is) (sym c.from-free.ensures) in
    rw e at (clear_more t a.k a.room.now m l.j (anchor i) (l.invariant t m))

pub returns-in-nodes : goal.returns-in-nodes
returns-in-nodes c f m =
    let w = anchor_is (goal.at.returns-in-nodes c).In-nodes in
    let clear = rw w.1 at (c.loop-j.invariant f m) in
    rw w.1 (found_at f c.args.k c.args.floor c.nodes.a-index w.0 (λ i h. clear i (omega arith)) (c.nodes.invariant f m))

pub returns : goal.returns
returns c f m =
    let a = c.args in
    let F = c.factor-f in
    let g : 2 ^ a.k ≤ row_classes = pow_mono c.requires.0 in
    let h : F.result ≤ length a.anchors.now = omega (arith, F.ensures.is, c.told-anchors) in
    let n : 2 ^ a.k ≤ c.nodes.a-index = omega (arith, F.ensures.is, length-take-le F.result a.anchors.now h) in
    found_none f a.k a.floor (λ q h. c.nodes.invariant f m q (omega arith))
