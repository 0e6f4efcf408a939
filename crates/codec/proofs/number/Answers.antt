use Rattle.std.proofs.Common.{◌≡◌, ◌+◌, ◌-◌, ◌*◌, ◌^◌, ◌<◌, arith, sym, ap, ◌∙◌, List, [], ℕ, length, take, drop}
use Rattle.std.proofs.lemmas.List.{length_push, nil_from_length}
use Rattle.codec.proofs.Stores.{above, above_none, above_last, number_turn, number_room}
use lib.ListN.{length-drop}
use lib.Seq.{length-take-le}
use Rattle.codec.proofs.number.Goals as goal
use Rattle.codec.proofs.number.Goals.{In-Some}

-- one byte less is left
one_less : (c : In-Some) → length c.loop-byte.byte-iterator.iter.rest.now ≡ length c.next.new.self.iter.rest.now + 1
one_less c = ap length c.in-Some.ensures.steps ∙ length_push _ _

room : (c : In-Some) → c.loop-byte.n < 256 ^ 3
room c = let l = c.loop-byte in number_room l.n _ (omega (arith, one_less c)) l.invariant.small

pub loop-byte-init : goal.loop-byte-init
loop-byte-init c =
    let a = c.args in
    let bytes = take a.width (drop a.at a.bytes.now) in
    let w : a.at + a.width - a.at ≡ a.width = omega arith in
    let e : c.into_iter-byte-iterator.result.iter.rest.now ≡ bytes =
    ap (λ r. r.iter.rest.now) c.into_iter-byte-iterator.ensures.into_iter_gives ∙ ap (λ i. i.rest.now) c.rev-byte-items.ensures.source ∙ (rw w at c.iter.ensures.rest) in
    let n : length c.into_iter-byte-iterator.result.iter.rest.now ≡ a.width =
    ap (λ (l : List ℕ). length l) e ∙ length-take-le a.width (drop a.at a.bytes.now) (omega (arith, length-drop a.at a.bytes.now)) in
    let z : a.width - length c.into_iter-byte-iterator.result.iter.rest.now ≡ 0 = omega arith in
    record {
      says = ap (λ (l : List ℕ). above l 0) e ∙ above_none bytes;
      few = omega arith;
      small = rw z (omega arith);
    }

pub overflow_mul-n : goal.overflow_mul-n
overflow_mul-n c = let r = room (goal.at.overflow_mul-n c).In-Some in omega arith

pub overflow_add-n : goal.overflow_add-n
overflow_add-n c = let r = room (goal.at.overflow_add-n c).In-Some in omega (arith, c.from.ensures)

pub loop-byte-preserved : goal.loop-byte-preserved
loop-byte-preserved c =
    let l = c.loop-byte in
    let left = c.next.new.self.iter.rest.now in
    let s = (goal.at.loop-byte-preserved c).In-Some in
    let k : c.args.width - length left ≡ c.args.width - length l.byte-iterator.iter.rest.now + 1 = omega (arith, one_less s, l.invariant.few) in
    record {
      says =
          ap (λ (b : ℕ). above left (l.n * 256 + b)) c.from.ensures ∙ sym (above_last left c.in-Some.field-0.now l.n)
          ∙ ap (λ (x : List ℕ). above x l.n) (sym c.in-Some.ensures.steps) ∙ l.invariant.says;
      few = omega (arith, one_less s, l.invariant.few);
      small = rw k (number_turn l.n c.from.result _ l.invariant.small (omega (arith, c.from.ensures)));
    }

pub returns : goal.returns
returns c =
    let l = c.loop-byte in
    let e : l.byte-iterator.iter.rest.now ≡ [] = nil_from_length _ c.in-None.ensures.steps.0 in
    rw e at l.invariant.says
