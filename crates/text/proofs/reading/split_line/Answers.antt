use Rattle.std.proofs.Common.{◌≡◌, ◌+◌, ◌-◌, ◌≤◌, suc, arith, sym, ap, ◌∙◌, ◌++◌, ◌∷◌, length, take, drop, ℕ}
use lib.ListN.{length-take, length-drop}
use lib.Seq.{take_all}
use Rattle.rules.specs.Split.{before}
use Rattle.texts.proofs.SplitLaws.{before_le, before_all, before_take, before_here}
use Rattle.text.proofs.reading.split_line.Goals as goal
use Rattle.text.proofs.reading.split_line.Goals.{After-find-end}

-- the end is where the line ends
ends : (c : After-find-end) → c.find-end.result ≡ length (before 10 c.args.text.now)
ends c = omega (arith, c.find-end.ensures)

within : (c : After-find-end) → c.find-end.result ≤ length c.args.text.now
within c = omega (arith, ends c, before_le 10 c.args.text.now)

pub returns-then-end-text : goal.returns-then-end-text
returns-then-end-text c =
    let e = ends (goal.at.returns-then-end-text c).After-find-end in
    before_all 10 c.args.text.now (omega (arith, e, c.if-end-text.true))

pub slice_bounds-result-end : goal.slice_bounds-result-end
slice_bounds-result-end c =
    let w = within (goal.at.slice_bounds-result-end c).After-find-end in
    simp length-take (omega (arith, w))

pub overflow_add-result : goal.overflow_add-result
overflow_add-result c =
    let w = within (goal.at.overflow_add-result c).After-find-end in
    omega (arith, w, c.if-end-text.false)

pub slice_bounds-result-count : goal.slice_bounds-result-count
slice_bounds-result-count c =
    let w = within (goal.at.slice_bounds-result-count c).After-find-end in
    omega (arith, w, c.if-end-text.false)

pub slice_bounds-result-start : goal.slice_bounds-result-start
slice_bounds-result-start c =
    let w = within (goal.at.slice_bounds-result-start c).After-find-end in
    omega (arith, w, c.if-end-text.false)

pub returns : goal.returns
returns c =
    let t = c.args.text.now in
    let e = ends (goal.at.returns c).After-find-end in
    let w = within (goal.at.returns c).After-find-end in
    let n = c.find-end.result in
    let line : take n t ≡ before 10 t = ap (λ (k : ℕ). take k t) e ∙ sym (before_take 10 t) in
    let past : n + 1 ≡ suc (length (before 10 t)) = omega (arith, e) in
    let rest : take (length t - (n + 1)) (drop (n + 1) t) ≡ drop (suc (length (before 10 t))) t =
    take_all _ _ (omega (arith, length-drop (n + 1) t)) ∙ ap (λ (k : ℕ). drop k t) past in
    (line, before_here 10 t (omega (arith, e, w, c.if-end-text.false)) ∙ λ i. sym line i ++ 10 ∷ sym rest i)
