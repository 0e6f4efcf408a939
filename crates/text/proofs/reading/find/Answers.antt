use Rattle.std.proofs.Common.{rules, tests, ◌≡◌, ◌+◌, ◌-◌, arith, ap, ◌∙◌, List, length, take, drop, ℕ}
use lib.Dec.{eqb}
use lib.ListN.{length-drop}
use lib.Seq.{take_all}
use Rattle.std.proofs.lemmas.Iterator.{YieldsList-from_slice}
use Rattle.std.proofs.lemmas.Iterator.Search.{position_from_yields_List}
use Rattle.std.specs.List.{position}
use Rattle.std.specs.Option.{unwrap_or}
use Rattle.rules.specs.Split.{before}
use Rattle.text.proofs.Finding.{found}
use Rattle.text.proofs.reading.find.Goals as goal

pub returns : goal.returns
returns c =
    let a = c.args in
    let part = take (length a.bytes.now - a.from) (drop a.from a.bytes.now) in
    let p : c.position.result ≡ position (λ b. eqb b a.byte) part =
    position_from_yields_List (λ b. eqb b a.byte) _ _ c.position.result c.position.ensures.ran (YieldsList-from_slice part c.iter.ensures.rest) (λ x b q k. search (rules, tests)) in
    let whole : part ≡ drop a.from a.bytes.now = take_all _ _ (omega (arith, length-drop a.from a.bytes.now)) in
    ap (λ n. a.from + n)
    (c.unwrap_or.ensures ∙ ap (λ o. unwrap_or o (length part)) p ∙ found a.byte part ∙ ap (λ (l : List ℕ). length (before a.byte l)) whole)
