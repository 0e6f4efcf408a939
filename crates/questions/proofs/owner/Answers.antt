use borrow.Author.Rules.{rules}
use borrow.Author.Tests.{tests}
use mathlib.Core.Path.{◌≡◌, sym, ◌∙◌, subst⁻¹}
use mathlib.Core.Bool.{true, false}
use Prim.Native.Nat.{ℕ, ◌<◌}
use native.Mathlib.Omega.{arith}
use lib.ListN.{length}
use Rattle.std.specs.Prelude.{Option, Some, None}
use Rattle.std.specs.List.{AllWithin, HoldsAt}
use Rattle.std.specs.Option.{MatchOption, IsSomeAnd}
use Rattle.std.proofs.lemmas.Iterator.{YieldsList-from_slice, IsFirst-from_position}
use Rattle.std.proofs.lemmas.Iterator.Adapters.{serves_from_places}
use Rattle.std.proofs.lemmas.List.{get_or_default}
use Rattle.rules.specs.Ownership.{owns, taken, handles, nobody}
use Rattle.rules.specs.Sound.{Numbers}
use Rattle.rules.specs.declared.Connection.{Connection}
use Rattle.rules.specs.declared.Schedule.{Schedule}
use Rattle.blocks.proofs.ScheduleLaws.{good_sound, good_tree}
use Rattle.calls.proofs.QuestionLaws.{owner_found, owner_none, owner_leaf}
use Rattle.questions.specs.Promises.{OwnerSays}
use Rattle.questions.proofs.owner.Goals as goal

pub is_free-requires : goal.is_free-requires
is_free-requires c = (search rules, omega arith, (taken c.args.s.connections, good_tree c.args.s c.requires))

pub returns-then-is_free : goal.returns-then-is_free
returns-then-is_free c =
    sym (owner_leaf c.args.s c.requires c.args.block
    (sym (c.is_free.ensures (taken c.args.s.connections) (good_tree c.args.s c.requires)) ∙ c.if-is_free.true))

pub position-requires-clause-callable : goal.position-requires-clause-callable
position-requires-clause-callable c =
    let cs = c.args.s.connections in
    serves_from_places (YieldsList-from_slice cs cc) (λ x q k. search (rules, tests))
    (λ x k l e.
    let numbers : x.now.live ≡ true → Numbers x.now =
    subst⁻¹ (λ (d : Connection). d.live ≡ true → Numbers d) (e ∙ get_or_default cs k x.now nobody l) ((good_sound c.args.s c.requires).numbers k) in
    search (rules, numbers))

-- The first that owns it, as a handle.
said : (s : Schedule) (b : ℕ) → length s.connections ≡ handles → (o r : Option ℕ) (R : ℕ → ℕ → Type 0) → ((h y : ℕ) → h < handles → R h y → y ≡ h)
    → MatchOption o (AllWithin (λ d. owns d b ≡ false) s.connections 0 (length s.connections))
    (λ h. (h < length s.connections) × HoldsAt (λ d. owns d b ≡ true) s.connections h × AllWithin (λ d. owns d b ≡ false) s.connections 0 h)
    → MatchOption o (r ≡ None) (λ h. IsSomeAnd r (R h)) → OwnerSays s b r
said s b n None None R is w m = sym (owner_none s b (λ j l. w j nobody (omega arith) (omega arith)))
said s b n None (Some y) R is w m = cc
said s b n (Some h) None R is w m = absurd m
said s b n (Some h) (Some y) R is w m =
    let l : h < handles = omega (arith, w.0) in
    let same : y ≡ h = is h y l m in
    rw same (sym (owner_found s b h l (w.1 nobody) (λ j q. w.2 j nobody (omega arith) q)))

pub returns : goal.returns
returns c =
    let a = c.args in
    let first = IsFirst-from_position _ _ c.position.result (λ d. owns d a.block ≡ true) (λ d. owns d a.block ≡ false) c.position.ensures.ran (YieldsList-from_slice a.s.connections cc)
    (λ x q k. search (rules, tests)) (λ x q k. search (rules, tests)) in
    said a.s a.block c.requires.places c.position.result c.map.result _ (λ h y l k. search (rules, tests)) first c.map.ensures.cases
