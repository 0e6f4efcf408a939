-- What the tests of a message's values come to.
use mathlib.Core.Path.{◌≡◌, sym, ◌∙◌}
use mathlib.Core.Bool.{true, false, true≢false}
use Prim.Native.Nat.{ℕ, ◌+◌, ◌*◌, ◌<◌, ◌≤◌}
use lib.Dec.{leb}
use borrow.Author.Tests.{le-leb, leb-true, lt-leb, eq-eqb, ne_eqb}
use mathlib.Core.Bool.{Bool, ◌&&◌}
use Rattle.std.specs.Ordering.{is_le, nat_cmp}
use Rattle.std.proofs.lemmas.Map.Keys.{le_from_is_le}
use Rattle.std.proofs.lemmas.Grind.{common_steps}
use native.Mathlib.Omega.{arith}
use Rattle.rules.specs.declared.Subrates.{Subrates}
use Rattle.rules.specs.declared.SubrateChange.{SubrateChange}
use Rattle.rules.specs.declared.Message.TheVariants.{Request}
use Rattle.rules.specs.Subrates.{is_subrating, are_subrates, is_change, is_allowed}
use Rattle.basics.proofs.BoolLaws.{bool_iff, is_false, both}
use Rattle.messages.proofs.AllowedLaws.{Subrated, subrated_exactly, subrated_ends, Commanded, commanded_exactly, commanded_ends}

-- The test of a range, in numbers.
is_le_leb : (a b : ℕ) → is_le (nat_cmp a b) ≡ leb a b
is_le_leb a b = grind (arith, common_steps)

module _ (lo hi x : ℕ) {b : Bool} (is : b ≡ is_le (nat_cmp lo x) && is_le (nat_cmp x hi)) where
  pub within : b ≡ true → (lo ≤ x) × (x ≤ hi)
  within e =
      let p = both _ _ (sym is ∙ e) in
      (le_from_is_le lo x p.0, le_from_is_le x hi p.1)

  pub outside : b ≡ false → lo ≤ x → x ≤ hi → ⊥
  outside e from to =
      let e₁ : leb lo x && leb x hi ≡ false =
      rw (sym (is_le_leb lo x), sym (is_le_leb x hi), sym is) e in
      absurd (true≢false (rw (le-leb lo x from, le-leb x hi to) at e₁))

-- The rule over four numbers: a test that fails, and what is left to the last one.
module _ (F l c t : ℕ) where
  pub not_subrated : (Subrated F l c t → ⊥) → false ≡ is_subrating F l c t
  not_subrated f = sym (is_false (is_subrating F l c t) (λ e. f ((subrated_exactly F l c t).0 e)))

  pub by_product : 10 ≤ t → t ≤ 3200 → c < F → leb (F * (l + 1)) 500 ≡ is_subrating F l c t
  by_product from to below =
      bool_iff (leb (F * (l + 1)) 500) (is_subrating F l c t)
      (λ e. (subrated_exactly F l c t).1 (subrated_ends F l c t from to (leb-true _ _ e) below))
      (λ e. le-leb _ _ ((subrated_exactly F l c t).0 e).product)

-- A command.
module _ (v : Subrates) where
  pub not_commanded : (Commanded v → ⊥) → false ≡ are_subrates v
  not_commanded f = sym (is_false (are_subrates v) (λ e. f ((commanded_exactly v).0 e)))

  pub by_max : 1 ≤ v.min → v.min ≤ v.max → is_subrating v.max v.latency v.continuation v.timeout ≡ are_subrates v
  by_max from order =
      let r = subrated_exactly v.max v.latency v.continuation v.timeout in
      bool_iff (is_subrating v.max v.latency v.continuation v.timeout) (are_subrates v)
      (λ e. (commanded_exactly v).1 (commanded_ends v from order (r.0 e)))
      (λ e. r.1 ((commanded_exactly v).0 e).of_max)

-- An event.
module _ (e : SubrateChange) where
  pub of_failed : (e.status ≡ 0 → ⊥) → true ≡ is_change e
  unfolding is_change
  of_failed f = rw (ne_eqb e.status 0 f)

  pub of_handle : e.status ≡ 0 → 3839 < e.handle → false ≡ is_change e
  unfolding is_change
  of_handle z l = rw (eq-eqb e.status 0 z, lt-leb e.handle 3839 l)

  pub of_factor : e.status ≡ 0 → e.handle ≤ 3839 → is_subrating e.factor e.latency e.continuation e.timeout ≡ is_change e
  unfolding is_change
  of_factor z l = rw (eq-eqb e.status 0 z, le-leb e.handle 3839 l)

-- A request.
module _ (handle : ℕ) (v : Subrates) where
  pub request_above : 3839 < handle → false ≡ is_allowed (Request handle v)
  unfolding is_allowed
  request_above l = rw (lt-leb handle 3839 l)

  pub request_within : handle ≤ 3839 → are_subrates v ≡ is_allowed (Request handle v)
  unfolding is_allowed
  request_within l = rw (le-leb handle 3839 l)
