-- What is allowed, in numbers.
use mathlib.Core.Path.{◌≡◌}
use mathlib.Core.Bool.{true}
use mathlib.Core.Logic.{◌↔◌, by_cases}
use Prim.Native.Nat.{ℕ, ◌+◌, ◌*◌, ◌<◌, ◌≤◌}
use native.Mathlib.Nat.{le-mul_of_pos_right, mul-le-mul_right}
use native.Mathlib.Decide.{ℕ_discrete}
use native.Mathlib.Omega.{arith}
use borrow.Author.Tests.{le-leb, leb-true, lt-ltb, ltb-true, eq-eqb, ne_eqb}
use Rattle.rules.specs.declared.Subrates.{Subrates}
use Rattle.rules.specs.declared.SubrateChange.{SubrateChange}
use Rattle.rules.specs.declared.Message.{Message}
use Rattle.rules.specs.declared.Message.TheVariants.{Default, Request, Change}
use Rattle.rules.specs.Subrates.{is_hci_handle, is_subrating, are_subrates, is_change, is_allowed}
use Rattle.rules.specs.Messages.{subrate_values}
use Rattle.messages.specs.Fitting.{TwoBytes, Fits, FailedFits}
use Rattle.basics.proofs.BoolLaws.{both}

-- ---- the rule over a top factor, a latency, a continuation number and a timeout
pub record Subrated (factor latency continuation timeout : ℕ) : Type 0 where
  pub from_1 : 1 ≤ factor
  pub to_500 : factor ≤ 500
  pub latency_to_499 : latency ≤ 499
  pub continuation_to_499 : continuation ≤ 499
  pub timeout_from_10 : 10 ≤ timeout
  pub timeout_to_3200 : timeout ≤ 3200
  pub product : factor * (latency + 1) ≤ 500
  pub below : continuation < factor

module _ (F l c t : ℕ) where
  pub subrated_exactly : (is_subrating F l c t ≡ true) ↔ Subrated F l c t
  unfolding is_subrating
  subrated_exactly = (
    λ e.
        let p₁ = both _ _ e in
        let p₂ = both _ _ p₁.0 in
        let p₃ = both _ _ p₂.0 in
        let p₄ = both _ _ p₃.0 in
        let p₅ = both _ _ p₄.0 in
        let f = both _ _ p₅.0 in
        let g = both _ _ p₃.1 in
        record {
          from_1 = leb-true _ _ f.0;
          to_500 = leb-true _ _ f.1;
          latency_to_499 = leb-true _ _ p₅.1;
          continuation_to_499 = leb-true _ _ p₄.1;
          timeout_from_10 = leb-true _ _ g.0;
          timeout_to_3200 = leb-true _ _ g.1;
          product = leb-true _ _ p₂.1;
          below = ltb-true _ _ p₁.1;
        },
    λ r.
        rw (
          le-leb _ _ r.from_1,
          le-leb _ _ r.to_500,
          le-leb _ _ r.latency_to_499,
          le-leb _ _ r.continuation_to_499,
          le-leb _ _ r.timeout_from_10,
          le-leb _ _ r.timeout_to_3200,
          le-leb _ _ r.product,
          lt-ltb _ _ r.below,
        ),
  )

  -- The two rules between fields and the timeout's ends imply every other end.
  pub subrated_ends : 10 ≤ t → t ≤ 3200 → F * (l + 1) ≤ 500 → c < F → Subrated F l c t
  subrated_ends from to product below =
      let a : F ≤ F * (l + 1) = le-mul_of_pos_right F (omega arith) in
      let b : 1 * (l + 1) ≤ F * (l + 1) = mul-le-mul_right (l + 1) (omega arith) in
      record {
        from_1 = omega arith;
        to_500 = omega arith;
        latency_to_499 = omega arith;
        continuation_to_499 = omega arith;
        timeout_from_10 = from;
        timeout_to_3200 = to;
        product = product;
        below = below;
      }

-- ---- of each message
-- Both commands.
pub record Commanded (v : Subrates) : Type 0 where
  pub min_from_1 : 1 ≤ v.min
  pub min_to_500 : v.min ≤ 500
  pub in_order : v.min ≤ v.max
  pub of_max : Subrated v.max v.latency v.continuation v.timeout

pub commanded_exactly : (v : Subrates) → (are_subrates v ≡ true) ↔ Commanded v
unfolding are_subrates
commanded_exactly v =
    let r = subrated_exactly v.max v.latency v.continuation v.timeout in (
      λ e.
          let p = both _ _ e in
          let q = both _ _ p.0 in
          let f = both _ _ q.0 in
          record { min_from_1 = leb-true _ _ f.0; min_to_500 = leb-true _ _ f.1; in_order = leb-true _ _ q.1; of_max = r.0 p.1 },
      λ w. rw (le-leb _ _ w.min_from_1, le-leb _ _ w.min_to_500, le-leb _ _ w.in_order, r.1 w.of_max),
    )

-- So min is at most 500 too.
pub commanded_ends : (v : Subrates) → 1 ≤ v.min → v.min ≤ v.max → Subrated v.max v.latency v.continuation v.timeout → Commanded v
commanded_ends v from order r = record { min_from_1 = from; min_to_500 = omega (arith, r.to_500); in_order = order; of_max = r }

pub default_allowed : (v : Subrates) → (is_allowed (Default v) ≡ true) ↔ Commanded v
unfolding is_allowed
default_allowed v = commanded_exactly v

pub request_allowed : (handle : ℕ) (v : Subrates) → (is_allowed (Request handle v) ≡ true) ↔ ((handle ≤ 3839) × Commanded v)
unfolding is_allowed
request_allowed handle v =
    let r = commanded_exactly v in (
      λ e. let p = both (is_hci_handle handle) (are_subrates v) e in (leb-true handle 3839 p.0, r.0 p.1),
      λ w. rw (le-leb handle 3839 w.0, r.1 w.1),
    )

-- An event of status 0,
module _ (e : SubrateChange) where
  pub change_allowed : e.status ≡ 0 → (is_allowed (Change e) ≡ true) ↔ ((e.handle ≤ 3839) × Subrated e.factor e.latency e.continuation e.timeout)
  unfolding is_allowed is_change
  change_allowed z =
      let r = subrated_exactly e.factor e.latency e.continuation e.timeout in (
        λ a. let p = both _ _ (rw (eq-eqb e.status 0 z) at a) in (leb-true _ _ p.0, r.0 p.1),
        λ w. rw (eq-eqb e.status 0 z, le-leb _ _ w.0, r.1 w.1),
      )

  -- and one of any other: everything.
  pub failed_allowed : (e.status ≡ 0 → ⊥) → is_allowed (Change e) ≡ true
  unfolding is_allowed is_change
  failed_allowed f = rw (ne_eqb e.status 0 f)

-- ---- what is allowed fits its fields
commanded_fits : (v : Subrates) → Commanded v → TwoBytes (subrate_values v)
commanded_fits v w =
    let r = w.of_max in
    (omega (arith, w.min_to_500), (omega (arith, r.to_500), (omega (arith, r.latency_to_499), (omega (arith, r.continuation_to_499), (omega (arith, r.timeout_to_3200), tt)))))

pub allowed_fits : (m : Message) → is_allowed m ≡ true → FailedFits m → Fits m
allowed_fits (Default v) a f = commanded_fits v ((default_allowed v).0 a)
allowed_fits (Request handle v) a f = let w = (request_allowed handle v).0 a in (omega (arith, w.0), commanded_fits v w.1)
allowed_fits (Change e) a f = by_cases (ℕ_discrete e.status 0) zero_fits f
  where
    zero_fits : e.status ≡ 0 → Fits (Change e)
    zero_fits z =
        let w = (change_allowed e z).0 a in
        let r = w.1 in
        (omega arith, (omega (arith, w.0), (omega (arith, r.to_500), (omega (arith, r.latency_to_499), (omega (arith, r.continuation_to_499), (omega (arith, r.timeout_to_3200), tt))))))
