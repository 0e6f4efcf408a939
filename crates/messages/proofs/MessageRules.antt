-- Messages that are allowed, and for each rule one that this rule alone forbids.
use mathlib.Core.Path.{◌≡◌, refl}
use mathlib.Core.Bool.{Bool, true, false, ◌&&◌}
use mathlib.Core.Logic.{◌↔◌}
use mathlib.Core.List.{List, [], ◌∷◌, map}
use Prim.Native.Nat.{ℕ, ◌+◌, ◌*◌, ◌<◌, ◌≤◌}
use native.Mathlib.Omega.{arith}
use lib.Dec.{leb, ltb}
use lib.ListN.{set, replicate}
use borrow.Author.Tests.{le-leb, leb-true, lt-ltb, ltb-true}
use Rattle.rules.specs.declared.Message.{Message}
use Rattle.rules.specs.declared.Message.TheVariants.{Default, Request, Change}
use Rattle.rules.specs.Core.{least_factor, least_timeout, largest_timeout, largest_product, largest_hci_handle}
use Rattle.rules.specs.Subrates.{is_allowed}
use Rattle.rules.proofs.MessageValues.{subrates, changed}
use Rattle.basics.proofs.BoolLaws.{both}
use Rattle.messages.proofs.AllowedLaws.{Subrated, subrated_ends, commanded_ends, default_allowed, request_allowed, change_allowed}

-- ---- seven rules
-- Min is from 1 on; min is not above max; the product; the continuation number is below the factor; the timeout's two ends; the handle.
abbrev rules : ℕ → ℕ → ℕ → ℕ → ℕ → ℕ → ℕ → List Bool
rules handle min max factor latency continuation timeout =
    leb least_factor min
    ∷ leb min max
    ∷ leb (factor * (latency + 1)) largest_product
    ∷ ltb continuation factor
    ∷ leb least_timeout timeout
    ∷ leb timeout largest_timeout
    ∷ leb handle largest_hci_handle
    ∷ []

-- Of a message; a value that it does not have keeps its rule.
abbrev pub rules_of : Message → List Bool
rules_of (Default v) = rules 0 v.min v.max v.max v.latency v.continuation v.timeout
rules_of (Request handle v) = rules handle v.min v.max v.max v.latency v.continuation v.timeout
rules_of (Change e) = rules e.handle 1 1 e.factor e.latency e.continuation e.timeout

abbrev all : List Bool → Bool
all [] = true
all (b ∷ bs) = b && all bs

abbrev Hold : List Bool → Type 0
Hold [] = Unit {0}
Hold (b ∷ bs) = (b ≡ true) × Hold bs

all_hold : (bs : List Bool) → all bs ≡ true → Hold bs
all_hold [] e = tt
all_hold (b ∷ bs) e = let p = both b (all bs) e in (p.0, all_hold bs p.1)

-- They are all that is asked, of a command and of an event of status 0: what else has an end keeps it then.
abbrev Asked : Message → Type 0
Asked (Default v) = Unit {0}
Asked (Request handle v) = Unit {0}
Asked (Change e) = e.status ≡ 0

module _ (handle min max F l c t : ℕ) where
  pub record Seven : Type 0 where
    pub from : 1 ≤ min
    pub order : min ≤ max
    pub product : F * (l + 1) ≤ 500
    pub below : c < F
    pub least : 10 ≤ t
    pub most : t ≤ 3200
    pub within : handle ≤ 3839

  seven_exactly : (all (rules handle min max F l c t) ≡ true) ↔ Seven
  seven_exactly = (
    λ e.
        let h = all_hold (rules handle min max F l c t) e in
        record {
          from = leb-true _ _ h.0;
          order = leb-true _ _ h.1.0;
          product = leb-true _ _ h.1.1.0;
          below = ltb-true _ _ h.1.1.1.0;
          least = leb-true _ _ h.1.1.1.1.0;
          most = leb-true _ _ h.1.1.1.1.1.0;
          within = leb-true _ _ h.1.1.1.1.1.1.0;
        },
    λ r.
        rw (
          le-leb _ _ r.from,
          le-leb _ _ r.order,
          le-leb _ _ r.product,
          lt-ltb _ _ r.below,
          le-leb _ _ r.least,
          le-leb _ _ r.most,
          le-leb _ _ r.within,
        ),
  )

  -- So they imply the rule over the factor.
  subrated : Seven → Subrated F l c t
  subrated r = subrated_ends F l c t r.least r.most r.product r.below

  -- And the other way round, with what a message asks besides.
  seven : 1 ≤ min → min ≤ max → handle ≤ 3839 → Subrated F l c t → Seven
  seven from order within r =
      record { from = from; order = order; product = r.product; below = r.below; least = r.timeout_from_10; most = r.timeout_to_3200; within = within }

pub rules_exactly : (m : Message) → Asked m → (is_allowed m ≡ true) ↔ (all (rules_of m) ≡ true)
rules_exactly (Default v) _ =
    let s = seven_exactly 0 v.min v.max v.max v.latency v.continuation v.timeout in
    let d = default_allowed v in (
      λ e. let w = d.0 e in s.1 (seven _ _ _ _ _ _ _ w.min_from_1 w.in_order (omega arith) w.of_max),
      λ e. let w = s.0 e in d.1 (commanded_ends v w.from w.order (subrated _ _ _ _ _ _ _ w)),
    )
rules_exactly (Request handle v) _ =
    let s = seven_exactly handle v.min v.max v.max v.latency v.continuation v.timeout in
    let d = request_allowed handle v in (
      λ e. let w = d.0 e in s.1 (seven _ _ _ _ _ _ _ w.1.min_from_1 w.1.in_order w.0 w.1.of_max),
      λ e. let w = s.0 e in d.1 (w.within, commanded_ends v w.from w.order (subrated _ _ _ _ _ _ _ w)),
    )
rules_exactly (Change e) z =
    let s = seven_exactly e.handle 1 1 e.factor e.latency e.continuation e.timeout in
    let d = change_allowed e z in (
      λ q. let w = d.0 q in s.1 (seven _ _ _ _ _ _ _ (omega arith) (omega arith) w.0 w.1),
      λ q. let w = s.0 q in d.1 (w.within, subrated _ _ _ _ _ _ _ w),
    )

-- ---- one table
pub record Row : Type 0 where
  pub message : Message
  pub kept : List Bool

-- Every rule is kept, or all but one, from 0 on.
abbrev keeps : Message → Row
keeps m = record { message = m; kept = replicate 7 true }

infix 70 ◌breaks◌
abbrev ◌breaks◌ : Message → ℕ → Row
m breaks i = record { message = m; kept = set (replicate 7 true) i false }

pub messages : List Row
messages =
    keeps (Default (subrates 1 500 0 0 10))
    ∷ keeps (Request 3839 (subrates 8 8 0 7 3200))
    ∷ keeps (Change (changed 0 1 250 1 249 600))
    ∷ Default (subrates 0 8 0 1 600) breaks 0
    ∷ Default (subrates 9 8 0 1 600) breaks 1
    ∷ Default (subrates 1 251 1 1 600) breaks 2
    ∷ Default (subrates 1 8 0 8 600) breaks 3
    ∷ Default (subrates 1 8 0 1 9) breaks 4
    ∷ Default (subrates 1 8 0 1 3201) breaks 5
    ∷ Request 1 (subrates 0 8 0 1 600) breaks 0
    ∷ Request 1 (subrates 9 8 0 1 600) breaks 1
    ∷ Request 1 (subrates 1 251 1 1 600) breaks 2
    ∷ Request 1 (subrates 1 8 0 8 600) breaks 3
    ∷ Request 1 (subrates 1 8 0 1 9) breaks 4
    ∷ Request 1 (subrates 1 8 0 1 3201) breaks 5
    ∷ Request 3840 (subrates 1 8 0 1 600) breaks 6
    ∷ Change (changed 0 1 251 1 1 600) breaks 2
    ∷ Change (changed 0 1 8 0 8 600) breaks 3
    ∷ Change (changed 0 1 8 0 1 9) breaks 4
    ∷ Change (changed 0 1 8 0 1 3201) breaks 5
    ∷ Change (changed 0 3840 8 0 1 600) breaks 6
    ∷ []

-- Each keeps these rules, and is allowed exactly if it keeps them all.
pub table_rules : (map (λ (r : Row). rules_of r.message) messages ≡ map (λ (r : Row). r.kept) messages)
    × (map (λ (r : Row). is_allowed r.message) messages ≡ map (λ (r : Row). all r.kept) messages)
unfolding messages is_allowed
table_rules = (refl, refl)
