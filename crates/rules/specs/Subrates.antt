-- What the values of a subrate message may be: "the ranges and the rules between fields that [the Core Specification] states", Vol 4, Part E, 7.8.123,
-- 7.8.124 and 7.7.65.35, and of an event the two rules of Vol 6, Part B, 4.5.1.
use Rattle.std.specs.Prelude.{ℕ, ◌+◌, ◌*◌, Bool, not, ◌||◌, ◌&&◌, leb, ltb, eqb}
use Rattle.rules.specs.declared.Subrates.{Subrates}
use Rattle.rules.specs.declared.SubrateChange.{SubrateChange}
use Rattle.rules.specs.declared.Message.{Message}
use Rattle.rules.specs.declared.Message.TheVariants.{Default, Request, Change}
use Rattle.rules.specs.Core.{least_factor, largest_factor, largest_latency, largest_continuation, least_timeout, largest_timeout, largest_product, largest_hci_handle}

-- A factor is 1 to 500,
abbrev pub is_factor : ℕ → Bool
is_factor F = leb least_factor F && leb F largest_factor

-- a timeout 10 to 3,200,
abbrev pub is_timeout : ℕ → Bool
is_timeout timeout = leb least_timeout timeout && leb timeout largest_timeout

-- and a handle 0 to 3,839.
abbrev pub is_hci_handle : ℕ → Bool
is_hci_handle handle = leb handle largest_hci_handle

-- Of a top factor, a latency, a continuation number and a timeout: each is in its range, the factor times one more than the latency is at most 500, and
-- the continuation number is below the factor.
unfoldable pub is_subrating : ℕ → ℕ → ℕ → ℕ → Bool
is_subrating factor latency continuation timeout =
    is_factor factor
    && leb latency largest_latency
    && leb continuation largest_continuation
    && is_timeout timeout
    && leb (factor * (latency + 1)) largest_product
    && ltb continuation factor

-- Both commands: min is a factor, and not above max, and that rule of max.
unfoldable pub are_subrates : Subrates → Bool
unfolding is_subrating
are_subrates v = is_factor v.min && leb v.min v.max && is_subrating v.max v.latency v.continuation v.timeout

-- An event of status 0: the handle, and that rule of its factor. "In an event of non-zero status the other values are taken as they are."
unfoldable pub is_change : SubrateChange → Bool
unfolding is_subrating
is_change e = not (eqb e.status 0) || (is_hci_handle e.handle && is_subrating e.factor e.latency e.continuation e.timeout)

-- The values of a message are allowed.
unfoldable pub is_allowed : Message → Bool
unfolding are_subrates is_change
is_allowed (Default v) = are_subrates v
is_allowed (Request handle v) = is_hci_handle handle && are_subrates v
is_allowed (Change e) = is_change e
