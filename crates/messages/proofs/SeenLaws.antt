-- What other vendors' loggers see of a schedule is what the Core Specification allows.
use mathlib.Core.Path.{◌≡◌}
use mathlib.Core.Bool.{true}
use Prim.Native.Nat.{ℕ, ◌-◌, ◌^◌, ◌≤◌}
use native.Mathlib.Omega.{arith}
use lib.ListN.{length}
use lib.Pow.{pow_mono}
use borrow.Author.Tests.{leb-true}
use lib.Dec.{leb}
use Rattle.rules.specs.declared.Connection.{Connection}
use Rattle.rules.specs.declared.Schedule.{Schedule}
use Rattle.rules.specs.declared.Subrates.{Subrates}
use Rattle.rules.specs.declared.Message.TheVariants.{Request}
use Rattle.rules.specs.Core.{least_timeout, largest_timeout}
use Rattle.rules.specs.Ownership.{handles, largest_k, factor}
use Rattle.rules.specs.Sound.{Numbers, sound}
use Rattle.rules.specs.Handles.{connection, is_live}
use Rattle.rules.specs.Subrates.{is_timeout, is_allowed}
use Rattle.basics.proofs.BoolLaws.{both}
use Rattle.blocks.proofs.SoundLaws.{sound_exactly}
use Rattle.blocks.proofs.ScheduleLaws.{live_below}
use Rattle.messages.proofs.AllowedLaws.{subrated_ends, commanded_ends, request_allowed}

-- The values of a request for a connection's subrating: F alone, no latency, and L - 1 continuation events.
abbrev pub asked : Connection → ℕ → Subrates
asked c timeout = record { min = factor c; max = factor c; latency = 0; continuation = c.length - 1; timeout = timeout }

numbered : (s : Schedule) → sound s ≡ true → (h : ℕ) → is_live s h ≡ true → Numbers (connection s h)
unfolding sound
numbered s is_sound = ((sound_exactly s.connections).0 is_sound).numbers

-- Of every live connection of a sound schedule, under its handle and with any timeout in range, they are allowed.
pub seen_allowed : (s : Schedule) → length s.connections ≡ handles → sound s ≡ true → (h : ℕ) → is_live s h ≡ true → (timeout : ℕ) → is_timeout timeout ≡ true
    → is_allowed (Request h (asked (connection s h) timeout)) ≡ true
seen_allowed s places is_sound h live timeout t =
    let c = connection s h in
    let n = numbered s is_sound h live in
    let ends = both (leb least_timeout timeout) (leb timeout largest_timeout) t in
    let to : factor c ≤ 2 ^ largest_k = pow_mono n.deep in
    let at_least : 1 ≤ c.length = omega (arith, n.positive, n.floored) in
    let in_it : c.length ≤ factor c = omega (arith, n.ceiled, n.whole) in
    let values = subrated_ends (factor c) 0 (c.length - 1) timeout (leb-true _ _ ends.0) (leb-true _ _ ends.1) (omega arith) (omega arith) in
    (request_allowed h (asked c timeout)).1 (omega (arith, live_below s places h live), commanded_ends (asked c timeout) (omega arith) (omega arith) values)
