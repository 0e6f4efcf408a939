-- Admit: handle, smallest and largest interval in slots, floor, ceiling; each 0 to 2^32 - 1.
use Rattle.std.specs.Prelude.{ℕ, suc, ◌-◌, ◌*◌, ◌^◌, Bool, true, not, ◌||◌, ◌&&◌, List, [], ◌∷◌, leb, ltb, eqb}
use Rattle.std.proofs.Math.Option.{Option, get_or}
use Rattle.rules.specs.declared.Connection.{Connection}
use Rattle.rules.specs.declared.Schedule.{Schedule}
use Rattle.rules.specs.declared.Refusal.TheVariants.{HandleAbove63, HandleLive, IntervalOutside, NoInterval, ShareWrong, CeilingAboveHalf, NoOpenAnchor}
use Rattle.rules.specs.Below.{largest, greatest, least, is_none}
use Rattle.rules.specs.Time.{block_slots, block_micros, guard_micros}
use Rattle.rules.specs.Core.{is_range}
use Rattle.rules.specs.Ownership.{largest_k, taken}
use Rattle.rules.specs.Classes.{run_free}
use Rattle.rules.specs.Mirror.{mirrored}
use Rattle.rules.specs.Good.{with_connections, with_connection}
use Rattle.rules.specs.Refusals.{Check, check, decided}
use Rattle.rules.specs.Answers.{Outcome, refusing, ok}
use Rattle.rules.specs.Handles.{above_handles, is_live}

-- 4: "either bound outside 6 to 3,200 or smallest above largest"
abbrev pub interval_outside : ℕ → ℕ → Bool
interval_outside smallest largest = not (is_range smallest largest)

-- Of one interval: "k is the largest with 6 × 2^k not above the interval", and "now at most 8".
unfoldable pub k_of : ℕ → ℕ
unfolding largest
k_of interval = largest largest_k (λ k. leb (block_slots * 2 ^ k) interval)

-- 6 × 2^k is "not above the largest and not below the smallest".
abbrev pub in_range : ℕ → ℕ → ℕ → Bool
in_range smallest largest k = leb (block_slots * 2 ^ k) largest && leb smallest (block_slots * 2 ^ k)

-- Of a range: "we take the largest 6 × 2^k" that is so. "That rule may find none".
unfoldable pub k_in : ℕ → ℕ → Option ℕ
unfolding greatest
k_in smallest largest = greatest (suc largest_k) (in_range smallest largest)

-- 15: "no such interval in the range"
abbrev pub no_interval : ℕ → ℕ → Bool
no_interval smallest largest = is_none (k_in smallest largest)

-- The k that is taken; where none is, 15 refuses before it counts.
abbrev pub k_for : ℕ → ℕ → ℕ
k_for smallest largest = get_or (k_in smallest largest) 0

-- 5: "floor 0, ceiling below floor, or ceiling above F"
abbrev pub share_wrong : ℕ → ℕ → ℕ → Bool
share_wrong floor ceiling F = eqb floor 0 || ltb ceiling floor || ltb F ceiling

-- 20: "twice the ceiling is above F"
abbrev pub ceiling_above_half : ℕ → ℕ → Bool
ceiling_above_half ceiling F = ltb F (2 * ceiling)

-- "An anchor A is open if every block (A + j) mod F, j below floor, is free in all its periods."
unfoldable pub is_open : (ℕ → Bool) → ℕ → ℕ → ℕ → Bool
unfolding run_free
is_open blocks k floor A = run_free blocks k A floor

-- "Anchors are tried in the order of their node numbers 2^k + mirrored A, and the first anchor whose whole run is free is
-- taken": the position p of its node, from 0 on.
unfoldable pub first_open : (ℕ → Bool) → ℕ → ℕ → Option ℕ
unfolding least is_open mirrored
first_open blocks k floor = least (2 ^ k) (λ p. is_open blocks k floor (mirrored k p))

-- 6: "no open anchor"
abbrev pub no_open_anchor : (ℕ → Bool) → ℕ → ℕ → Bool
no_open_anchor blocks k floor = is_none (first_open blocks k floor)

-- "L is the floor; the estimate is L × 7,500 - 2,500."
abbrev pub new_connection : ℕ → ℕ → ℕ → ℕ → Connection
new_connection k A floor ceiling = record { live = true; k = k; anchor = A; length = floor; floor = floor; ceiling = ceiling; estimate = floor * block_micros - guard_micros }

-- "Checks 1, 2, 4, 5, 6", 15 "after 4 and before 5", and 20 "after 5 and before 6": 1, 2, 4, 15, 5, 20, 6, each list here the tail of the next. Those that
-- follow k, 5, 20 and 6:
abbrev pub factor_checks : (ℕ → Bool) → ℕ → ℕ → ℕ → List Check
factor_checks blocks k floor ceiling =
    check ShareWrong (share_wrong floor ceiling (2 ^ k))
    ∷ check CeilingAboveHalf (ceiling_above_half ceiling (2 ^ k))
    ∷ check NoOpenAnchor (no_open_anchor blocks k floor)
    ∷ []

-- In front of them 2, 4 and 15. These six ask of a schedule only whether the handle is live and which blocks are taken.
abbrev pub place_checks : Bool → (ℕ → Bool) → ℕ → ℕ → ℕ → ℕ → List Check
place_checks live blocks smallest largest floor ceiling =
    check HandleLive live
    ∷ check IntervalOutside (interval_outside smallest largest)
    ∷ check NoInterval (no_interval smallest largest)
    ∷ factor_checks blocks (k_for smallest largest) floor ceiling

-- In front of all 1, of the handle alone.
unfoldable pub admit_checks : Schedule → ℕ → ℕ → ℕ → ℕ → ℕ → List Check
unfolding is_range k_in first_open taken
admit_checks s handle smallest largest floor ceiling =
    check HandleAbove63 (above_handles handle) ∷ place_checks (is_live s handle) (taken s.connections) smallest largest floor ceiling

-- The anchor that is taken.
unfoldable pub anchor_for : Schedule → ℕ → ℕ → ℕ
unfolding first_open taken mirrored
anchor_for s k floor = mirrored k (get_or (first_open (taken s.connections) k floor) 0)

-- "Answer: F, A, L."
unfoldable pub admit_done : Schedule → ℕ → ℕ → ℕ → ℕ → Outcome
unfolding anchor_for with_connections
admit_done s handle k floor ceiling =
    let A = anchor_for s k floor in
    let after = with_connection s handle (new_connection k A floor ceiling) in
    record { answer = ok (2 ^ k) A floor; schedule = after }

unfoldable pub admit : Schedule → ℕ → ℕ → ℕ → ℕ → ℕ → Outcome
unfolding k_in admit_checks admit_done decided
admit s handle smallest largest floor ceiling =
    decided (admit_checks s handle smallest largest floor ceiling) (refusing s) (admit_done s handle (k_for smallest largest) floor ceiling)
