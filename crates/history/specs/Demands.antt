-- The customer's three demands, of any system: of every run that can come of it.
use Rattle.std.specs.Prelude.{ℕ, zero, suc, ◌+◌, ◌-◌, ◌*◌, ◌%◌, ◌^◌, ◌<◌, ◌≤◌, ◌≡◌, Bool, true, false, cond, ◌↔◌, List, pos, length}
use Rattle.std.proofs.Math.Option.{some}
use Rattle.rules.specs.declared.Schedule.{Schedule}
use Rattle.rules.specs.declared.Connection.{Connection}
use Rattle.rules.specs.declared.Refusal.{Refusal as Named}
use Rattle.rules.specs.declared.Refusal.TheVariants.{NoOpenAnchor}
use Rattle.rules.specs.Core.{is_range, base_interval, Reserved}
use Rattle.rules.specs.Ownership.{handles, factor, subrating, owns}
use Rattle.rules.specs.Subrates.{is_factor}
use Rattle.rules.specs.Sound.{sound}
use Rattle.rules.specs.Good.{tree_for}
use Rattle.rules.specs.Refusals.{number}
use Rattle.rules.specs.Handles.{connection, above_handles, is_live}
use Rattle.rules.specs.Admit.{interval_outside, k_in, share_wrong}
use Rattle.rules.specs.Lent.{over}
use Rattle.rules.specs.Image.{image, IsImage}
use Rattle.rules.specs.Answers.{Answer, refused, ok, saved, loaded}
use Rattle.history.specs.Calls.{Bytes, Save, Request, Result, ruled}
use Rattle.history.specs.Runs.{Start, after, Made, Run, begun, more, now, history_of, followed, System}
use Rattle.history.specs.Moments.{AdmissionOf, Placed, RestoreOf, Lasts, Unreported, Untidied, Alive}

-- Block b belongs to the live connection of handle x: what all that follows says of blocks goes through this.
abbrev pub has : Schedule → ℕ → ℕ → Bool
has s x b = owns (connection s x) b

-- ---- demand 1
-- "Every call takes all numbers and all bytes, and ends": there is a start; whatever was made before, each request has a result; and what was
-- made before is itself a run. (That a call of the code returns is what the check proves of each function.)
pub record Takes (S : System) : Type 0 where
  pub begins : (start : Start) → (s : Schedule) × S (begun start s)
  pub goes_on : (run : Run) → S run → (r : Request) → (t : Result) × S (more run (record { request = r; result = t }))
  pub earlier : (run : Run) (m : Made) → S (more run m) → S run

-- "A call that cannot be met returns one number from the rule sheet's table, and neither the schedule nor a lent buffer has changed."
pub record Refusal (run : Run) (m : Made) (n : ℕ) : Type 0 where
  pub in_table : (why : Named) × (n ≡ number why)
  pub schedule : m.result.schedule ≡ now run
  pub lent : m.result.lent ≡ m.request.lent

pub record Demand1 (S : System) : Type 0 where
  pub takes : Takes S
  pub refusals : (run : Run) (m : Made) (n : ℕ) → S (more run m) → m.result.answer ≡ refused n → Refusal run m n

-- ---- demand 2
-- "Intervals and subrated events mean what the Bluetooth Core Specification says": the bounds of an accepted range are intervals, in order; F is a
-- subrate factor; F base intervals, the time from one subrated event to the next, last no less than the smallest and no more than the largest; and
-- every 2^k that is a subrate factor and of which that holds is at most F;
pub record Meant (smallest largest F : ℕ) : Type 0 where
  pub allowed : is_range smallest largest ≡ true
  pub legal : is_factor F ≡ true
  pub power : (k : ℕ) × (F ≡ 2 ^ k)
  pub not_below : smallest ≤ F * base_interval
  pub not_above : F * base_interval ≤ largest
  pub longest : (k : ℕ) → is_factor (2 ^ k) ≡ true → smallest ≤ 2 ^ k * base_interval → 2 ^ k * base_interval ≤ largest → 2 ^ k ≤ F

abbrev pub IntervalsMeant : System → Type 0
IntervalsMeant S =
    (run : Run) (m : Made) (x smallest largest floor ceiling F A L : ℕ) → S (more run m)
    → AdmissionOf m.request.call x smallest largest floor ceiling → m.result.answer ≡ ok F A L → Meant smallest largest F

-- the factor of each live connection, admitted or restored, is a subrate factor;
abbrev pub FactorsMeant : System → Type 0
FactorsMeant S = (run : Run) (x : ℕ) → S run → is_live (now run) x ≡ true → is_factor (factor (connection (now run) x)) ≡ true

-- and a block belongs to a connection exactly if it is reserved for it: one of its subrated events, or of the continuation events after one.
abbrev pub EventsMeant : System → Type 0
EventsMeant S =
    (run : Run) (x b : ℕ) → S run → is_live (now run) x ≡ true → (has (now run) x b ≡ true) ↔ Reserved (subrating (connection (now run) x)) (pos b)

-- "each answer, anchor and length is the one the rule sheet's definitions give": after the same history. What those give for a call,
abbrev pub given : Run → Made → Result
given run m = ruled (after (history_of run)) m.request

-- the answer, and every byte and every number that was lent;
abbrev pub ResultsGiven : System → Type 0
ResultsGiven S = (run : Run) (m : Made) → S (more run m) → (m.result.answer ≡ (given run m).answer) × (m.result.lent ≡ (given run m).lent)

-- and of each handle: it is live in one exactly if in the other, and then has its factor, anchor, length, floor, ceiling and estimate.
-- What stands in a free slot is nobody's business.
pub record Alike (mine sheets : Connection) : Type 0 where
  pub live : mine.live ≡ sheets.live
  pub numbers : sheets.live ≡ true → mine ≡ sheets

abbrev pub ConnectionsGiven : System → Type 0
ConnectionsGiven S = (run : Run) (x : ℕ) → S run → Alike (connection (now run) x) (connection (after (history_of run)) x)

-- The tree's bytes are those of the connections.
abbrev pub TreeGiven : System → Type 0
TreeGiven S = (run : Run) → S run → (now run).tree.bytes ≡ tree_for (now run).connections

-- "A new connection is refused for room exactly when no anchor exists whose whole run is free."
abbrev pub WholeRunFree : Schedule → ℕ → ℕ → ℕ → Type 0
WholeRunFree s F A floor = (j : ℕ) → j < floor → (b : ℕ) → b % F ≡ (A + j) % F → (x : ℕ) → has s x b ≡ false

-- The checks before that of room, 1, 2, 4, 15, 5 and 20, pass, and the range gives k.
pub record Reaches (s : Schedule) (x smallest largest floor ceiling k : ℕ) : Type 0 where
  pub handle : above_handles x ≡ false
  pub unused : is_live s x ≡ false
  pub range : interval_outside smallest largest ≡ false
  pub given : k_in smallest largest ≡ some k
  pub share : share_wrong floor ceiling (2 ^ k) ≡ false
  pub half : 2 * ceiling ≤ 2 ^ k

-- It is then refused with 6 exactly when there is none, and accepted exactly when there is one.
pub record RoomAsked (s : Schedule) (answer : Answer) (F floor : ℕ) : Type 0 where
  pub shut : (answer ≡ refused (number NoOpenAnchor)) ↔ ((A : ℕ) → A < F → WholeRunFree s F A floor → ⊥)
  pub opens : Placed answer ↔ ((A : ℕ) × (A < F) × WholeRunFree s F A floor)

abbrev pub RoomExact : System → Type 0
RoomExact S =
    (run : Run) (m : Made) (x smallest largest floor ceiling k : ℕ) → S (more run m) → AdmissionOf m.request.call x smallest largest floor ceiling
    → Reaches (now run) x smallest largest floor ceiling k → RoomAsked (now run) m.result.answer (2 ^ k) floor

-- "An image is restored exactly when it is the image of some sound schedule,"
abbrev pub RestoreExact : System → Type 0
RestoreExact S =
    (run : Run) (m : Made) (bytes : Bytes) → S (more run m) → RestoreOf m.request.call bytes
    → ((n : ℕ) × (m.result.answer ≡ loaded n)) ↔ ((t : Schedule) × (length t.connections ≡ handles) × (sound t ≡ true) × IsImage bytes.list t)

-- "and saving that schedule gives the same bytes": a save with room writes the image of the schedule,
abbrev pub SavesImage : System → Type 0
SavesImage S =
    (run : Run) (m : Made) → S (more run m) → m.request.call ≡ Save → length (image (now run)) ≤ length m.request.lent.buffer
    → (m.result.answer ≡ saved (length (image (now run))))
    × (m.result.lent.buffer ≡ over (image (now run)) m.request.lent.buffer)

-- and that is what was restored, where that has the form in which images are saved: as every image has today.
abbrev pub SavedForm : List ℕ → Type 0
SavedForm bytes = (t : Schedule) × (length t.connections ≡ handles) × (sound t ≡ true) × (bytes ≡ image t)

abbrev pub SavesSame : System → Type 0
SavesSame S =
    (run : Run) (m : Made) (bytes : Bytes) (n : ℕ) → S (more run m) → RestoreOf m.request.call bytes → m.result.answer ≡ loaded n
    → SavedForm bytes.list → image m.result.schedule ≡ bytes.list

-- The two together, in the customer's one sentence: what was restored, saved at once, gives the same bytes. A law says so of every system that
-- meets demands 1 and 2.
abbrev pub SavesBack : System → Type 0
SavesBack S =
    (run : Run) (m save : Made) (bytes : Bytes) (n : ℕ) → S (more (more run m) save)
    → RestoreOf m.request.call bytes → m.result.answer ≡ loaded n
    → save.request.call ≡ Save → length bytes.list ≤ length save.request.lent.buffer
    → (save.result.answer ≡ saved (length bytes.list))
    × (save.result.lent.buffer ≡ over bytes.list save.request.lent.buffer)

pub record Demand2 (S : System) : Type 0 where
  pub intervals : IntervalsMeant S
  pub factors : FactorsMeant S
  pub events : EventsMeant S
  pub results : ResultsGiven S
  pub connections : ConnectionsGiven S
  pub tree : TreeGiven S
  pub room : RoomExact S
  pub restore : RestoreExact S
  pub saves : SavesImage S
  pub same : SavesSame S

-- ---- demand 3
-- Of how many of n successive blocks, begun at b, the test holds.
unfoldable pub count_from : (ℕ → Bool) → ℕ → ℕ → ℕ
count_from test b zero = 0
count_from test b (suc n) =
    let later = count_from test (suc b) n in
    cond (test b) (suc later) later

-- "every F successive blocks of the schedule as it then stands, begun anywhere in endless time, hold exactly L blocks that belong to it"
abbrev pub Counted : System → Type 0
Counted S =
    (run : Run) (x : ℕ) → S run → is_live (now run) x ≡ true
    → (b : ℕ) → count_from (has (now run) x) b (factor (connection (now run) x)) ≡ (connection (now run) x).length

-- "Its next block is at most F minus L blocks away, a block of its own counting as 0."
abbrev pub Near : System → Type 0
Near S =
    (run : Run) (x : ℕ) → S run → is_live (now run) x ≡ true → (b : ℕ)
    → (d : ℕ)
    × (d ≤ factor (connection (now run) x) - (connection (now run) x).length)
    × (has (now run) x (b + d) ≡ true)
    × (has (now run) x b ≡ true → d ≡ 0)

-- "No block belongs to two connections."
abbrev pub ApartEver : System → Type 0
ApartEver S = (run : Run) (x y b : ℕ) → S run → has (now run) x b ≡ true → has (now run) y b ≡ true → x ≡ y

-- "L stays between the floor and ceiling it was admitted or restored with."
abbrev pub Bounded : System → Type 0
Bounded S =
    (run : Run) (x floor ceiling : ℕ) → S run → Alive x floor ceiling run
    → (floor ≤ (connection (now run) x).length) × ((connection (now run) x).length ≤ ceiling)

-- "While it is live and no restore is accepted, only its own report changes its length or estimate, and no call its factor or anchor", and "Beside an accepted
-- restore only an accepted tidy moves anchors; the rest of demand 3 holds through it": its factor stays; its anchor, if no accepted tidy lies between; its
-- length and its estimate, if no report of its own does.
abbrev pub Steady : System → Type 0
Steady S =
    (earlier : Run) (between : List Made) (x : ℕ) → S (followed earlier between) → is_live (now earlier) x ≡ true → Lasts x between
    → ((connection (now (followed earlier between)) x).k ≡ (connection (now earlier) x).k)
    × (Untidied between → (connection (now (followed earlier between)) x).anchor ≡ (connection (now earlier) x).anchor)
    × (Unreported x between
    → ((connection (now (followed earlier between)) x).length ≡ (connection (now earlier) x).length)
    × ((connection (now (followed earlier between)) x).estimate ≡ (connection (now earlier) x).estimate))

-- "It is live from its accepted admission, or the accepted restore of an image that holds it, until its own drop or the next accepted
-- restore; no other call begins or ends it."
abbrev pub Lives : System → Type 0
Lives S = (run : Run) (x : ℕ) → S run → (is_live (now run) x ≡ true) ↔ ((floor : ℕ) × (ceiling : ℕ) × Alive x floor ceiling run)

pub record Demand3 (S : System) : Type 0 where
  pub counted : Counted S
  pub near : Near S
  pub apart : ApartEver S
  pub bounded : Bounded S
  pub steady : Steady S
  pub lives : Lives S
