-- "One logger must not take the house": of any system, as the demands are.
use Rattle.std.specs.Prelude.{ℕ, ◌*◌, ◌/◌, ◌≤◌, ◌≡◌, true, ◌≢◌, length}
use Rattle.rules.specs.declared.Schedule.{Schedule}
use Rattle.rules.specs.declared.Refusal.TheVariants.{CeilingAboveHalf}
use Rattle.rules.specs.Ownership.{handles, factor}
use Rattle.rules.specs.Sound.{sound}
use Rattle.rules.specs.Handles.{connection, is_live}
use Rattle.rules.specs.Image.{IsImage}
use Rattle.rules.specs.Refusals.{number}
use Rattle.rules.specs.Answers.{refused, ok}
use Rattle.history.specs.Calls.{Bytes}
use Rattle.history.specs.Runs.{Made, Run, begun, more, now, System}
use Rattle.history.specs.Moments.{AdmissionOf, Restores, Begins, admitted, restored, Alive}
use Rattle.history.specs.Demands.{has, count_from}

-- "Refuse an admission where twice the ceiling is above F; that turns F 1 away altogether": of one that is accepted twice the ceiling is at most F, F is not
-- 1, and F is its connection's factor.
abbrev pub AdmittedWithin : System → Type 0
AdmittedWithin S =
    (run : Run) (m : Made) (x smallest largest floor ceiling F A L : ℕ) → S (more run m)
    → AdmissionOf m.request.call x smallest largest floor ceiling → m.result.answer ≡ ok F A L
    → (2 * ceiling ≤ F) × (F ≢ 1) × (factor (connection (now (more run m)) x) ≡ F)

-- No other call is refused so.
abbrev pub AdmissionsAlone : System → Type 0
AdmissionsAlone S =
    (run : Run) (m : Made) → S (more run m) → m.result.answer ≡ refused (number CeilingAboveHalf)
    → (x : ℕ) × (smallest : ℕ) × (largest : ℕ) × (floor : ℕ) × (ceiling : ℕ) × AdmissionOf m.request.call x smallest largest floor ceiling

-- At most half: twice its length is at most its factor F, and of any F successive blocks, begun anywhere in endless time, at most F / 2 belong to it.
pub record HasHalf (s : Schedule) (x : ℕ) : Type 0 where
  pub in_length : 2 * (connection s x).length ≤ factor (connection s x)
  pub in_blocks : (b : ℕ) → count_from (has s x) b (factor (connection s x)) ≤ factor (connection s x) / 2

-- A connection begins within half: by any accepted admission; by a restore, if in the image twice its ceiling is at most its factor.
abbrev pub BeginsWithin : (m : Made) (x floor ceiling : ℕ) → Begins m x floor ceiling → Type 0
BeginsWithin m x floor ceiling (admitted smallest largest asks placed) = Unit {0}
BeginsWithin m x floor ceiling (restored bytes restores t long is_sound image live f c) = 2 * ceiling ≤ factor (connection t x)

-- It then has at most half, as long as it lives.
abbrev pub LastsWithin : System → Type 0
LastsWithin S =
    (run : Run) (x floor ceiling : ℕ) → S run → (a : Alive x floor ceiling run) → BeginsWithin a.first x floor ceiling a.begins → HasHalf (now run) x

-- As "connections in older images stay", a house is within half only where no image brought more. An image is within half if every connection in it is,
abbrev pub ImageWithin : Bytes → Type 0
ImageWithin bytes =
    (t : Schedule) → length t.connections ≡ handles → sound t ≡ true → IsImage bytes.list t
    → (x : ℕ) → (connection t x).live ≡ true → 2 * (connection t x).ceiling ≤ factor (connection t x)

-- and a run if every image restored in it is.
abbrev pub RestoredWithin : Run → Type 0
RestoredWithin (begun start s) = Unit {0}
RestoredWithin (more run m) = RestoredWithin run × ((bytes : Bytes) → Restores m bytes → ImageWithin bytes)

-- No live connection then has more than half: no logger takes the house.
abbrev pub NoneTakesHouse : System → Type 0
NoneTakesHouse S = (run : Run) (x : ℕ) → S run → RestoredWithin run → is_live (now run) x ≡ true → HasHalf (now run) x

-- What the request promises, beside the demands.
pub record AtMostHalf (S : System) : Type 0 where
  pub admits : AdmittedWithin S
  pub alone : AdmissionsAlone S
  pub lasts : LastsWithin S
  pub house : NoneTakesHouse S
