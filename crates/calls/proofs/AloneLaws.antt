-- Reports of different connections do not depend on each other.
use mathlib.Core.Path.{◌≡◌, refl, sym, ap, subst, ◌∙◌}
use mathlib.Core.Bool.{Bool, true, false, false≢true}
use mathlib.Core.List.{List, ◌∷◌, ◌++◌}
use mathlib.Core.Logic.{◌≢◌, by_cases}
use Prim.Native.Nat.{ℕ, ◌+◌, ◌-◌, ◌%◌, ◌≤◌}
use native.Mathlib.Nat.{mod-add-mod, mod-eq_of_lt, add-zero, add-mod_right}
use native.Mathlib.Decide.{ℕ_discrete}
use native.Mathlib.Omega.{arith}
use lib.ListN.{set}
use lib.Seq.{set-get_or, set_comm}
use Rattle.rules.specs.declared.Connection.{Connection}
use Rattle.rules.specs.declared.Schedule.{Schedule}
use Rattle.rules.specs.declared.Report.{Report}
use Rattle.rules.specs.Time.{list_blocks}
use Rattle.rules.specs.Ownership.{factor, nobody, owns, taken}
use Rattle.rules.specs.Classes.{depth}
use Rattle.rules.specs.Sound.{Numbers}
use Rattle.rules.specs.Good.{Good, with_connections, with_connection}
use Rattle.rules.specs.Refusals.{decided}
use Rattle.rules.specs.Answers.{Answer, Outcome, refused, refusing}
use Rattle.rules.specs.Handles.{connection, is_live}
use Rattle.rules.specs.Meter.{moved, change, new_length}
use Rattle.rules.specs.Report.{room_to_grow, metered, aim, report_checks, report_answer, report_length, report_done, report}
use Rattle.rules.specs.Reports.{after_reports}
use Rattle.basics.proofs.BoolLaws.{bool_iff, is_false}
use Rattle.blocks.proofs.ClassLaws.{within_depth}
use Rattle.blocks.proofs.EndlessTime.{belongs_congruent, factor_mod}
use Rattle.blocks.proofs.SoundLaws.{owns_parts}
use Rattle.blocks.proofs.ScheduleLaws.{good_sound, set_same}
use Rattle.calls.proofs.RefusalLaws.{decided_map}
use Rattle.calls.proofs.ReportLaws.{report_cases, room_ever, new, report_good, report_others}
use Rattle.calls.proofs.LiveLaws.{report_lives}
use Rattle.calls.proofs.ReportsLaws.{after_append, after_good}

-- ---- the class that a connection wants
-- Block b is of the class of (A + L) mod F, which connection c wants for its growth.
abbrev pub Wants : Connection → ℕ → Type 0
Wants c b = b % factor c ≡ (c.anchor + c.length) % factor c

module _ (c : Connection) (numbers : Numbers c) (live : c.live ≡ true) where
  -- The block before one that is 1 to L after an anchor belongs to the connection. It is said of the next list, as block 0 has none before it.
  owned_before : (b j : ℕ) → 1 ≤ j → j ≤ c.length → b % factor c ≡ (c.anchor + j) % factor c → owns c (b + (list_blocks - 1)) ≡ true
  unfolding owns
  owned_before b j from to e =
      let F = factor c in
      let i = c.anchor + (j - 1) in
      let next : c.anchor + j + 511 ≡ i + 512 = omega arith in
      let round : (n : ℕ) → n % 512 % F ≡ n % F = λ n. factor_mod c n depth (within_depth numbers.deep) in
      let q : (b + 511) % F ≡ i % F =
      rw (← mod-add-mod b F 511, e, mod-add-mod (c.anchor + j) F 511, next) (sym (round (i + 512)) ∙ ap (λ (n : ℕ). n % F) (add-mod_right i 512) ∙ round i) in
      rw live ((belongs_congruent c (b + 511)).1 (j - 1, omega arith, q))

  -- The first block of a run is one of it.
  first_owned : (b : ℕ) → b % factor c ≡ c.anchor → owns c b ≡ true
  unfolding owns
  first_owned b e = rw live ((belongs_congruent c b).1 (0, omega arith, rw (add-zero c.anchor, mod-eq_of_lt numbers.anchored) e))

module _ (s : Schedule) (good : Good s) (b x : ℕ) (live : is_live s x ≡ true) (wanted : Wants (connection s x) b) where
  before_wanted : owns (connection s x) (b + (list_blocks - 1)) ≡ true
  before_wanted =
      let numbers = (good_sound s good).numbers x live in
      owned_before (connection s x) numbers live b (connection s x).length (omega arith) (omega arith) wanted

  -- A block of the class that x wants, where it belongs to another connection, is the first of a run: the one before it belongs to x.
  pub wanted_first : (y : ℕ) → x ≢ y → owns (connection s y) b ≡ true → b % factor (connection s y) ≡ (connection s y).anchor
  wanted_first y n o =
      let c = connection s y in
      let p = owns_parts c b o in
      let w = (belongs_congruent c b).0 p.1 in
      let numbers = (good_sound s good).numbers y p.0 in
      by_cases (ℕ_discrete w.0 0)
      (λ q. w.2 ∙ rw (q, add-zero c.anchor) (mod-eq_of_lt numbers.anchored))
      (λ q. absurd (n ((good_sound s good).apart_ever _ x y before_wanted (owned_before c numbers p.0 b w.0 (omega arith) (omega arith) w.2))))

-- No block is of the classes that two want: the one before it would belong to both.
pub wanted_once : (s : Schedule) → Good s → (b x y : ℕ) → is_live s x ≡ true → is_live s y ≡ true
    → Wants (connection s x) b → Wants (connection s y) b → x ≡ y
wanted_once s good b x y l m v w = (good_sound s good).apart_ever _ x y (before_wanted s good b x l v) (before_wanted s good b y m w)

-- ---- the room of another connection
abbrev room : Schedule → Connection → Bool
room s c = room_to_grow (taken s.connections) c

-- Where s and t differ in the length and estimate of y only, x has room in t if it has in s: y has the first blocks of its runs in both.
room_kept : (s t : Schedule) → Good s → Good t → (x y : ℕ) → x ≢ y → is_live t x ≡ true
    → ((j : ℕ) → j ≢ y → connection t j ≡ connection s j) → metered (connection t y) 0 0 ≡ metered (connection s y) 0 0
    → room s (connection t x) ≡ true → room t (connection t x) ≡ true
room_kept s t good good' x y n live same rest r =
    let c = connection t x in
    let deep = within_depth ((good_sound t good').numbers x live).deep in
    let none = (room_ever s good c deep).0 r in
    (room_ever t good' c deep).1 (λ b h m. is_false (owns (connection t h) b) (λ o.
    by_cases (ℕ_discrete h y)
    (λ q.
    let its : owns (connection t y) b ≡ true = rw q at o in
    let first = subst (λ (d : Connection). b % factor d ≡ d.anchor) rest (wanted_first t good' b x live m y n its) in
    let lives = subst (λ (d : Connection). d.live ≡ true) rest (owns_parts (connection t y) b its).0 in
    false≢true (sym (none b y m) ∙ first_owned (connection s y) ((good_sound s good).numbers y lives) lives b first))
    (λ q. false≢true (sym (none b h m) ∙ ap (λ (d : Connection). owns d b) (sym (same h q)) ∙ o))))

module _ (s : Schedule) (good : Good s) (y sample : ℕ) where
  -- Of its own connection a report changes the length and the estimate only.
  report_rest : metered (connection (report s y sample).schedule y) 0 0 ≡ metered (connection s y) 0 0
  unfolding report_done
  report_rest =
      report_cases s y sample (λ o. metered (connection o.schedule y) 0 0 ≡ metered (connection s y) 0 0) (λ why. refl)
      (λ r. ap (λ (c : Connection). metered c 0 0) (set_same s good y r.handle (new s good y sample r)))

  -- A report of y leaves the room to grow of every other live connection as it was.
  pub room_alone : (x : ℕ) → x ≢ y → is_live s x ≡ true → room (report s y sample).schedule (connection s x) ≡ room s (connection s x)
  room_alone x n live =
      let t = (report s y sample).schedule in
      let good' = report_good s good y sample in
      let same = report_others s good y sample in
      bool_iff (room t (connection s x)) (room s (connection s x))
      (room_kept t s good' good x y n live (λ j d. sym (same j d)) (sym report_rest))
      (subst (λ (c : Connection). room s c ≡ true → room t c ≡ true) (same x n)
      (room_kept s t good good' x y n (report_lives s good y sample x ∙ live) same report_rest))

-- ---- one report and another
-- What a report says and the connection that it leaves: where it passes its checks, by the old one and its room to grow;
abbrev passed : Connection → ℕ → Bool → Answer × Connection
passed c sample r = (change c.length (aim c sample) r, metered c (new_length c.length (aim c sample) r) (moved c.estimate sample))

-- and whether it passes them or not.
told : Schedule → ℕ → ℕ → Answer × Connection
told s h sample = decided (report_checks s h sample) (λ n. (refused n, connection s h)) (passed (connection s h) sample (room s (connection s h)))

abbrev leaving : Schedule → ℕ → Answer × Connection → Outcome
leaving s h w = record { answer = w.0; schedule = with_connection s h w.1 }

-- A report sets the connection of its handle; one that is refused, to what it was.
report_told : (s : Schedule) → Good s → (h sample : ℕ) → report s h sample ≡ leaving s h (told s h sample)
unfolding report report_done report_answer report_length told with_connections
report_told s good h sample =
    let c = connection s h in
    let same : with_connection s h c ≡ s =
    ap (with_connections s) (set-get_or s.connections h nobody)
    ∙ ap (λ (l : List ℕ). record { connections = s.connections; tree = record { bytes = l } }) (sym good.has_tree) in
    ap (λ (t : Schedule). decided (report_checks s h sample) (refusing t) (report_done s h sample)) (sym same)
    ∙ sym (decided_map (leaving s h) (report_checks s h sample) (λ n. (refused n, c)) (passed c sample (room s c)))

module _ (s : Schedule) (good : Good s) (x y a b : ℕ) (n : x ≢ y) where
  abbrev next : Schedule
  next = (report s y b).schedule

  told_alone : told next x a ≡ told s x a
  unfolding told decided
  told_alone = go (is_live s x) refl
    where
      go : (v : Bool) → is_live s x ≡ v → told next x a ≡ told s x a
      go true e = rw (report_lives s good y b x, report_others s good y b x n, room_alone s good y b x n e)
      go false e = rw (report_lives s good y b x, e, report_others s good y b x n)

  second : report next x a ≡ leaving next x (told s x a)
  second = report_told next (report_good s good y b) x a ∙ ap (leaving next x) told_alone

  -- A report of y changes nothing of what a report of x answers.
  pub report_answer_alone : (report (report s y b).schedule x a).answer ≡ (report s x a).answer
  report_answer_alone = ap (λ (o : Outcome). o.answer) second ∙ ap (λ (o : Outcome). o.answer) (sym (report_told s good x a))

  both_set : (report next x a).schedule ≡ with_connections s (set (set s.connections y (told s y b).1) x (told s x a).1)
  unfolding with_connections
  both_set = ap (λ (o : Outcome). o.schedule) second ∙ ap (λ (o : Outcome). with_connection o.schedule x (told s x a).1) (report_told s good y b)

-- Reports of different handles leave the same schedule in either order.
pub reports_commute : (s : Schedule) → Good s → (x y a b : ℕ) → x ≢ y
    → (report (report s y b).schedule x a).schedule ≡ (report (report s x a).schedule y b).schedule
reports_commute s good x y a b n =
    let m : y ≢ x = λ e. n (sym e) in
    both_set s good x y a b n ∙ ap (with_connections s) (set_comm s.connections y x (told s y b).1 (told s x a).1 m) ∙ sym (both_set s good y x b a m)

-- So two neighbours of a list that are of different handles may change places: the schedule after the list is the same.
pub neighbours_swap : (s : Schedule) → Good s → (before : List Report) (x y : Report) (later : List Report) → x.handle ≢ y.handle
    → after_reports s (before ++ x ∷ y ∷ later) ≡ after_reports s (before ++ y ∷ x ∷ later)
unfolding after_reports
neighbours_swap s good before x y later n =
    after_append s before (x ∷ y ∷ later)
    ∙ ap (λ (t : Schedule). after_reports t later) (reports_commute (after_reports s before) (after_good s before good) y.handle x.handle y.sample x.sample (λ e. n (sym e)))
    ∙ sym (after_append s before (y ∷ x ∷ later))
