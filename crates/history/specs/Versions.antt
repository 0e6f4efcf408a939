-- Versions that are shut out: the rule sheet's six, four that answer nearly as they should, one that still admits F 512 and one that still restores it, one
-- that tidies halfway and one that tidies by admitting anew, one that reads the cap off the floor, and one that refuses everything with 1. Each is a step
-- function.
use Rattle.std.specs.Prelude.{ℕ, ◌+◌, ◌%◌, ◌^◌, ◌≡◌, Bool, true, false, cond, ◌&&◌, List, [], ◌∷◌, ◌++◌, map, eqb, set, get_or, length, replicate, take, drop}
use Rattle.std.proofs.Math.Option.{Option-elim}
use Rattle.rules.specs.declared.Schedule.{Schedule}
use Rattle.rules.specs.declared.Connection.{Connection}
use Rattle.rules.specs.declared.Report.{Report as ReportOfList}
use Rattle.rules.specs.declared.Refusal.TheVariants.{HandleAbove63, CeilingAboveHalf}
use Rattle.rules.specs.Below.{is_none}
use Rattle.rules.specs.Ownership.{free_slots, at}
use Rattle.rules.specs.Good.{with_connections, with_connection}
use Rattle.rules.specs.Refusals.{number, check, decided}
use Rattle.rules.specs.Handles.{connection, is_live}
use Rattle.rules.specs.Answers.{Answer, refusing, refused, ok, dropped, kept, grown, shrunk, tight, owner, idle, slots, saved, loaded, reported, message, wrote, tidied}
use Rattle.rules.specs.Admit.{in_range, k_for, ceiling_above_half, new_connection, anchor_for, admit_checks, admit_done}
use Rattle.rules.specs.Drop.{drop_handle}
use Rattle.rules.specs.Report.{metered}
use Rattle.rules.specs.Load.{load_checks, load_done}
use Rattle.rules.specs.Tidy.{tidy_order, placed_next, with_anchor, arranged}
use Rattle.history.specs.Calls.{Bytes, Call, Admit, Drop, Report, Reports, Owner, Anchor, Save, Load, Tidy, Request, Result, beside, written, ruled_call, ruled}
use Rattle.history.specs.Runs.{StepFunction}

-- ---- the rule's result, but for one kind of call
abbrev on_admit : (ℕ → ℕ → ℕ → ℕ → ℕ → Result → Result) → Call → Result → Result
on_admit f (Admit x lo hi floor ceiling) it = f x lo hi floor ceiling it
on_admit f (Drop x) it = it
on_admit f (Report x sample) it = it
on_admit f (Reports reports) it = it
on_admit f (Owner b) it = it
on_admit f (Anchor x b) it = it
on_admit f Save it = it
on_admit f (Load bytes) it = it
on_admit f Tidy it = it

abbrev on_drop : (Result → Result) → Call → Result → Result
on_drop f (Admit x lo hi floor ceiling) it = it
on_drop f (Drop x) it = f it
on_drop f (Report x sample) it = it
on_drop f (Reports reports) it = it
on_drop f (Owner b) it = it
on_drop f (Anchor x b) it = it
on_drop f Save it = it
on_drop f (Load bytes) it = it
on_drop f Tidy it = it

-- A list of reports is a report of each.
abbrev on_each : (ℕ → Result → Result) → List ReportOfList → Result → Result
on_each f [] it = it
on_each f (r ∷ reports) it = on_each f reports (f r.handle it)

abbrev on_report : (ℕ → Result → Result) → Call → Result → Result
on_report f (Admit x lo hi floor ceiling) it = it
on_report f (Drop x) it = it
on_report f (Report x sample) it = f x it
on_report f (Reports reports) it = on_each f reports it
on_report f (Owner b) it = it
on_report f (Anchor x b) it = it
on_report f Save it = it
on_report f (Load bytes) it = it
on_report f Tidy it = it

abbrev on_owner : (Result → Result) → Call → Result → Result
on_owner f (Admit x lo hi floor ceiling) it = it
on_owner f (Drop x) it = it
on_owner f (Report x sample) it = it
on_owner f (Reports reports) it = it
on_owner f (Owner b) it = f it
on_owner f (Anchor x b) it = it
on_owner f Save it = it
on_owner f (Load bytes) it = it
on_owner f Tidy it = it

abbrev on_image : (Result → Result) → (Bytes → Result → Result) → Call → Result → Result
on_image save load (Admit x lo hi floor ceiling) it = it
on_image save load (Drop x) it = it
on_image save load (Report x sample) it = it
on_image save load (Reports reports) it = it
on_image save load (Owner b) it = it
on_image save load (Anchor x b) it = it
on_image save load Save it = save it
on_image save load (Load bytes) it = load bytes it
on_image save load Tidy it = it

abbrev on_tidy : (Result → Result) → Call → Result → Result
on_tidy f (Admit x lo hi floor ceiling) it = it
on_tidy f (Drop x) it = it
on_tidy f (Report x sample) it = it
on_tidy f (Reports reports) it = it
on_tidy f (Owner b) it = it
on_tidy f (Anchor x b) it = it
on_tidy f Save it = it
on_tidy f (Load bytes) it = it
on_tidy f Tidy it = f it

-- ---- and for a part of it
abbrev accepted : Answer → Bool
accepted (refused n) = false
accepted (ok F A L) = true
accepted dropped = true
accepted (kept L) = true
accepted (grown L) = true
accepted (shrunk L) = true
accepted (tight L) = true
accepted (owner h) = true
accepted idle = true
accepted (slots n) = true
accepted (saved n) = true
accepted (loaded n) = true
accepted (reported n) = true
accepted (message m) = true
accepted (wrote n) = true
accepted (tidied n) = true

abbrev leaving : Schedule → Result → Result
leaving s it = record { answer = it.answer; schedule = s; lent = it.lent }

abbrev saying : Answer → Result → Result
saying a it = record { answer = a; schedule = it.schedule; lent = it.lent }

-- An accepted admission leaves another connection than it should.
abbrev storing : (Connection → Connection) → StepFunction
storing change s r =
    on_admit (λ x lo hi floor ceiling it. cond (accepted it.answer) (leaving (with_connection it.schedule x (change (connection it.schedule x))) it) it)
    r.call (ruled s r)

-- ---- the rule sheet's six
-- "one that refuses all": every step function that answers each call with some refusal.
abbrev pub RefusesAll : StepFunction → Type 0
RefusesAll step = (s : Schedule) (r : Request) → (n : ℕ) × ((step s r).answer ≡ refused n)

-- "one that gives every connection anchor 0"
abbrev pub anchors_zero : StepFunction
anchors_zero s r =
    on_admit (λ x lo hi floor ceiling it.
    cond (accepted it.answer) (saying (ok (2 ^ k_for lo hi) 0 floor) (leaving (with_connection s x (new_connection (k_for lo hi) 0 floor ceiling)) it)) it)
    r.call (ruled s r)

-- "one that does nothing on report or drop"
abbrev pub does_nothing : StepFunction
does_nothing s r = on_report (λ x. leaving s) r.call (on_drop (leaving s) r.call (ruled s r))

-- "one that schedules the first admission and invents the later answers": here handle 0's is the first.
abbrev pub invents_answers : StepFunction
invents_answers s r =
    on_admit (λ x lo hi floor ceiling it. cond (is_live s 0) (saying (ok (2 ^ k_for lo hi) 1 floor) (leaving s it)) it) r.call (ruled s r)

-- "one whose length is a made-up number": a thousand blocks.
abbrev pub makes_up_length : StepFunction
makes_up_length = storing (λ c. metered c 1000 c.estimate)

-- "one that ends a connection nobody dropped": whoever asks for an owner ends handle 0's.
abbrev pub ends_another : StepFunction
ends_another s r = on_owner (leaving (drop_handle s 0).schedule) r.call (ruled s r)

-- ---- nearly as it should be
-- An admission stores estimate 0.
abbrev pub starts_at_zero : StepFunction
starts_at_zero = storing (λ c. metered c c.length 0)

-- A report never stores the estimate.
abbrev pub forgets_estimate : StepFunction
forgets_estimate s r =
    on_report
    (λ x it. leaving (with_connection it.schedule x (metered (connection it.schedule x) (connection it.schedule x).length (connection s x).estimate)) it)
    r.call (ruled s r)

-- An admission stores the floor in the place of the ceiling.
abbrev capped : Connection → Connection
capped c =
    record { live = c.live; k = c.k; anchor = c.anchor; length = c.length; floor = c.floor; ceiling = c.floor; estimate = c.estimate }

abbrev pub never_grows : StepFunction
never_grows = storing capped

-- An accepted load leaves a mark where no rule looks, the bit of node 0; an accepted save of a schedule without it answers the right size and
-- writes other bytes.
abbrev first_byte : Schedule → ℕ
first_byte s = get_or s.tree.bytes 0 0

abbrev marked : Schedule → Schedule
marked s = record { connections = s.connections; tree = record { bytes = set s.tree.bytes 0 (first_byte s + 1) } }

abbrev marking : Result → Result
marking it = cond (accepted it.answer) (leaving (marked it.schedule) it) it

abbrev blanked : Result → Result
blanked it = written it.lent it.schedule (record { answer = it.answer; buffer = replicate (length it.lent.buffer) 0 })

abbrev pub loses_backups : StepFunction
loses_backups s r = on_image (λ it. cond (accepted it.answer && eqb (first_byte s % 2) 0) (blanked it) it) (λ bytes. marking) r.call (ruled s r)

-- ---- one that still admits F 512
-- An accepted admission whose range has 6 × 512 in it gets k 9.
abbrev pub admits512 : StepFunction
admits512 s r =
    on_admit (λ x lo hi floor ceiling it.
    cond (accepted it.answer && in_range lo hi 9)
    (saying (ok 512 (anchor_for s 9 floor) floor) (leaving (with_connection s x (new_connection 9 (anchor_for s 9 floor) floor ceiling)) it)) it)
    r.call (ruled s r)

-- ---- and one that still restores it
-- A load asks 9, 10, 11 and 12, as it did, and not 18.
abbrev pub restores512 : StepFunction
restores512 s r =
    on_image (λ it. it)
    (λ bytes it. beside it.lent (decided (take 2 (load_checks bytes.list) ++ drop 3 (load_checks bytes.list)) (refusing s) (load_done bytes.list)))
    r.call (ruled s r)

-- ---- one that tidies halfway
-- The connections of these handles, one after the other beside those placed: each has its new anchor, up to the first that finds none.
unfoldable halfway : List ℕ → List Connection → List Connection → List Connection
unfolding placed_next Option-elim
halfway [] placed cs = cs
halfway (h ∷ hs) placed cs =
    Option-elim (placed_next placed (at cs h)) cs (λ A. halfway hs (set placed h (with_anchor (at cs h) A)) (set cs h (with_anchor (at cs h) A)))

-- Where one finds no anchor a tidy is refused as it should be, and those already placed keep their new anchors.
unfoldable pub tidies_halfway : StepFunction
unfolding arranged tidy_order halfway with_connections ruled_call
tidies_halfway s r =
    let cs = s.connections in
    on_tidy (λ it. cond (is_none (arranged cs)) (leaving (with_connections s (halfway (tidy_order cs) free_slots cs)) it) it) r.call (ruled s r)

-- ---- and one that admits anew
-- An accepted tidy gives each connection the length and the estimate that an admission would give it.
abbrev afresh : Connection → Connection
afresh c = cond c.live (new_connection c.k c.anchor c.floor c.ceiling) c

abbrev pub tidies_afresh : StepFunction
tidies_afresh s r =
    on_tidy (λ it. cond (accepted it.answer) (leaving (with_connections it.schedule (map afresh it.schedule.connections)) it) it) r.call (ruled s r)

-- ---- one that reads the cap off the floor
-- An admission asks 1, 2, 4, 15, 5 and 6 as it should, and 20 of twice the floor.
abbrev pub caps_floor : StepFunction
caps_floor s r =
    on_admit (λ x lo hi floor ceiling it.
    let checks = admit_checks s x lo hi floor ceiling in
    let cap = check CeilingAboveHalf (ceiling_above_half floor (2 ^ k_for lo hi)) in
    beside it.lent (decided (take 5 checks ++ (cap ∷ drop 6 checks)) (refusing s) (admit_done s x (k_for lo hi) floor ceiling)))
    r.call (ruled s r)

-- ---- and one that refuses all, with a number that is not room's
-- Everything is refused with 1.
abbrev pub refuses_with_one : StepFunction
refuses_with_one s r = record { answer = refused (number HandleAbove63); schedule = s; lent = r.lent }
