-- The definitions are not empty: good schedules, and schedules that are not good for one slip.
use mathlib.Core.Path.{◌≡◌, refl, sym, ap, subst⁻¹, ◌∙◌}
use mathlib.Core.Bool.{true, false≢true}
use mathlib.Core.Logic.{◌≢◌}
use mathlib.Core.List.{List, [], ◌∷◌, ◌++◌}
use Prim.Native.Nat.{ℕ, ◌*◌, ◌<◌}
use native.Mathlib.Omega.{arith}
use lib.Dec.{lit<}
use lib.ListN.{replicate, set}
use Rattle.rules.specs.declared.Connection.{Connection}
use Rattle.rules.specs.declared.Schedule.{Schedule}
use Rattle.rules.specs.Below.{tabulate}
use Rattle.rules.specs.Ownership.{handles, factor, nobody, taken}
use Rattle.rules.specs.TreeBytes.{tree_bytes, bit_at}
use Rattle.rules.specs.Sound.{sound_connections, sound}
use Rattle.rules.specs.Good.{Good, tree_for, fresh, with_connections, with_connection}
use Rattle.rules.specs.Nodes.{node_bit}
use Rattle.rules.specs.Answers.{Outcome, refusing, ok, grown, loaded}
use Rattle.rules.specs.Handles.{connection}
use Rattle.rules.specs.Admit.{admit}
use Rattle.rules.specs.Report.{report}
use Rattle.rules.specs.Image.{image}
use Rattle.rules.specs.Load.{load}
use Rattle.rules.proofs.Readings.{single, treeless}
use Rattle.blocks.proofs.TreeLaws.{tree_bit}
use Rattle.blocks.proofs.SoundLaws.{connected_good}
use Rattle.blocks.proofs.ScheduleLaws.{fresh_is_good}
use Rattle.calls.proofs.HalfLaws.{above_not_admitted}
use Rattle.calls.proofs.EachLaws.{live_count}
use Rattle.images.proofs.ImageLaws.{load_image}

-- ---- good schedules
-- 64 connections, each with one block in 64.
pub houseful : List Connection
unfolding tabulate
houseful = tabulate handles (λ h. single 6 h 5000)

pub house : Schedule
house = with_connections fresh houseful

pub house_is_good : Good house
unfolding house houseful sound_connections
house_is_good = connected_good fresh houseful refl refl

-- One connection, of handle 0.
pub only : Connection → Schedule
only c = with_connection fresh 0 c

only_good : (c : Connection) → sound_connections (set (replicate handles nobody) 0 c) ≡ true → Good (only c)
unfolding only fresh
only_good c e = connected_good fresh (set (replicate handles nobody) 0 c) refl e

-- F 4, anchor 3, L 2: its run goes round the end of the cycle, to blocks 3 and 0.
pub round : Connection
round = record { live = true; k = 2; anchor = 3; length = 2; floor = 2; ceiling = 2; estimate = 12500 }

pub round_is_good : Good (only round)
unfolding round sound_connections
round_is_good = only_good round refl

-- The largest factor: a connection of F 256.
pub slow_is_good : Good (only (single 8 0 5000))
unfolding sound_connections
slow_is_good = only_good (single 8 0 5000) refl

-- Two that no admission leads to, as "connections in older images stay": F 1 alone, and F 4 with a ceiling of 3.
pub whole_is_good : Good (only (single 0 0 5000))
unfolding sound_connections
whole_is_good = only_good (single 0 0 5000) refl

pub three_quarters : Connection
three_quarters = record { live = true; k = 2; anchor = 0; length = 2; floor = 2; ceiling = 3; estimate = 12500 }

pub three_quarters_is_good : Good (only three_quarters)
unfolding three_quarters sound_connections
three_quarters_is_good = only_good three_quarters refl

pub not_admitted : (s : Schedule) → Good s → (h lo hi f c F A L : ℕ) → (admit s h lo hi f c).answer ≡ ok F A L
    → (connection (admit s h lo hi f c).schedule h ≡ single 0 0 5000 → ⊥) × (connection (admit s h lo hi f c).schedule h ≡ three_quarters → ⊥)
unfolding three_quarters
not_admitted s good h lo hi f c F A L a =
    let never = above_not_admitted s good h lo hi f c F A L a in
    let Above : Connection → Type 0 = λ x. factor x < 2 * x.ceiling in
    (λ e. never (subst⁻¹ Above e (lit< tt)), λ e. never (subst⁻¹ Above e (lit< tt)))

-- The largest estimate: L × 7,500.
pub full_estimate_is_good : Good (only (single 3 5 7500))
unfolding sound_connections
full_estimate_is_good = only_good (single 3 5 7500) refl

-- ---- schedules that are not good
-- Any good schedule with a node's bit flipped.
pub flipped_is_not_good : (s : Schedule) → Good s → (bytes : List ℕ) (n : ℕ) → bit_at bytes n ≢ bit_at s.tree.bytes n → Good (record { connections = s.connections; tree = record { bytes = bytes } }) → ⊥
flipped_is_not_good s g bytes n differs f = differs (ap (λ (l : List ℕ). bit_at l n) (f.has_tree ∙ sym g.has_tree))

-- The fresh one with the bit of its root set.
pub rooted_is_not_good : Good (record { connections = replicate handles nobody; tree = record { bytes = set (replicate tree_bytes 0) 0 2 } }) → ⊥
unfolding fresh tree_for node_bit
rooted_is_not_good =
    flipped_is_not_good fresh fresh_is_good (set (replicate tree_bytes 0) 0 2) 1
    (λ e. false≢true (sym (tree_bit (taken (replicate handles nobody)) 1 (omega arith)) ∙ sym e))

-- Two connections on one anchor.
pub shared : Schedule
shared = with_connection (with_connection fresh 0 (single 3 5 5000)) 1 (single 3 5 5000)

pub shared_is_not_good : Good shared → ⊥
unfolding shared fresh sound with_connections
shared_is_not_good g = false≢true g.is_sound

-- A connection of F 512.
pub slower_is_not_good : Good (only (single 9 0 5000)) → ⊥
unfolding only fresh sound with_connections
slower_is_not_good g = false≢true g.is_sound

-- An estimate one above L × 7,500.
pub over_is_not_good : Good (only (single 3 5 7501)) → ⊥
unfolding only fresh sound with_connections
over_is_not_good g = false≢true g.is_sound

-- ---- images, and bytes that load refuses
-- The image of a full house is accepted.
pub house_is_loaded : (s : Schedule) → (load s (image house)).answer ≡ loaded 64
unfolding house houseful with_connections live_count
house_is_loaded s = ap (λ (o : Outcome). o.answer) (load_image s house house_is_good.places house_is_good.is_sound)

-- And that of one logger of F 256.
pub slow_is_loaded : (s : Schedule) → (load s (image (only (single 8 0 5000)))).answer ≡ loaded 1
unfolding only fresh with_connections live_count
slow_is_loaded s = ap (λ (o : Outcome). o.answer) (load_image s (only (single 8 0 5000)) slow_is_good.places slow_is_good.is_sound)

-- And those of F 1, and of F 4 with a ceiling of 3, which then grows to more than half.
pub whole_is_loaded : (s : Schedule) → (load s (image (only (single 0 0 5000)))).answer ≡ loaded 1
unfolding only fresh with_connections live_count
whole_is_loaded s = ap (λ (o : Outcome). o.answer) (load_image s (only (single 0 0 5000)) whole_is_good.places whole_is_good.is_sound)

pub three_quarters_is_loaded : (s : Schedule) → (load s (image (only three_quarters))).answer ≡ loaded 1
unfolding three_quarters only fresh with_connections live_count
three_quarters_is_loaded s =
    ap (λ (o : Outcome). o.answer) (load_image s (only three_quarters) three_quarters_is_good.places three_quarters_is_good.is_sound)

pub three_quarters_grows : (report (only three_quarters) 0 15000).answer ≡ grown 3
unfolding three_quarters only fresh with_connections report
three_quarters_grows = refl

-- 9: a byte is left over.
pub left_over_is_9 : (s : Schedule) → load s (treeless [] ++ (0 ∷ [])) ≡ refusing s 9
unfolding treeless load
left_over_is_9 s = refl

-- 10: an estimate one above L × 7,500.
pub over_is_10 : (s : Schedule) → load s (treeless (single 3 5 7501 ∷ [])) ≡ refusing s 10
unfolding treeless load
over_is_10 s = refl

-- 18: one logger of F 512, with its tree.
pub slower_is_18 : (s : Schedule) → load s (image (only (single 9 0 5000))) ≡ refusing s 18
unfolding only fresh with_connections image load
slower_is_18 s = refl

-- 11: two connections on one anchor.
pub shared_is_11 : (s : Schedule) → load s (treeless (single 3 5 5000 ∷ single 3 5 5000 ∷ [])) ≡ refusing s 11
unfolding treeless load
shared_is_11 s = refl

-- 12: the tree of no connection.
pub treeless_is_12 : (s : Schedule) → load s (treeless (single 3 5 5000 ∷ [])) ≡ refusing s 12
unfolding treeless load
treeless_is_12 s = refl
