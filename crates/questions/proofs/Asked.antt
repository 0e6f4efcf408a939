-- Two answers that meet a question's statement are equal.
use mathlib.Core.Path.{◌≡◌, sym, ◌∙◌}
use Prim.Native.Nat.{ℕ}
use Rattle.rules.specs.declared.Schedule.{Schedule}
use Rattle.std.specs.Prelude.{Option, Result}
use Rattle.rules.specs.declared.Refusal.{Refusal}
use Rattle.calls.proofs.AnswerLaws.{ownership_injective, distance_injective}
use Rattle.questions.specs.Promises.{OwnerSays, AnchorSays}

pub owner_unique : (s : Schedule) (block : ℕ) (a b : Option ℕ) → OwnerSays s block a → OwnerSays s block b → a ≡ b
owner_unique s block a b p q = ownership_injective a b (p ∙ sym q)

pub anchor_unique : (s : Schedule) (handle block : ℕ) (a b : Result ℕ Refusal) → AnchorSays s handle block a → AnchorSays s handle block b → a ≡ b
anchor_unique s handle block a b p q = distance_injective a b (p ∙ sym q)
