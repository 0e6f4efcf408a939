-- The laws of the call: what follows from its promise, whatever the code.
use mathlib.Core.Path.{◌≡◌, sym, ◌∙◌}
use mathlib.Core.List.{List}
use Prim.Native.Nat.{ℕ}
use Rattle.rules.specs.declared.Schedule.{Schedule}
use Rattle.std.specs.Prelude.{Result}
use Rattle.rules.specs.declared.Refusal.{Refusal}
use Rattle.rules.specs.declared.Done.{Done}
use Rattle.calls.proofs.AnswerLaws.{tidied_injective}
use Rattle.tidy.specs.Promises.{Tidies}

-- Two outcomes that meet the statement are equal, the lists too.
pub tidy_unique : (s : Schedule) (list x y : List ℕ) (a b : Done (Result ℕ Refusal)) → Tidies s list x a → Tidies s list y b → (a ≡ b) × (x ≡ y)
tidy_unique s list x y a b p q = tidied_injective a b x y (p.is ∙ sym q.is)
