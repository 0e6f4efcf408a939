-- The law of the promise.
use mathlib.Core.Path.{◌≡◌, sym, ap, ◌∙◌}
use mathlib.Core.Bool.{false≢true}
use mathlib.Core.List.{List}
use Prim.Native.Nat.{ℕ}
use Rattle.std.specs.Prelude.{Result, Ok, Err}
use Rattle.rules.specs.declared.Refusal.{Refusal}
use Rattle.calls.proofs.AnswerLaws.{number_injective}
use Rattle.frame.specs.Promises.{of_frame, Frames}

-- Two answers that meet the statement are equal.
pub framed_unique : (bytes : List ℕ) (a b : Result ℕ Refusal) → Frames bytes (of_frame a) → Frames bytes (of_frame b) → a ≡ b
framed_unique bytes (Ok m) (Ok n) p q = ap Ok (sym p.counts ∙ q.counts)
framed_unique bytes (Ok m) (Err e) p q = absurd (false≢true (sym p.right ∙ q.1))
framed_unique bytes (Err d) (Ok n) p q = absurd (false≢true (sym q.right ∙ p.1))
framed_unique bytes (Err d) (Err e) p q = ap Err (number_injective d e (p.0 ∙ sym q.0))
