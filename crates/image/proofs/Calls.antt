-- The laws of the calls: what follows from a promise, whatever the code.
use mathlib.Core.Path.{◌≡◌, sym, ap, ◌∙◌}
use mathlib.Core.List.{List}
use Prim.Native.Nat.{ℕ, ◌^◌, ◌<◌}
use native.Mathlib.Omega.{arith}
use Rattle.rules.specs.declared.Schedule.{Schedule}
use Rattle.std.specs.Prelude.{Result}
use Rattle.rules.specs.declared.Refusal.{Refusal}
use Rattle.rules.specs.declared.Done.{Done}
use Rattle.rules.specs.Answers.{Outcome, Written, refused, saved, of_saving, of_loading, outcome}
use Rattle.rules.specs.Good.{Good}
use Rattle.calls.proofs.AnswerLaws.{saving_injective, loading_injective, done_injective}
use Rattle.images.proofs.ImageLaws.{image_bounds}
use Rattle.images.proofs.SaveLaws.{save_size}
use Rattle.images.proofs.LoadLaws.{load_keeps}
use Rattle.image.specs.Promises.{Saves, Loads}

-- Two outcomes that meet a call's statement are equal, the buffer too.
pub save_unique : (s : Schedule) (buffer x y : List ℕ) (a b : Result ℕ Refusal) → Saves s buffer x a → Saves s buffer y b → (a ≡ b) × (x ≡ y)
save_unique s buffer x y a b p q =
    let e = p ∙ sym q in
    (saving_injective a b (ap (λ (w : Written). w.answer) e), ap (λ (w : Written). w.buffer) e)

pub load_unique : (s : Schedule) (bytes : List ℕ) (a b : Done (Result ℕ Refusal)) → Loads s bytes a → Loads s bytes b → a ≡ b
load_unique s bytes a b p q = done_injective of_loading loading_injective a b (p.is ∙ sym q.is)

-- A refused load leaves the schedule as it was.
pub load_refusal : (s : Schedule) (bytes : List ℕ) (r : Done (Result ℕ Refusal)) → Loads s bytes r → (n : ℕ) → (outcome of_loading r).answer ≡ refused n → r.schedule ≡ s
load_refusal s bytes r p n e =
    ap (λ (o : Outcome). o.schedule) p.is
    ∙ load_keeps s bytes n (ap (λ (o : Outcome). o.answer) (sym p.is) ∙ e)

-- The size that a save answers fits in 32 bits: an image has 1,290 bytes at most.
pub saved_fits : (s : Schedule) → Good s → (before after : List ℕ) (a : Result ℕ Refusal) → Saves s before after a → (n : ℕ) → of_saving a ≡ saved n → n < 2 ^ 32
saved_fits s good before after a p n e =
    omega (arith, save_size s before n (sym (ap (λ (w : Written). w.answer) p) ∙ e), (image_bounds s good.places).1)
