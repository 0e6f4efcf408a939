-- The laws of the promise.
use mathlib.Core.Path.{◌≡◌, sym, ap, ◌∙◌}
use mathlib.Core.List.{List, ◌++◌}
use Prim.Native.Nat.{ℕ, ◌-◌, ◌≤◌}
use native.Mathlib.Omega.{arith}
use lib.ListN.{length, replicate, length-append}
use Rattle.rules.specs.declared.Schedule.{Schedule}
use Rattle.rules.specs.declared.Command.{Command}
use Rattle.rules.specs.declared.Command.TheVariants.{Admit, AdmitRange, Drop, Report, Owner, Anchor}
use Rattle.rules.specs.declared.Reply.{Reply}
use Rattle.rules.specs.declared.Reply.TheVariants.{Admission as ReplyAdmission, Dropping as ReplyDropping, Reporting as ReplyReporting, Ownership as ReplyOwnership, Distance as ReplyDistance}
use Rattle.rules.specs.declared.Done.{Done}
use Rattle.rules.specs.Answers.{Outcome, of_reply, outcome}
use Rattle.rules.specs.Program.{most_output, program}
use Rattle.calls.proofs.AnswerLaws.{admission_injective, dropping_injective, reporting_injective, ownership_injective, distance_injective}
use Rattle.command.specs.declared.Output.{Output}
use Rattle.command.specs.Promises.{OwnKind, Obeys, Runs}

-- The count lies within the bytes.
pub runs_within : {input : List ℕ} {r : Output} → Runs input r → r.count ≤ length r.bytes
runs_within {input} {r} h = omega (arith, h.count, ap (λ (x : List ℕ). length x) h.bytes, length-append (program input) (replicate (most_output - r.count) 0))

-- Two outputs that meet the promise are equal.
pub run_unique : {input : List ℕ} (r q : Output) → Runs input r → Runs input q → r ≡ q
run_unique {input} r q f g =
    let n : r.count ≡ q.count = f.count ∙ sym g.count in
    let b : r.bytes ≡ q.bytes = f.bytes ∙ ap (λ (k : ℕ). program input ++ replicate (most_output - k) 0) n ∙ sym g.bytes in
    λ i. record { bytes = b i; count = n i }

-- Two outcomes of one kind are equal where the answers and schedules that they stand for are.
module _ (r q : Done Reply) (e : outcome of_reply r ≡ outcome of_reply q) where
  of_kind : {A : Type 0} (kind : A → Reply) → ((a b : A) → of_reply (kind a) ≡ of_reply (kind b) → a ≡ b)
      → (a : A) × (r.answer ≡ kind a) → (b : A) × (q.answer ≡ kind b) → r ≡ q
  of_kind kind back f g =
      let a : of_reply (kind f.0) ≡ of_reply (kind g.0) = ap of_reply (sym f.1) ∙ ap (λ (o : Outcome). o.answer) e ∙ ap of_reply g.1 in
      let same : r.answer ≡ q.answer = f.1 ∙ ap kind (back f.0 g.0 a) ∙ sym g.1 in
      λ i. record { answer = same i; schedule = (e i).schedule }

  kind_unique : (c : Command) → OwnKind c r.answer → OwnKind c q.answer → r ≡ q
  kind_unique (Admit handle interval floor ceiling) = of_kind ReplyAdmission admission_injective
  kind_unique (AdmitRange handle smallest largest floor ceiling) = of_kind ReplyAdmission admission_injective
  kind_unique (Drop handle) = of_kind ReplyDropping dropping_injective
  kind_unique (Report handle sample) = of_kind ReplyReporting reporting_injective
  kind_unique (Owner block) = of_kind ReplyOwnership ownership_injective
  kind_unique (Anchor handle block) = of_kind ReplyDistance distance_injective

-- So are two that meet a command's promise.
pub obey_unique : (s : Schedule) (c : Command) (r q : Done Reply) → Obeys s c r → Obeys s c q → r ≡ q
obey_unique s c r q f g = kind_unique r q (f.is ∙ sym g.is) c f.own g.own
