-- What a command leaves.
use mathlib.Core.Path.{◌≡◌, ◌∙◌, subst⁻¹}
use Rattle.rules.specs.declared.Schedule.{Schedule}
use Rattle.rules.specs.declared.Command.{Command}
use Rattle.rules.specs.declared.Reply.{Reply}
use Rattle.rules.specs.declared.Done.{Done}
use Rattle.rules.specs.Good.{Good}
use Rattle.rules.specs.Answers.{of_reply, outcome}
use Rattle.rules.specs.Obey.{obey}
use Rattle.command.specs.Promises.{OwnKind, Obeys}

-- By the command that it is.
pub obeyed_as : {s : Schedule} {c d : Command} {r : Done Reply} → c ≡ d → Obeys s d r → Obeys s c r
obeyed_as {s} {c} {d} {r} e p = subst⁻¹ (λ (x : Command). Obeys s x r) e p

-- By what a call has done, its answer as a reply.
pub replied : {A : Type 0} {s : Schedule} (c : Command) (kind : A → Reply) (done : Done A) (r : Done Reply)
    → r.answer ≡ kind done.answer → r.schedule ≡ done.schedule
    → outcome (λ (a : A). of_reply (kind a)) done ≡ obey s c → OwnKind c (kind done.answer) → Good done.schedule → Obeys s c r
replied c kind done r a t is own good =
    record {
      is = (λ i. record { answer = of_reply (a i); schedule = t i }) ∙ is;
      own = subst⁻¹ (OwnKind c) a own;
      good = subst⁻¹ Good t good;
    }
