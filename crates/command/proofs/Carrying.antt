-- A line carried out.
use Rattle.std.specs.Prelude.{Option, Some, None}
use mathlib.Core.Path.{◌≡◌, refl, sym, subst, ap, ◌∙◌}
use mathlib.Core.List.{List}
use Prim.Native.Nat.{ℕ, ◌+◌, ◌*◌, ◌≤◌}
use native.Mathlib.Omega.{arith}
use lib.ListN.{length}
use Rattle.rules.specs.declared.Schedule.{Schedule}
use Rattle.rules.specs.declared.Command.{Command}
use Rattle.rules.specs.declared.Reply.{Reply}
use Rattle.rules.specs.declared.Done.{Done}
use Rattle.rules.specs.Good.{Good}
use Rattle.rules.specs.Answers.{of_reply}
use Rattle.rules.specs.Text.{text}
use Rattle.rules.specs.Words.{words_of, longest_answer}
use Rattle.rules.specs.Commands.{says}
use Rattle.rules.specs.Program.{Printed, carried_out}
use Rattle.texts.proofs.CommandLaws.{says_only, line_length}
use Rattle.text.specs.Promises.{Puts}
use Rattle.command.specs.Promises.{Obeys, Carries}
use Rattle.answer.specs.Promises.{PutsLine, PutsAnswer}

-- A command is as long as its answer needs.
pub room_said : (line : List ℕ) (c : Command) → says line ≡ Some c → longest_answer ≤ 4 * (length line + 1)
room_said line c e = omega (arith, ap (λ (l : List ℕ). length l) (says_only line c e).0, line_length c)

module _ (s : Schedule) (line entry exit : List ℕ) (start next : ℕ) where
  -- What a line prints and leaves, by what it says.
  carried_as : {l : Option Command} {p : Printed} {after : Schedule} → says line ≡ l → carried_out s l ≡ p → after ≡ p.schedule → Good after
      → PutsLine entry start p.words exit next → next ≤ start + 4 * (length line + 1) → Carries s line entry start exit after next
  carried_as {l} {p} {after} e h q good puts room =
      let same : p ≡ carried_out s (says line) = sym (ap (carried_out s) e ∙ h) in
      record {
        prints = subst (λ (x : Printed). PutsLine entry start x.words exit next) same puts;
        leaves = q ∙ ap (λ (x : Printed). x.schedule) same;
        good = good;
        room = room;
      }

  -- "a bad line changes nothing"
  pub carried_bad : Good s → says line ≡ None → Puts entry start (text "bad\n") exit next → Carries s line entry start exit s next
  unfolding carried_out
  carried_bad good e puts = carried_as e refl refl good puts (omega (arith, puts.ends))

  -- A command prints its answer.
  pub carried_said : (c : Command) (r : Done Reply) → says line ≡ Some c → Obeys s c r → PutsAnswer entry start (of_reply r.answer) exit next
      → Carries s line entry start exit r.schedule next
  unfolding carried_out
  carried_said c r e o puts =
      carried_as e
      (λ i. record { words = words_of (sym o.is i).answer; schedule = (sym o.is i).schedule })
      refl o.good puts.line (omega (arith, room_said line c e, puts.room))
