-- A line performed, by what it asks for.
use mathlib.Core.Path.{◌≡◌, refl, sym, ap, ◌∙◌}
use mathlib.Core.List.{List, ◌++◌}
use Prim.Native.Nat.{ℕ, ◌≤◌}
use native.Mathlib.Omega.{arith}
use Rattle.rules.specs.declared.Schedule.{Schedule}
use Rattle.rules.specs.declared.Command.{Command}
use Rattle.rules.specs.declared.Refusal.{Refusal}
use Rattle.rules.specs.declared.Reply.{Reply}
use Rattle.rules.specs.declared.Done.{Done}
use Rattle.std.specs.Prelude.{Result}
use Rattle.rules.specs.Good.{Good}
use Rattle.rules.specs.Answers.{Outcome, of_reply, of_loading}
use Rattle.rules.specs.Text.{text}
use Rattle.rules.specs.Words.{words_of}
use Rattle.rules.specs.Program.{carried_out}
use Rattle.text.specs.Promises.{Puts, PutsWithin}
use Rattle.text.proofs.Putting.{puts_after, puts_as}
use Rattle.answer.specs.Promises.{PutsWords, PutsAnswer}
use Rattle.run.specs.Promises.{Starts}
use Rattle.state.specs.Promises.{PutsState}
use Rattle.image.specs.Promises.{Loads}
use Rattle.command.specs.Promises.{Obeys}
use Rattle.order.specs.Orders.{Order, command, fresh as fresh_order, save, state, bad, save_into, load as load_order, asks}
use Rattle.script.specs.Performing.{most_printed, image_line, saved_line, performed}
use Rattle.state.specs.State.{newline}
use Rattle.script.specs.Promises.{Performs}

module _ {s : Schedule} {line entry exit : List ℕ} {n : ℕ} where
  acted : {o : Order} {after : Schedule} → asks line ≡ o → Puts entry 0 (performed s o).words exit n → n ≤ most_printed → after ≡ (performed s o).schedule → Good after
      → Performs s line entry exit (record { schedule = after; count = n })
  acted {o} {after} e p l q good =
      record {
        prints = puts_as (ap (λ (x : Order). (performed s x).words) (sym e)) p;
        fits = l;
        leaves = q ∙ ap (λ (x : Order). (performed s x).schedule) (sym e);
        good = good;
      }

  pub acts_command : (c : Command) (r : Done Reply) → asks line ≡ command c → Obeys s c r → PutsAnswer entry 0 (of_reply r.answer) exit n
      → Performs s line entry exit (record { schedule = r.schedule; count = n })
  unfolding performed carried_out
  acts_command c r e o p =
      acted e (puts_as (ap (λ (x : Outcome). words_of x.answer ++ newline) o.is) p.line) (omega (arith, p.room)) (ap (λ (x : Outcome). x.schedule) o.is) o.good

  pub acts_fresh : (t : Schedule) → asks line ≡ fresh_order → Starts t → Puts entry 0 (performed s fresh_order).words exit n
      → Performs s line entry exit (record { schedule = t; count = n })
  unfolding performed
  acts_fresh t e f p = acted e p (omega (arith, p.ends)) f.is f.good

  -- What leaves the schedule as it is.
  pub acts_image : asks line ≡ save → Good s → PutsWithin 4200 entry 0 (image_line s) exit n → Performs s line entry exit (record { schedule = s; count = n })
  unfolding performed
  acts_image e good p = acted e p.puts (omega (arith, p.room)) refl good

  pub acts_save : (m : ℕ) → asks line ≡ save_into m → Good s → PutsWithin 4200 entry 0 (saved_line s m) exit n → Performs s line entry exit (record { schedule = s; count = n })
  unfolding performed
  acts_save m e good p = acted e p.puts (omega (arith, p.room)) refl good

  pub acts_state : {between : List ℕ} {i : ℕ} → asks line ≡ state → Good s → PutsState s.connections entry between i
      → Puts between i (text "end\n") exit n → Performs s line entry exit (record { schedule = s; count = n })
  unfolding performed
  acts_state e good p q = acted e (puts_after p.puts q) (omega (arith, p.room, q.ends)) refl good

  pub acts_bad : asks line ≡ bad → Good s → Puts entry 0 (text "bad\n") exit n → Performs s line entry exit (record { schedule = s; count = n })
  unfolding performed
  acts_bad e good p = acted e p (omega (arith, p.ends)) refl good

  pub acts_load : {between : List ℕ} {i : ℕ} (bytes : List ℕ) (r : Done (Result ℕ Refusal)) → asks line ≡ load_order bytes → Loads s bytes r
      → PutsWords entry 0 (of_loading r.answer) between i → Puts between i newline exit n
      → Performs s line entry exit (record { schedule = r.schedule; count = n })
  unfolding performed
  acts_load bytes r e l p q =
      acted e (puts_after (puts_as (ap (λ (x : Outcome). words_of x.answer) l.is) p.puts) q) (omega (arith, p.room, q.ends)) (ap (λ (x : Outcome). x.schedule) l.is) l.good
