use mathlib.Core.Path.{sym, ap₂, ◌∙◌}
use mathlib.Core.List.{List}
use Prim.Native.Nat.{ℕ, ◌≤◌}
use lib.ListN.{length}
use Rattle.rules.specs.Messages.{message_bytes}
use native.Mathlib.Omega.{arith}
use Rattle.rules.specs.Answers.{Written, wrote}
use Rattle.basics.proofs.LentLaws.{over_stored}
use Rattle.messages.proofs.WriteLaws.{write_forbidden, write_short, write_whole}
use Rattle.hci.proofs.writing.write_message.Goals as goal

pub returns-then-not-is_allowed : goal.returns-then-not-is_allowed
returns-then-not-is_allowed c =
    sym (write_forbidden c.args.message c.args.buffer.now
    (sym c.is_allowed.ensures ∙ c.if-not-is_allowed.true))

pub returns-then-buffer-size : goal.returns-then-buffer-size
returns-then-buffer-size c =
    sym (write_short c.args.message c.args.buffer.now
    (sym c.is_allowed.ensures ∙ c.if-not-is_allowed.false)
    (omega (arith, c.size_of-size.ensures)))

pub returns : goal.returns
returns c =
    let m = c.args.message in
    let buffer = c.args.buffer.now in
    let fits : length (message_bytes m) ≤ length buffer = omega (arith, c.size_of-size.ensures) in
    ap₂ {C = Written} (λ (n : ℕ) (b : List ℕ). record { answer = wrote n; buffer = b })
    c.size_of-size.ensures (c.put_message.ensures ∙ over_stored (message_bytes m) buffer fits)
    ∙ sym (write_whole m buffer (sym c.is_allowed.ensures ∙ c.if-not-is_allowed.false) fits)
