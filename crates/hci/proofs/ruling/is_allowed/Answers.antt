use mathlib.Core.Path.{sym, ap, ◌∙◌}
use Prim.Native.Nat.{◌<◌}
use borrow.Author.Tests.{lt-leb}
use native.Mathlib.Omega.{arith}
use Rattle.rules.specs.Subrates.{is_allowed}
use Rattle.hci.proofs.Tests.{request_above, request_within}
use Rattle.hci.proofs.ruling.is_allowed.Goals as goal

pub returns-in-Default : goal.returns-in-Default
unfolding is_allowed
returns-in-Default c = c.are_subrates.ensures ∙ ap is_allowed (sym c.in-Default.is)

pub returns-then-handle-le-LARGEST_HCI_HANDLE : goal.returns-then-handle-le-LARGEST_HCI_HANDLE
returns-then-handle-le-LARGEST_HCI_HANDLE c =
    c.are_subrates-then-handle-le-LARGEST_HCI_HANDLE.ensures ∙ request_within _ _ (omega arith)
    ∙ ap is_allowed (sym c.in-Request.is)

pub returns-else-handle-le-LARGEST_HCI_HANDLE : goal.returns-else-handle-le-LARGEST_HCI_HANDLE
returns-else-handle-le-LARGEST_HCI_HANDLE c =
    let above : 3839 < c.in-Request.handle = omega arith in
    lt-leb _ _ above ∙ request_above c.in-Request.handle c.in-Request.v above
    ∙ ap is_allowed (sym c.in-Request.is)

pub returns-in-Change : goal.returns-in-Change
unfolding is_allowed
returns-in-Change c = c.is_change.ensures ∙ ap is_allowed (sym c.in-Change.is)
