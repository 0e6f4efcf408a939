use mathlib.Core.Path.{◌∙◌}
use Prim.Native.Nat.{◌<◌}
use borrow.Author.Tests.{lt-leb, ne_eqb}
use native.Mathlib.Omega.{arith}
use Rattle.hci.proofs.Tests.{of_failed, of_handle, of_factor}
use Rattle.hci.proofs.ruling.is_change.Goals as goal

pub returns-then-e-ne0 : goal.returns-then-e-ne0
returns-then-e-ne0 c =
    rw (ne_eqb c.args.e.status 0 c.if-e-ne0.true) (of_failed c.args.e c.if-e-ne0.true)

pub returns-then-e-le-LARGEST_HCI_HANDLE : goal.returns-then-e-le-LARGEST_HCI_HANDLE
returns-then-e-le-LARGEST_HCI_HANDLE c =
    c.is_subrating.ensures ∙ of_factor c.args.e c.if-e-ne0.false (omega arith)

pub returns-else-e-le-LARGEST_HCI_HANDLE : goal.returns-else-e-le-LARGEST_HCI_HANDLE
returns-else-e-le-LARGEST_HCI_HANDLE c =
    let above : 3839 < c.args.e.handle = omega arith in
    lt-leb c.args.e.handle 3839 above ∙ of_handle c.args.e c.if-e-ne0.false above
