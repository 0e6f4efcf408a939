use Rattle.std.proofs.Common.{inl, inr, refl}
use Rattle.run.proofs.finding.live_connection.Goals as goal

pub returns-then-handle-gt-LAST_HANDLE : goal.returns-then-handle-gt-LAST_HANDLE
returns-then-handle-gt-LAST_HANDLE c = inl (c.if-handle-gt-LAST_HANDLE.true, refl)

pub returns-else-c : goal.returns-else-c
returns-else-c c = inr (c.if-handle-gt-LAST_HANDLE.false, c.if-c.false, refl)
