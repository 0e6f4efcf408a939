use mathlib.Core.Path.{◌≡◌}
use lib.ListN.{length, take}
use Rattle.rules.specs.Image.{connection_pieces}
use Rattle.image.proofs.saving.live.Given as goal

-- `image::live` meets its contract. The invariant: n counts the live ones before this one.
abbrev pub invariant-loop-c : goal.invariant-loop-c
invariant-loop-c l = l.n ≡ length (connection_pieces 0 (take l.c-index l.connections))
