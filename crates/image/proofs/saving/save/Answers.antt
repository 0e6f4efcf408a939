use mathlib.Core.Path.{refl}
use Prim.Native.Nat.{◌≤◌}
use native.Mathlib.Omega.{arith}
use Rattle.rules.specs.Ownership.{handles}
use Rattle.rules.specs.Image.{connection_piece}
use Rattle.calls.proofs.EachLaws.{count_most, each_count}
use Rattle.images.proofs.ImageLaws.{connections_length}
use Rattle.image.proofs.Puts.{too_short, image_saved}
use Rattle.image.proofs.saving.save.Goals as goal
use Rattle.image.proofs.saving.save.Goals.{After-live-n}

-- at most one for each handle
few : (c : After-live-n) → c.live-n.result ≤ handles
few c =
    omega (arith, c.live-n.ensures, each_count connection_piece 0 c.args.s.connections, count_most c.args.s.connections, c.requires.places)

pub overflow_mul-size : goal.overflow_mul-size
overflow_mul-size c = omega (arith, few (goal.at.overflow_mul-size c).After-live-n)

pub overflow_add-size : goal.overflow_add-size
overflow_add-size c = omega (arith, few (goal.at.overflow_add-size c).After-live-n)

pub overflow_add-size-2 : goal.overflow_add-size-2
overflow_add-size-2 c = omega (arith, few (goal.at.overflow_add-size-2 c).After-live-n)

pub returns-then-buffer-size : goal.returns-then-buffer-size
returns-then-buffer-size c = too_short c.args.s c.requires c.args.buffer.now c.live-n.ensures refl c.if-buffer-size.true

pub overflow_cast-n : goal.overflow_cast-n
overflow_cast-n c = omega (arith, few (goal.at.overflow_cast-n c).After-live-n)

pub put_connections-next-requires : goal.put_connections-next-requires
put_connections-next-requires c = omega (arith, c.live-n.ensures, connections_length 0 c.args.s.connections)

pub put_tree-requires : goal.put_tree-requires
put_tree-requires c =
    omega (arith, c.live-n.ensures, c.put_connections-next.ensures.ends, connections_length 0 c.args.s.connections, c.if-buffer-size.false, c.put_header.auto, c.put_number.auto, c.put_connections-next.auto)

pub returns : goal.returns
returns c =
    image_saved c.args.s c.requires c.args.buffer.now c.live-n.ensures refl c.if-buffer-size.false c.put_header.ensures c.put_number.ensures c.put_connections-next.ensures c.put_tree.ensures
