use Rattle.std.proofs.Common.{arith, ap, sym, ◌∙◌}
use lib.ListN.{take}
use Rattle.std.proofs.lemmas.List.{length-take-le}
use Rattle.restore.proofs.Records.{end_room, chunks_room, chunked}
use Rattle.restore.proofs.connection_records.Goals as goal

pub slice_bounds-as_chunks-count : goal.slice_bounds-as_chunks-count
slice_bounds-as_chunks-count c = omega (arith, end_room _ _ c.requires c.type_inv.bytes)

pub slice_bounds-as_chunks-start : goal.slice_bounds-as_chunks-start
slice_bounds-as_chunks-start c = omega (arith, end_room _ _ c.requires c.type_inv.bytes)

pub slice_bounds-result-end : goal.slice_bounds-result-end
slice_bounds-result-end c =
    let room = chunks_room _ _ c.requires c.type_inv.bytes in
    let chunks = c.as_chunks in
    sym (length-take-le c.args.n chunks.result.0.now (omega (arith, room, chunks.ensures.front_len)))

pub returns : goal.returns
returns c =
    let room = chunks_room _ _ c.requires c.type_inv.bytes in
    ap (take c.args.n) c.as_chunks.ensures.front
    ∙ chunked _ _ c.requires c.type_inv.bytes _ room
