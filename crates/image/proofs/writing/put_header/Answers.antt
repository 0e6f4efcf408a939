use Rattle.image.proofs.Puts.{header_put}
use Rattle.image.proofs.writing.put_header.Goals as goal

pub returns : goal.returns
returns c =
    let a = c.args in
    header_put a.buffer.now a.at a.size a.kind c.put_number.ensures c.put_number-2.ensures
