use Rattle.image.proofs.Puts.{connection_put}
use Rattle.image.proofs.writing.put_connection.Goals as goal

pub returns : goal.returns
returns c =
    let a = c.args in
    connection_put a.buffer.now a.at a.handle a.c c.put_header.ensures c.put_run.ensures c.put_share.ensures
