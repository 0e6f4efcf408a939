use Rattle.image.proofs.Puts.{share_put}
use Rattle.image.proofs.writing.put_share.Goals as goal

pub returns : goal.returns
returns c =
    let a = c.args in
    let floor = rw c.from.ensures at c.put_number.ensures in
    let ceiling = rw c.from-2.ensures at c.put_number-2.ensures in
    share_put a.buffer.now a.at a.c.floor a.c.ceiling a.c.estimate
    floor ceiling c.put_number-3.ensures
