use Rattle.image.proofs.Puts.{run_put}
use Rattle.image.proofs.writing.put_run.Goals as goal

pub returns : goal.returns
returns c =
    let a = c.args in
    let k = rw c.from.ensures at c.put_number-2.ensures in
    let length = rw c.from-2.ensures at c.put_number-4.ensures in
    run_put a.buffer.now a.at a.handle a.c.k a.c.anchor a.c.length
    c.put_number.ensures k c.put_number-3.ensures length
