use Rattle.hci.proofs.Storing.{default_put, request_put, change_put}
use Rattle.hci.proofs.writing.put_message.Goals as goal

pub returns-in-Default : goal.returns-in-Default
returns-in-Default c =
    default_put c.args.buffer.now c.in-Default.v c.in-Default.is c.from.ensures
    c.put_number.ensures c.put_five.ensures

pub returns-in-Request : goal.returns-in-Request
returns-in-Request c =
    request_put c.args.buffer.now c.in-Request.handle c.in-Request.v c.in-Request.is
    c.from-in-Request.ensures c.from-in-Request-2.ensures c.put_number-in-Request.ensures
    c.put_number-in-Request-2.ensures c.put_five-in-Request.ensures

pub returns-in-Change : goal.returns-in-Change
returns-in-Change c =
    change_put c.args.buffer.now c.in-Change.e c.in-Change.is
    c.from-in-Change.ensures c.from-in-Change-2.ensures c.put_number-in-Change.ensures
    c.put_number-in-Change-2.ensures c.put_five-in-Change.ensures
