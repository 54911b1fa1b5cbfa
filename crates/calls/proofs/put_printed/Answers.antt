-- `calls::put_printed` meets its contract: the line's text is put. Assumes nothing.
use mathlib.Core.Path.{sym}
use Rattle.calls.proofs.put_printed.Goals as goal

pub returns-in-Reply : goal.returns-in-Reply
returns-in-Reply c =
    rw (c.in-Reply.is, sym c.number.ensures, sym c.value.ensures) c.put_reply.ensures

pub returns-in-BadLine : goal.returns-in-BadLine
returns-in-BadLine c = rw c.in-BadLine.is c.put.ensures
