-- `heap_shown::showing::put_reply` meets its contract: text after text. Assumes nothing.
use mathlib.Core.Path.{sym}
use Rattle.texts.proofs.Outputs.{then}
use Rattle.heap_shown.proofs.showing.put_reply.Goals as goal

pub returns : goal.returns
returns c = rw (sym c.number.ensures, sym c.value.ensures) (then (then c.put_number.ensures c.put_with.ensures) c.put.ensures)
