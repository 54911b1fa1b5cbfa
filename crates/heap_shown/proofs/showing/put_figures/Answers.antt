-- `heap_shown::showing::put_figures` meets its contract: text after text. Assumes nothing.
use mathlib.Core.Path.{sym}
use Rattle.texts.proofs.Outputs.{then}
use Rattle.heap_shown.proofs.showing.put_figures.Goals as goal

pub returns : goal.returns
returns c = rw (sym c.number.ensures, sym c.value.ensures, sym c.value-2.ensures, sym c.value-3.ensures) (then (then (then (then c.put_number.ensures c.put_with.ensures) c.put_with-2.ensures) c.put_with-3.ensures) c.put.ensures)
