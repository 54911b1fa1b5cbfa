-- `table::layout::size_of` meets its contract. Assumes nothing.
use native.Mathlib.Omega.{arith}
use Rattle.table.proofs.Words.{bit}
use Rattle.table.proofs.layout.size_of.Goals as goal

pub returns : goal.returns
returns c = rw (← c.class_of.ensures) (bit c.class_of.result 64 (omega arith))
