-- `table::layout::end_of` meets its contract. Assumes nothing.
use native.Mathlib.Omega.{arith}
use Rattle.table.proofs.Facts.{size-le}
use Rattle.table.proofs.layout.end_of.Goals as goal

pub overflow_add-result : goal.overflow_add-result
overflow_add-result c = omega (arith, size-le c.args.w)
