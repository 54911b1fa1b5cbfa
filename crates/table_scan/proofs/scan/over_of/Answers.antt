-- `table_scan::scan::over_of` meets its contract. Assumes nothing.
use native.Mathlib.Omega.{arith}
use lib.Bits.{and_mask}
use Rattle.table.proofs.Facts.{size-pos}
use Rattle.table_scan.proofs.scan.over_of.Goals as goal

pub overflow_sub-result : goal.overflow_sub-result
overflow_sub-result c = omega (arith, size-pos c.args.w)

pub returns : goal.returns
returns c = rw (c.start_of.ensures, c.size_of.ensures) (and_mask _ _)
