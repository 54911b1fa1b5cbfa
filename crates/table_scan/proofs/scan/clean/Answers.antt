-- `table_scan::scan::clean` meets its contract. Assumes nothing.
use Rattle.std.proofs.Common.{arith}
use Rattle.std.proofs.lemmas.Grind.{common_steps}
use Rattle.table_scan.specs.Scan.{cleanb}
use Rattle.table_scan.proofs.scan.clean.Goals as goal

pub returns-then-from-order : goal.returns-then-from-order
unfolding cleanb
returns-then-from-order c = grind (arith, common_steps)

pub returns-else-from-order : goal.returns-else-from-order
unfolding cleanb
returns-else-from-order c = grind (arith, common_steps)
