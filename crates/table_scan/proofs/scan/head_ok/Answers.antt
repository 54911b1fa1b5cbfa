-- `table_scan::scan::head_ok` meets its contract. Assumes nothing.
use Rattle.std.proofs.Common.{arith}
use Rattle.std.proofs.lemmas.Bool.Decides.{nat_tests}
use Rattle.table.specs.Sound.{headb}
use Rattle.table_scan.proofs.scan.head_ok.Goals as goal

pub returns-then-count_of-n : goal.returns-then-count_of-n
unfolding headb
returns-then-count_of-n c = grind (arith, nat_tests)

pub returns-else-count_of-n : goal.returns-else-count_of-n
unfolding headb
returns-else-count_of-n c = grind (arith, nat_tests)
