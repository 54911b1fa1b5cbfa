-- `table_scan::scan::record_ok` meets its contract. Assumes nothing.
use Rattle.std.proofs.Common.{arith}
use Rattle.std.proofs.lemmas.Bool.Decides.{nat_tests}
use Rattle.table.specs.Sound.{recordb}
use Rattle.table_scan.proofs.scan.record_ok.Goals as goal

pub returns-then-over_of-eq0 : goal.returns-then-over_of-eq0
unfolding recordb
returns-then-over_of-eq0 c = grind (arith, nat_tests)

pub returns-else-over_of-eq0 : goal.returns-else-over_of-eq0
unfolding recordb
returns-else-over_of-eq0 c = grind (arith, nat_tests)
