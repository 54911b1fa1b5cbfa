-- `heap_records::granted::records` meets its contract: the records before passed and are added up. Assumes nothing.
use Rattle.heap_records.proofs.Passing.{Passed}
use Rattle.heap_records.proofs.granted.records.Given as goal

abbrev pub invariant-loop-w : goal.invariant-loop-w
invariant-loop-w l = Passed l.order l.bytes l.words l.w-index l.floor l.user l.allocated
