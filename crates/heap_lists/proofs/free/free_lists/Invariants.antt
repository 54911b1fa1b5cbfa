-- `heap_lists::free::free_lists` meets its contract: the lists before passed and are added up. Assumes nothing.
use Rattle.heap_lists.proofs.Tallies.{Passed}
use Rattle.heap_lists.proofs.free.free_lists.Given as goal

abbrev pub invariant-loop-class : goal.invariant-loop-class
invariant-loop-class l = Passed l.order l.heads l.arena 0 l.class l.bytes
