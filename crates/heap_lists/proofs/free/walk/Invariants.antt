-- `heap_lists::free::walk` meets its contract: the blocks before are in their place and added up. Assumes nothing.
use Rattle.heap_lists.proofs.Walking.{Walk}
use Rattle.heap_lists.proofs.free.walk.Given as goal

abbrev pub invariant-loop-before : goal.invariant-loop-before
invariant-loop-before l = Walk l.class l.head l.arena l.before-iterator.count l.bytes l.before-iterator.iter
