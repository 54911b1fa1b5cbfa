-- `heap_listed::listing::put_lists` meets its contract: the output keeps its room. Assumes nothing.
use Rattle.texts.specs.Output.{StillReady}
use Rattle.heap_listed.proofs.listing.put_lists.Given as goal

abbrev pub invariant-loop-class : goal.invariant-loop-class
invariant-loop-class g l = StillReady l.fn.out l.out
