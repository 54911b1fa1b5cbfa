-- `heap_listed::listing::put_heads` meets its contract: the output keeps its room. Assumes nothing.
use Rattle.texts.specs.Output.{StillReady}
use Rattle.heap_listed.proofs.listing.put_heads.Given as goal

abbrev pub invariant-loop-head : goal.invariant-loop-head
invariant-loop-head g l = StillReady l.fn.out l.out
