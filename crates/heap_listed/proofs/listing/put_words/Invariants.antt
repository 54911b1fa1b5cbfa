-- `heap_listed::listing::put_words` meets its contract: the output keeps its room. Assumes nothing.
use Rattle.texts.specs.Output.{StillReady}
use Rattle.heap_listed.proofs.listing.put_words.Given as goal

abbrev pub invariant-loop-i : goal.invariant-loop-i
invariant-loop-i g l = StillReady l.fn.out l.out
