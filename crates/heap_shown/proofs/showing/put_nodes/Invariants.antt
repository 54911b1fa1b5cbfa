-- `heap_shown::showing::put_nodes` meets its contract: the output keeps its room, and the nodes that are left fall. Assumes nothing.
use Rattle.texts.specs.Output.{StillReady}
use Rattle.heap_shown.proofs.showing.put_nodes.Given as goal

abbrev pub invariant-loop-left : goal.invariant-loop-left
invariant-loop-left g l = StillReady l.fn.out l.out

abbrev pub decreases-loop-left : goal.decreases-loop-left
decreases-loop-left g l = l.left
