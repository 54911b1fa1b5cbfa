-- `heap_pairs::pairs::class_apart` meets its contract: the nodes left are compared as all are. Assumes nothing.
use mathlib.Core.Path.{◌≡◌}
use lib.ListN.{length, get_or}
use Rattle.heap_blocks.specs.Parts.{list_blocks}
use Rattle.heap_pairs.specs.Pairs.{later_blocks, crossb}
use Rattle.heap_pairs.proofs.pairs.class_apart.Given as goal

abbrev pub invariant-loop-node : goal.invariant-loop-node
invariant-loop-node l = crossb (list_blocks l.class l.left l.arena l.node) (later_blocks l.class l.heads l.arena l.records)
    ≡ crossb (list_blocks l.class (length l.arena) l.arena (get_or l.heads l.class 0)) (later_blocks l.class l.heads l.arena l.records)

abbrev pub decreases-loop-node : goal.decreases-loop-node
decreases-loop-node l = l.left
