-- `heap_pairs::pairs::apart_from_list` meets its contract: the nodes left are compared as all are. Assumes nothing.
use mathlib.Core.Path.{◌≡◌}
use Rattle.heap_blocks.specs.Sound.{blk, apart_from}
use Rattle.heap_blocks.specs.Parts.{list_blocks}
use Rattle.heap_pairs.proofs.pairs.apart_from_list.Given as goal

abbrev pub invariant-loop-node : goal.invariant-loop-node
invariant-loop-node l = apart_from (blk l.class l.address) (list_blocks l.other l.left l.arena l.node) ≡ apart_from (blk l.class l.address) (list_blocks l.other l.most l.arena l.head)

abbrev pub decreases-loop-node : goal.decreases-loop-node
decreases-loop-node l = l.left
