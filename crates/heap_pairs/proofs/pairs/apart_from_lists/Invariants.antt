-- `heap_pairs::pairs::apart_from_lists` meets its contract: the classes left are compared as all are. Assumes nothing.
use mathlib.Core.Path.{◌≡◌}
use Rattle.heap_blocks.specs.Sound.{blk, apart_from}
use Rattle.heap_blocks.specs.Parts.{free_up}
use Rattle.heap_pairs.proofs.pairs.apart_from_lists.Given as goal

abbrev pub invariant-loop-other : goal.invariant-loop-other
invariant-loop-other l = apart_from (blk l.class l.address) (free_up l.other l.heads l.arena) ≡ apart_from (blk l.class l.address) (free_up l.from l.heads l.arena)
