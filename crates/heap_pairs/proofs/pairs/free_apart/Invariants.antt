-- `heap_pairs::pairs::free_apart` meets its contract: the classes left are compared as all are. Assumes nothing.
use mathlib.Core.Path.{◌≡◌}
use Rattle.heap_blocks.specs.Parts.{free_up, blocks_of}
use Rattle.heap_pairs.specs.Pairs.{crossb}
use Rattle.heap_pairs.proofs.pairs.free_apart.Given as goal

abbrev pub invariant-loop-class : goal.invariant-loop-class
invariant-loop-class l = crossb (free_up l.class l.heads l.arena) (blocks_of l.records) ≡ crossb (free_up 0 l.heads l.arena) (blocks_of l.records)
