-- `heap_moves::moves::take_block` meets its contract: the halves still to be made of what is there come to the whole. Assumes nothing.
use mathlib.Core.Path.{◌≡◌}
use lib.ListN.{length}
use Rattle.heap_moves.specs.Moves.{mem}
use Rattle.heap_moves.proofs.Halving.{Halving}
use Rattle.heap_moves.proofs.moves.take_block.Given as goal

abbrev pub invariant-loop-k : goal.invariant-loop-k
invariant-loop-k l = Halving l.from l.class (mem l.initial.heads l.initial.arena) (mem l.heads l.arena) l.k × (length l.arena ≡ length l.initial.arena)
