-- `heap_moves::moves::release_block` meets its contract: the joins to come, with the count so far, come to the whole release. Assumes nothing.
use mathlib.Core.Path.{◌≡◌}
use lib.ListN.{length}
use Rattle.heap_moves.specs.Moves.{mem}
use Rattle.heap_moves.proofs.Joining.{Joins}
use Rattle.heap_moves.proofs.moves.release_block.Given as goal

abbrev pub invariant-loop-k : goal.invariant-loop-k
invariant-loop-k l = Joins l.top l.class l.block (mem l.initial.heads l.initial.arena) (mem l.heads l.arena) l.k l.low l.compared × (length l.arena ≡ length l.initial.arena)
