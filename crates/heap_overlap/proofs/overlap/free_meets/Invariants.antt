-- `heap_overlap::overlap::free_meets` meets its contract: the classes left decide as all of them do. Assumes nothing.
use mathlib.Core.Path.{◌≡◌}
use Prim.Native.Nat.{◌-◌}
use Rattle.heap_blocks.specs.Sound.{free_from}
use Rattle.heap_overlap.specs.Meeting.{meets}
use Rattle.heap_moves.specs.Moves.{mem}
use Rattle.heap_overlap.proofs.overlap.free_meets.Given as goal

abbrev pub invariant-loop-k : goal.invariant-loop-k
invariant-loop-k l = meets l.start l.end (free_from (33 - l.k) l.k (mem l.heads l.arena)) ≡ meets l.start l.end (free_from 33 0 (mem l.heads l.arena))
