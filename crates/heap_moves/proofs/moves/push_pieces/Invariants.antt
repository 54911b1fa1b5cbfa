-- `heap_moves::moves::push_pieces` meets its contract: what is left to push, of what is there, comes to the whole. Assumes nothing.
use mathlib.Core.Path.{◌≡◌}
use Prim.Native.Nat.{◌+◌}
use lib.ListN.{length}
use Rattle.heap_state.specs.Lists.{push_all}
use Rattle.heap_moves.specs.Moves.{mem}
use Rattle.heap_moves.proofs.moves.push_pieces.Given as goal

abbrev pub invariant-loop-left : goal.invariant-loop-left
invariant-loop-left l = (push_all l.left l.top l.from l.left (mem l.heads l.arena) ≡ push_all l.n l.top l.start l.n (mem l.initial.heads l.initial.arena)) × (l.from + l.left ≡ l.start + l.n) × (length l.arena ≡ length l.initial.arena)

abbrev pub decreases-loop-left : goal.decreases-loop-left
decreases-loop-left l = l.left
