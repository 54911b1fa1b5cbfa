-- `frame_add::add::pieces` meets its contract: the pieces counted and those still to count are all there are. Assumes nothing.
use mathlib.Core.Path.{◌≡◌}
use Prim.Native.Nat.{◌+◌, ◌≤◌}
use lib.ListN.{length}
use Rattle.rules.proofs.Adding.{Range, pieces_of}
use Rattle.frame_add.proofs.add.pieces.Given as goal

abbrev pub invariant-loop-left : goal.invariant-loop-left
invariant-loop-left l = Range l.top l.from l.left × (l.k ≤ l.most + 1) × (l.k + length (pieces_of l.top l.from l.left) ≡ length (pieces_of l.top l.start l.n))

abbrev pub decreases-loop-left : goal.decreases-loop-left
decreases-loop-left l = l.left
