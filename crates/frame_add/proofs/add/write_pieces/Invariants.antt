-- `frame_add::add::write_pieces` meets its contract: the words with the pieces that are still to write are those asked for. Assumes nothing.
use mathlib.Core.Path.{◌≡◌}
use Prim.Native.Nat.{◌+◌, ◌≤◌}
use lib.ListN.{length}
use Rattle.rules.proofs.Adding.{Range, pieces_of}
use Rattle.frame_add.proofs.Pieces.{to_write}
use Rattle.frame_add.proofs.add.write_pieces.Given as goal

abbrev pub invariant-loop-left : goal.invariant-loop-left
invariant-loop-left l = Range l.top l.s l.left × (length l.t ≡ length l.initial.t) × (l.p + length (pieces_of l.top l.s l.left) ≤ length l.t) × (to_write l.top l.initial.t l.at l.start l.n ≡ to_write l.top l.t l.p l.s l.left)

abbrev pub decreases-loop-left : goal.decreases-loop-left
decreases-loop-left l = l.left
