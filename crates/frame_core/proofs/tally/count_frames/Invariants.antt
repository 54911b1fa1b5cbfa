-- `frame_core::tally::count_frames` meets its contract: the figures so far and those of the records to come are the table's. Assumes nothing.
use Rattle.frame_core.proofs.Tallies.{Tally}
use Rattle.frame_core.proofs.tally.count_frames.Given as goal

abbrev pub invariant-loop-w : goal.invariant-loop-w
invariant-loop-w l = Tally l.w-items l.w-index l.granted l.managed l.largest
