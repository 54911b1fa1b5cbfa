-- `frame_c::lavikety_frame_summary` meets its contract: the report's two cases. Assumes nothing.
use Rattle.frame_c.proofs.lavikety_frame_summary.Goals as goal

pub returns-in-Ok : goal.returns-in-Ok
returns-in-Ok c = rw c.in-Ok.is at c.summary.ensures

pub returns-in-Err : goal.returns-in-Err
returns-in-Err c = rw c.from.ensures (rw c.in-Err.is at c.summary.ensures)
