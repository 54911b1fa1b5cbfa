-- `frame_c::lavikety_frame_dealloc` meets its contract. Assumes nothing.
use Rattle.frame_c.proofs.lavikety_frame_dealloc.Goals as goal

pub returns : goal.returns
returns c = rw c.numbers.ensures c.dealloc.ensures
