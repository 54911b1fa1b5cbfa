-- `frame_c::lavikety_frame_alloc_aligned` meets its contract. Assumes nothing.
use Rattle.frame_c.proofs.lavikety_frame_alloc_aligned.Goals as goal

pub returns : goal.returns
returns c = rw c.numbers.ensures c.alloc_aligned.ensures
