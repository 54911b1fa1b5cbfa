-- `frame_c::lavikety_frame_alloc_at` meets its contract. Assumes nothing.
use Rattle.frame_c.proofs.lavikety_frame_alloc_at.Goals as goal

pub returns : goal.returns
returns c = rw c.numbers.ensures c.alloc_at.ensures
