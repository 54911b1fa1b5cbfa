-- `frame_c::lavikety_frame_add` meets its contract. Assumes nothing.
use Rattle.frame_c.proofs.lavikety_frame_add.Goals as goal

pub returns : goal.returns
returns c = rw c.numbers.ensures c.add_frame.ensures
