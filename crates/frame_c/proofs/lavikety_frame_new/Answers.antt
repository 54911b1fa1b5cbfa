-- `frame_c::lavikety_frame_new` meets its contract. Assumes nothing.
use Rattle.frame_c.proofs.lavikety_frame_new.Goals as goal

pub returns : goal.returns
returns c = rw c.numbers.ensures c.new.ensures
