-- `heap_listed::listing::put_heads` meets its contract: the output keeps its room. Assumes nothing.
use Rattle.texts.proofs.Outputs.{still_then, still_puts}
use Rattle.heap_listed.proofs.listing.put_heads.Goals as goal

pub loop-head-preserved : goal.loop-head-preserved
loop-head-preserved g c = still_puts (still_then c.loop-head.invariant c.in_ok-room-2.ensures.ready) c.put_with.ensures
