-- `heap_listed::listing::put_list` meets its contract: the output keeps its room. Assumes nothing.
use Rattle.texts.proofs.Outputs.{still_then, still_puts}
use Rattle.heap_listed.proofs.listing.put_list.Goals as goal

pub put_nodes-requires : goal.put_nodes-requires
put_nodes-requires g c = (still_puts c.in_ok-room.ensures.ready c.put_with.ensures).ready

pub returns : goal.returns
returns g c = still_then (still_puts c.in_ok-room.ensures.ready c.put_with.ensures) c.put_nodes.ensures
