-- `heap_shown::showing::put_list` meets its contract: the output keeps its room. Assumes nothing.
use Rattle.texts.proofs.Outputs.{still_same, still_then, still_puts}
use Rattle.heap_shown.proofs.showing.put_list.Goals as goal

pub put_nodes-requires : goal.put_nodes-requires
put_nodes-requires g c = (still_puts (still_same c.requires) c.put_with.ensures).ready

pub returns : goal.returns
returns g c = still_then (still_puts (still_same c.requires) c.put_with.ensures) c.put_nodes.ensures
