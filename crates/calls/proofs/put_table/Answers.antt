-- `calls::put_table` meets its contract: the output keeps its room. Assumes nothing.
use Rattle.texts.proofs.Outputs.{still_puts, still_then}
use Rattle.calls.proofs.put_table.Goals as goal

pub loop-w-init : goal.loop-w-init
loop-w-init g c = still_puts c.in_ok-room.ensures.ready c.put_heading.ensures

pub loop-w-preserved : goal.loop-w-preserved
loop-w-preserved g c = still_puts (still_then c.loop-w.invariant c.in_ok-room-2.ensures.ready) c.put_block.ensures
