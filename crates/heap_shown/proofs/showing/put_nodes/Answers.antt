-- `heap_shown::showing::put_nodes` meets its contract: the output keeps its room, and the nodes that are left fall. Assumes nothing.
use native.Mathlib.Omega.{arith}
use Rattle.texts.proofs.Outputs.{still_same, still_then, still_puts}
use Rattle.heap_shown.proofs.showing.put_nodes.Goals as goal

pub loop-left-init : goal.loop-left-init
loop-left-init g c = still_same c.requires

pub loop-left-smaller : goal.loop-left-smaller
loop-left-smaller g c = omega arith

pub loop-left-preserved : goal.loop-left-preserved
loop-left-preserved g c = still_puts (still_then c.loop-left.invariant c.in_ok-room.ensures.ready) c.put_with.ensures
