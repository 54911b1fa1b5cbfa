-- `frame_core::picking::pick` meets its contract: what is left of the records, or else the best so far, is what the whole list gives. Assumes nothing.
use Rattle.frame_core.proofs.Pass.{Passing}
use Rattle.frame_core.proofs.picking.pick.Given as goal

abbrev pub invariant-loop-i : goal.invariant-loop-i
invariant-loop-i l = Passing l.order l.class l.low l.i l.best l.w-items
