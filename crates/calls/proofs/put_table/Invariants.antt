-- `calls::put_table` meets its contract: the output keeps its room. Assumes nothing.
use Rattle.texts.specs.Output.{StillReady}
use Rattle.calls.proofs.put_table.Given as goal

abbrev pub invariant-loop-w : goal.invariant-loop-w
invariant-loop-w g l = StillReady l.fn.out l.out
