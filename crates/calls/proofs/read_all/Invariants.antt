-- `calls::read_all` meets its contract: the output keeps its room. Assumes nothing.
use Rattle.texts.specs.Output.{StillReady}
use Rattle.calls.proofs.read_all.Given as goal

abbrev pub invariant-loop : goal.invariant-loop
invariant-loop g l = StillReady l.fn.out l.out
