-- `calls::take_all` meets its contract. The loop's invariant: the output keeps its room, and the reading of the chunk has come so far.
-- Each turn takes some of the chunk. Assumes nothing.
use Prim.Native.Nat.{ℕ, ◌-◌}
use mathlib.Core.List.{List}
use lib.ListN.{length}
use Rattle.texts.specs.Output.{StillReady}
use Rattle.lines.specs.Running.{Holds}
use Rattle.lines.proofs.Going.{Going}
use Rattle.calls.specs.Run.{line_after}
use Rattle.calls.proofs.take_all.Given as goal

abbrev pub invariant-loop-from : goal.invariant-loop-from
invariant-loop-from g l = record {
  ready : StillReady l.fn.out l.out;
  going : (line : List ℕ) → Holds l.fn.held.bytes l.fn.held.len line → Going line_after l.chunk line l.initial.t l.from l.held.bytes l.held.len l.t;
}

abbrev pub decreases-loop-from : goal.decreases-loop-from
decreases-loop-from g l = length l.chunk - l.from
