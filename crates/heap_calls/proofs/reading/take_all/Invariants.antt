-- `heap_calls::reading::take_all` meets its contract: the loop's invariant is that the output keeps its room, and that the reading of the chunk has come so far. Assumes nothing.
use mathlib.Core.List.{List}
use Prim.Native.Nat.{ℕ, ◌-◌}
use lib.ListN.{length}
use Rattle.texts.specs.Output.{StillReady}
use Rattle.lines.specs.Running.{Holds}
use Rattle.lines.proofs.Going.{Going}
use Rattle.heap_runs.specs.Running.{machine_of}
use Rattle.heap_calls.specs.Running.{line_after}
use Rattle.heap_calls.proofs.reading.take_all.Given as goal

abbrev pub invariant-loop-from : goal.invariant-loop-from
invariant-loop-from g l = record {
  ready : StillReady l.fn.out l.out;
  going : (line : List ℕ) → Holds l.fn.held.bytes l.fn.held.len line
      → Going line_after l.chunk line (machine_of l.fn.machine) l.from l.held.bytes l.held.len (machine_of l.machine);
}

abbrev pub decreases-loop-from : goal.decreases-loop-from
decreases-loop-from g l = length l.chunk - l.from
