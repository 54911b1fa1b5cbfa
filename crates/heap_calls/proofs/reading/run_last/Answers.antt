-- `heap_calls::reading::run_last` meets its contract: nothing is held of an empty line alone. Assumes nothing.
use Prim.Native.Nat.{◌<◌}
use native.Mathlib.Omega.{arith}
use Rattle.texts.proofs.Outputs.{still_same}
use Rattle.lines.proofs.Going.{last_none, last_some}
use Rattle.heap_runs.specs.Running.{machine_of}
use Rattle.heap_calls.specs.Running.{line_after}
use Rattle.heap_calls.proofs.Enough.{enough}
use Rattle.heap_calls.proofs.reading.run_last.Goals as goal

pub returns-then-held-eq0 : goal.returns-then-held-eq0
returns-then-held-eq0 g c = let a = c.args in record {
  ready = still_same c.requires;
  ended = last_none line_after a.held.now.bytes (machine_of a.machine.now) a.held.now.len (omega arith);
}

pub returns : goal.returns
returns g c =
    let a = c.args in
    let r = c.run_line in
    let some : 0 < a.held.now.len = omega (arith, c.if-held-eq0.false) in record {
      ready = r.ensures.ready;
      ended = last_some line_after enough a.held.now.bytes (machine_of a.machine.now) (machine_of r.new.machine) a.held.now.len some (omega arith) r.ensures.machine_after;
    }
