-- `heap_runs::running::run` meets its contract: each command does what the definition says. Assumes nothing.
use Rattle.heap_runs.specs.Run.{machine}
use Rattle.heap_runs.proofs.Cells.{does-bad}
use Rattle.heap_runs.proofs.running.run.Goals as goal

pub returns-in-Err : goal.returns-in-Err
returns-in-Err c =
    let a = c.args in
    rw c.in-Err.is (record { does = does-bad c.in-Err.field-0 (machine a.lent a.arena.now a.ledger.now); fits = c.requires })
