-- `table_scan::scan::rows_end` meets its contract. Assumes nothing.
use mathlib.Core.Path.{sym, ◌∙◌}
use native.Mathlib.Omega.{arith}
use lib.Bits.{or_lt}
use Rattle.table_scan.proofs.Rows.{row_first, row-turn, row_last}
use Rattle.table_scan.proofs.scan.rows_end.Goals as goal

pub loop-w-init : goal.loop-w-init
loop-w-init c = (omega arith, omega arith, row_first c.args.order c.args.floor c.args.part.now (omega arith))

pub loop-w-preserved : goal.loop-w-preserved
loop-w-preserved c =
    let l = c.loop-w in (
      omega arith,
      or_lt 32 c.low_half-start.result c.mask_of-mask.result (omega arith) (omega arith),
      sym (row-turn c.args.order c.args.part.now l.w-index l.words l.overs l.masks l.laps l.last c.low_half-start.result c.mask_of-mask.result
          c.lap-laps.result (omega arith) (omega arith) (omega arith) c.low_half-start.ensures c.mask_of-mask.ensures c.lap-laps.ensures)
          ∙ l.invariant.2,
    )

pub overflow_add-result : goal.overflow_add-result
overflow_add-result c = record { fits = omega (arith, c.from.ensures) }

pub returns-then-clean : goal.returns-then-clean
returns-then-clean c =
    let l = c.loop-w in
    let y = sym c.clean.ensures ∙ c.if-clean.true in
    rw c.from.ensures (rw (row_last c.args.order l.w-index l.last c.args.part.now _ c.loop-w-test.false, y) at l.invariant.2)

pub returns-else-clean : goal.returns-else-clean
returns-else-clean c =
    let n = sym c.clean.ensures ∙ c.if-clean.false in
    rw n at c.loop-w.invariant.2
