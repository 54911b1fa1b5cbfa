-- `table_scan::scan::rows_end` meets its contract. Assumes nothing.
use Rattle.std.specs.Prelude.{◌≡◌, suc, ◌^◌, ◌≤◌, ◌<◌, cond, drop, None}
use Rattle.table_scan.specs.Scan.{below33, cleanb, end_after}
use Rattle.table_scan.proofs.scan.rows_end.Given as goal

abbrev pub invariant-loop-w : goal.invariant-loop-w
invariant-loop-w l = (l.laps ≤ l.w-index) × (l.last < 2 ^ 32)
    × (cond (cleanb l.order l.words l.overs l.masks l.laps) (end_after (below33 l.order) (suc l.last) (drop l.w-index l.part)) None ≡ end_after (below33 l.order) l.floor l.part)
