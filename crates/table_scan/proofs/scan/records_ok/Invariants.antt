-- `table_scan::scan::records_ok` meets its contract. Assumes nothing.
use Rattle.std.specs.Prelude.{◌≡◌, ◌≤◌, ◌^◌, ◌&&◌, is_some}
use Rattle.std.specs.Slice.Iter.{chunks_rest, chunks_size}
use Rattle.table.specs.Sound.{recordsb, apartb}
use Rattle.table_scan.specs.Scan.{below33, end_after}
use Rattle.table_scan.proofs.scan.records_ok.Given as goal

abbrev pub invariant-loop-part : goal.invariant-loop-part
invariant-loop-part l = goal.iterator-loop-part.can_next l.part-iterator × goal.iterator-loop-part.is_finite l.part-iterator × (chunks_size l.part-iterator ≡ 1024)
    × (1 ≤ l.floor) × (l.floor ≤ 2 ^ 32)
    × (is_some (end_after (below33 l.order) l.floor (chunks_rest l.part-iterator)) ≡ recordsb l.order l.records && apartb 0 l.records)
