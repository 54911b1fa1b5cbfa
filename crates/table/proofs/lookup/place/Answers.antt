-- `table::place` meets its contract: of the records that start at or before the frame, the last may have it. Assumes nothing.
use Rattle.std.proofs.Common.{◌+◌, ◌≤◌, leb, length, sym, rules, arith}
use Rattle.std.proofs.lemmas.List.Sorted.{IsPartitionPoint-from_clause}
use Rattle.table.specs.Layout.{start_of}
use Rattle.table.proofs.Facts.{sound-fact}
use Rattle.table.proofs.Search.{parted, is-inside, none-before, is-past}
use Rattle.table.proofs.lookup.place.Goals.{else-n-gt0-via-then-n-gt0+else-frame-end_of, else-n-gt0-via-else-n-gt0}
use Rattle.table.proofs.lookup.place.Goals as goal

pub bounds-t-0 : goal.bounds-t-0
bounds-t-0 c = omega (arith, sound-fact c.args.t.now c.requires)

pub slice_bounds-partition_point-end : goal.slice_bounds-partition_point-end
slice_bounds-partition_point-end c =
    let h : c.count_of-count.result + 1 ≤ length c.args.t.now = omega (arith, sound-fact c.args.t.now c.requires, c.count_of-count.ensures) in
    search rules

pub returns-then-frame-end_of : goal.returns-then-frame-end_of
returns-then-frame-end_of c =
    let a = c.args in
    let count = c.count_of-count in
    let n = c.partition_point-n in
    let point = IsPartitionPoint-from_clause (λ w. leb (start_of w) a.frame) _ _ n.ensures.partitioned (parted a.t.now c.requires a.frame count.result count.ensures) (λ x r q k. search rules) in
    sym (is-inside a.t.now c.requires a.frame count.result n.result count.ensures n.ensures.bound point c.if-n-gt0.true (omega (arith, c.end_of.ensures)))

pub returns-else-n-gt0 : goal.returns-else-n-gt0
returns-else-n-gt0 c =
    let a = c.args in
    let count = c.count_of-count in
    let n = c.partition_point-n in
    let point = IsPartitionPoint-from_clause (λ w. leb (start_of w) a.frame) _ _ n.ensures.partitioned (parted a.t.now c.requires a.frame count.result count.ensures) (λ x r q k. search rules) in
    elim c.else-n-gt0.branch [
      | else-n-gt0-via-then-n-gt0+else-frame-end_of w ↦
          sym (is-past a.t.now c.requires a.frame count.result n.result count.ensures n.ensures.bound point w.if-n-gt0.true (omega (arith, w.end_of.ensures, w.if-frame-end_of.false)))
      | else-n-gt0-via-else-n-gt0 w ↦ sym (none-before a.t.now c.requires a.frame count.result n.result count.ensures n.ensures.bound point (omega (arith, w.if-n-gt0.false)))
    ]
