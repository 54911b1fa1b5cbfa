-- `frame_core::tally::count_frames` meets its contract: the figures so far and those of the records to come are the table's. Assumes nothing.
use Rattle.std.proofs.Common.{◌+◌, ◌≤◌, length, arith, rules}
use Rattle.table.proofs.Facts.{sound-fact}
use Rattle.table.proofs.Walked.{walked, walked-sound}
use Rattle.frame_core.proofs.Tallies.{begins, ends, fits, goes_on, size-is}
use Rattle.frame_core.proofs.tally.count_frames.Goals as goal

pub bounds-t-0 : goal.bounds-t-0
bounds-t-0 c = omega (arith, sound-fact _ c.requires)

pub slice_bounds-w-items-end : goal.slice_bounds-w-items-end
slice_bounds-w-items-end c =
    let h : c.count_of-count.result + 1 ≤ length c.args.t.now = omega (arith, sound-fact _ c.requires) in
    search rules

pub loop-w-init : goal.loop-w-init
loop-w-init c = begins _

pub overflow_sub-granted : goal.overflow_sub-granted
overflow_sub-granted c =
    let w = walked-sound c.args.t.now c.count_of-count.result c.count_of-count.ensures c.requires in
    (fits _ _ c.loop-w-test.true c.loop-w.invariant _ _ (size-is _ _ _ c.end_of.ensures c.start_of.ensures) c.free_of-free.ensures w).part_of

pub overflow_add-granted : goal.overflow_add-granted
overflow_add-granted c =
    let w = walked-sound c.args.t.now c.count_of-count.result c.count_of-count.ensures c.requires in
    let f = fits _ _ c.loop-w-test.true c.loop-w.invariant _ _ (size-is _ _ _ c.end_of.ensures c.start_of.ensures) c.free_of-free.ensures w in
    record { fits = omega (arith, f.granted-fit) }

pub overflow_add-managed : goal.overflow_add-managed
overflow_add-managed c =
    let w = walked-sound c.args.t.now c.count_of-count.result c.count_of-count.ensures c.requires in
    let f = fits _ _ c.loop-w-test.true c.loop-w.invariant _ _ (size-is _ _ _ c.end_of.ensures c.start_of.ensures) c.free_of-free.ensures w in
    record { fits = omega (arith, f.managed-fit) }

pub loop-w-preserved : goal.loop-w-preserved
loop-w-preserved c = goes_on _ _ c.loop-w-test.true c.loop-w.invariant _ _ (size-is _ _ _ c.end_of.ensures c.start_of.ensures) c.free_of-free.ensures _ c.max-largest.ensures

pub returns : goal.returns
returns c =
    let e = walked c.args.t.now c.count_of-count.result c.count_of-count.ensures in
    rw (← e) (ends _ c.loop-w.w-index c.loop-w.granted c.loop-w.managed c.loop-w.largest c.loop-w-test.false c.loop-w.invariant)
