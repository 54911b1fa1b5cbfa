-- `frame_add::add::pieces` meets its contract: the pieces counted and those still to count are all there are. Assumes nothing.
use native.Mathlib.Omega.{arith}
use Rattle.frame_add.proofs.Pieces.{next-piece, rest, count_turn, count-end}
use Rattle.frame_add.proofs.add.pieces.Goals as goal

pub loop-left-init : goal.loop-left-init
loop-left-init c = (c.requires.0, omega arith, omega arith)

pub overflow_add-from : goal.overflow_add-from
overflow_add-from c =
    let l = c.loop-left in
    let w = next-piece l.invariant.0 c.loop-left-test.true c.piece-size.ensures in
    omega (arith, l.invariant.0.within, w.within)

pub overflow_sub-left : goal.overflow_sub-left
overflow_sub-left c =
    let l = c.loop-left in
    let w = next-piece l.invariant.0 c.loop-left-test.true c.piece-size.ensures in
    w.within

pub loop-left-smaller : goal.loop-left-smaller
loop-left-smaller c =
    let l = c.loop-left in
    let w = next-piece l.invariant.0 c.loop-left-test.true c.piece-size.ensures in
    omega (arith, w.within, w.never_0)

pub loop-left-preserved : goal.loop-left-preserved
loop-left-preserved c =
    let l = c.loop-left in
    let h = c.loop-left-test.true in
    (rest l.invariant.0 h c.piece-size.ensures, omega arith, omega (arith, count_turn l.invariant.0 h c.piece-size.ensures))

pub returns : goal.returns
returns c =
    let l = c.loop-left in
    omega (arith, count-end c.args.top l.from l.left (omega arith))
