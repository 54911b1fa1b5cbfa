-- `frame_add::add::write_pieces` meets its contract: the words with the pieces that are still to write are those asked for. Assumes nothing.
use mathlib.Core.Path.{refl, sym, ◌∙◌}
use Prim.Native.Nat.{◌<◌}
use native.Mathlib.Omega.{arith}
use lib.ListN.{length, length-set}
use Rattle.frame_add.proofs.Pieces.{next-piece, rest, count_turn, write-turn, write-end}
use Rattle.frame_add.proofs.add.write_pieces.Goals as goal

pub loop-left-init : goal.loop-left-init
loop-left-init c = (c.requires.0, refl, c.requires.1, refl)

pub offset_bounds-t-p : goal.offset_bounds-t-p
offset_bounds-t-p c =
    let l = c.loop-left in
    omega (arith, count_turn l.invariant.0 c.loop-left-test.true c.piece-size.ensures)

pub bounds-t-p : goal.bounds-t-p
bounds-t-p c =
    let l = c.loop-left in
    omega (arith, count_turn l.invariant.0 c.loop-left-test.true c.piece-size.ensures)

pub overflow_add-s : goal.overflow_add-s
overflow_add-s c =
    let l = c.loop-left in
    let w = next-piece l.invariant.0 c.loop-left-test.true c.piece-size.ensures in
    omega (arith, l.invariant.0.within, w.within)

pub overflow_sub-left : goal.overflow_sub-left
overflow_sub-left c =
    let l = c.loop-left in
    let w = next-piece l.invariant.0 c.loop-left-test.true c.piece-size.ensures in
    w.within

pub overflow_add-p : goal.overflow_add-p
overflow_add-p c =
    let l = c.loop-left in
    omega (arith, count_turn l.invariant.0 c.loop-left-test.true c.piece-size.ensures)

pub loop-left-smaller : goal.loop-left-smaller
loop-left-smaller c =
    let l = c.loop-left in
    let w = next-piece l.invariant.0 c.loop-left-test.true c.piece-size.ensures in
    omega (arith, w.within, w.never_0)

pub loop-left-preserved : goal.loop-left-preserved
loop-left-preserved c =
    let l = c.loop-left in
    let h = c.loop-left-test.true in
    let k = count_turn l.invariant.0 h c.piece-size.ensures in
    let b : l.p < length l.t = omega arith in (
      rest l.invariant.0 h c.piece-size.ensures,
      simp length-set l.invariant.1,
      simp length-set (omega arith),
      l.invariant.3
          ∙ write-turn l.invariant.0 h c.piece-size.ensures l.t l.p c.class_of.result c.record_word.result b c.class_of.ensures
          c.record_word.ensures,
    )

pub returns : goal.returns
returns c =
    let l = c.loop-left in
    sym (l.invariant.3 ∙ write-end c.args.top l.s l.left l.p l.t (omega arith))
