-- `heap_moves::moves::push_pieces` meets its contract: what is left to push, of what is there, comes to the whole. Assumes nothing.
use mathlib.Core.Path.{refl, sym, ◌∙◌}
use native.Mathlib.Omega.{arith}
use Rattle.heap_moves.specs.Moves.{mem}
use Rattle.heap_moves.proofs.Pushing.{piece-fits, piece-class, push-turn, push-end}
use Rattle.heap_moves.proofs.moves.push_pieces.Goals as goal

pub loop-left-init : goal.loop-left-init
loop-left-init c = (refl, refl, refl)

pub push-requires : goal.push-requires
push-requires c =
    let l = c.loop-left in
    omega (arith, c.class_of.ensures, piece-class c.args.top l.from l.left _ c.requires.0 (omega (arith, l.invariant.1, c.requires.1)) c.loop-left-test.true c.piece-size.ensures)

pub overflow_add-from : goal.overflow_add-from
overflow_add-from c =
    let l = c.loop-left in
    let f = piece-fits c.args.top l.from l.left _ c.requires.0 (omega (arith, l.invariant.1, c.requires.1)) c.loop-left-test.true c.piece-size.ensures in
    omega (arith, f.1, l.invariant.1, c.requires.1)

pub overflow_sub-left : goal.overflow_sub-left
overflow_sub-left c =
    let l = c.loop-left in
    let f = piece-fits c.args.top l.from l.left _ c.requires.0 (omega (arith, l.invariant.1, c.requires.1)) c.loop-left-test.true c.piece-size.ensures in
    f.1

pub loop-left-smaller : goal.loop-left-smaller
loop-left-smaller c =
    let l = c.loop-left in
    let f = piece-fits c.args.top l.from l.left _ c.requires.0 (omega (arith, l.invariant.1, c.requires.1)) c.loop-left-test.true c.piece-size.ensures in
    omega (arith, f.0, f.1)

pub loop-left-preserved : goal.loop-left-preserved
loop-left-preserved c =
    let l = c.loop-left in
    let f = piece-fits c.args.top l.from l.left _ c.requires.0 (omega (arith, l.invariant.1, c.requires.1)) c.loop-left-test.true c.piece-size.ensures in (
      push-turn c.args.top l.from l.left _ c.requires.0 (omega (arith, l.invariant.1, c.requires.1)) c.loop-left-test.true c.piece-size.ensures _ _ _ c.class_of.ensures c.push.ensures ∙ l.invariant.0,
      omega (arith, f.1, l.invariant.1),
      c.push.auto.arena ∙ l.invariant.2,
    )

pub returns : goal.returns
returns c =
    let l = c.loop-left in
    sym (push-end c.args.top l.from l.left (mem l.heads l.arena) c.loop-left-test.false) ∙ l.invariant.0
