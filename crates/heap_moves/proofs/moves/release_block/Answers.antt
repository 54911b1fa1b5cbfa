-- `heap_moves::moves::release_block` meets its contract: the joins to come, with the count so far, come to the whole release. Assumes nothing.
use mathlib.Core.Path.{refl, ◌∙◌}
use native.Mathlib.Omega.{arith}
use borrow.Author.Tests.{not-true, not-false}
use Rattle.heap_moves.specs.Moves.{mem}
use Rattle.heap_moves.proofs.Joining.{joins-start, join-miss, join-hit, join-none, looked-few, release-is}
use Rattle.heap_moves.proofs.moves.release_block.Goals as goal

pub loop-k-init : goal.loop-k-init
loop-k-init c = (joins-start _ _ _ _ c.requires.0, refl)

pub overflow_add-compared : goal.overflow_add-compared
overflow_add-compared c =
    let l = c.loop-k in
    omega (arith, looked-few c.args.top l.k l.low l.compared (mem l.heads l.arena) _ _ c.find-search.result (c.buddy-buddy.ensures, refl, c.find-search.ensures), l.invariant.0.few, l.invariant.0.is_class, l.invariant.1, c.push.auto.arena, c.requires.2)

pub returns-then-not-search : goal.returns-then-not-search
returns-then-not-search c =
    let l = c.loop-k in
    join-miss c.args.top l.k l.low l.compared (mem l.heads l.arena) _ _ c.find-search.result c.loop-k-test.true (c.buddy-buddy.ensures, refl, c.find-search.ensures) (not-true _ c.if-not-search.true)
    ∙ l.invariant.0.rest ∙ release-is c.args.top c.args.class c.args.block _ _ c.push.ensures

pub push-requires-in-loop-k : goal.push-requires-in-loop-k
push-requires-in-loop-k c =
    omega (arith, c.loop-k-test.true, c.requires.1)

pub loop-k-preserved : goal.loop-k-preserved
loop-k-preserved c =
    let l = c.loop-k in
    let more = c.loop-k-test.true in
    let asked = c.buddy-buddy.ensures in (
      record {
        rest = join-hit c.args.top l.k l.low l.compared (mem l.heads l.arena) _ _ c.find-search.result _ _ _ _ more (asked, refl, c.find-search.ensures) (not-false _ c.if-not-search.false) c.take_out.ensures c.drop_first.ensures c.min-low.ensures c.push-in-loop-k.ensures ∙ l.invariant.0.rest;
        few = omega (arith, looked-few c.args.top l.k l.low l.compared (mem l.heads l.arena) _ _ c.find-search.result (asked, refl, c.find-search.ensures), l.invariant.0.few, l.invariant.0.low-class, l.invariant.1, c.push.auto.arena, c.requires.2);
        low-class = omega (arith, l.invariant.0.low-class);
        is_class = omega (arith, more, c.requires.1);
      },
      c.push-in-loop-k.auto.arena ∙ c.take_out.auto.arena ∙ l.invariant.1,
    )

pub returns : goal.returns
returns c =
    let l = c.loop-k in
    join-none c.args.top l.k l.low l.compared (mem l.heads l.arena) c.loop-k-test.false ∙ l.invariant.0.rest ∙ release-is c.args.top c.args.class c.args.block _ _ c.push.ensures
