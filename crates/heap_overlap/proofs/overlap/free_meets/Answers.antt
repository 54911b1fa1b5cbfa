-- `heap_overlap::overlap::free_meets` meets its contract: the classes left decide as all of them do. Assumes nothing.
use mathlib.Core.Path.{refl, ◌∙◌}
use Rattle.heap_moves.specs.Moves.{mem}
use Rattle.heap_overlap.proofs.Overlaps.{free-hit, free-miss, free-none}
use Rattle.heap_overlap.proofs.overlap.free_meets.Goals as goal

pub loop-k-init : goal.loop-k-init
loop-k-init c = refl

pub returns-then-list_meets : goal.returns-then-list_meets
returns-then-list_meets c =
    let l = c.loop-k in
    let s = c.args in
    free-hit s.start s.end l.k (mem s.heads.now s.arena.now) _ c.loop-k-test.true (rw c.iter-nodes.ensures at c.list_meets.ensures) c.if-list_meets.true ∙ l.invariant

pub loop-k-preserved : goal.loop-k-preserved
loop-k-preserved c =
    let l = c.loop-k in
    let s = c.args in
    free-miss s.start s.end l.k (mem s.heads.now s.arena.now) _ c.loop-k-test.true (rw c.iter-nodes.ensures at c.list_meets.ensures) c.if-list_meets.false ∙ l.invariant

pub returns : goal.returns
returns c =
    let l = c.loop-k in
    let s = c.args in
    free-none s.start s.end l.k (mem s.heads.now s.arena.now) c.loop-k-test.false ∙ l.invariant
