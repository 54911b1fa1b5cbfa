-- `heap_grant::grant::first_class` meets its contract: the classes left have the first block that all have. Assumes nothing.
use mathlib.Core.Path.{refl, ◌∙◌}
use mathlib.Core.List.{[]}
use Rattle.heap_moves.specs.Moves.{mem}
use Rattle.heap_grant.proofs.Serving.{first-here, first-later, first-none}
use Rattle.heap_grant.proofs.grant.first_class.Goals as goal

pub loop-k-init : goal.loop-k-init
loop-k-init c = refl

pub returns-then-heads-k-ne0 : goal.returns-then-heads-k-ne0
returns-then-heads-k-ne0 c =
    let l = c.loop-k in
    let s = c.args in
    first-here s.order l.k (mem s.heads.now []) c.loop-k-test.true c.if-heads-k-ne0.true ∙ l.invariant

pub loop-k-preserved : goal.loop-k-preserved
loop-k-preserved c =
    let l = c.loop-k in
    let s = c.args in
    first-later s.order l.k (mem s.heads.now []) c.loop-k-test.true c.if-heads-k-ne0.false ∙ l.invariant

pub returns : goal.returns
returns c =
    let l = c.loop-k in
    let s = c.args in
    first-none s.order l.k (mem s.heads.now []) c.loop-k-test.false ∙ l.invariant
