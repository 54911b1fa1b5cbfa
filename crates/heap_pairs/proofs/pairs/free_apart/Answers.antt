-- `heap_pairs::pairs::free_apart` meets its contract: the classes left are compared as all are. Assumes nothing.
use mathlib.Core.Path.{refl, sym, ◌∙◌}
use native.Mathlib.Omega.{arith}
use Rattle.heap_blocks.specs.Parts.{blocks_of}
use Rattle.heap_pairs.proofs.Crossing.{classes-step, classes-end}
use Rattle.heap_pairs.proofs.pairs.free_apart.Goals as goal

pub loop-class-init : goal.loop-class-init
loop-class-init c = refl

pub returns-then-not-class_apart : goal.returns-then-not-class_apart
returns-then-not-class_apart c =
    let a = c.args in
    let step = classes-step a.heads.now a.arena.now (blocks_of a.records.now) c.loop-class.class (omega arith) in
    let bad = sym c.class_apart.ensures ∙ c.if-not-class_apart.true in
    sym (step ∙ rw bad) ∙ c.loop-class.invariant

pub loop-class-preserved : goal.loop-class-preserved
loop-class-preserved c =
    let a = c.args in
    let step = classes-step a.heads.now a.arena.now (blocks_of a.records.now) c.loop-class.class (omega arith) in
    let good = sym c.class_apart.ensures ∙ c.if-not-class_apart.false in
    rw good at (sym step) ∙ c.loop-class.invariant

pub returns : goal.returns
returns c =
    let a = c.args in
    sym (classes-end a.heads.now a.arena.now (blocks_of a.records.now) c.loop-class.class (omega arith)) ∙ c.loop-class.invariant
