-- `heap_pairs::pairs::class_apart` meets its contract: the nodes left are compared as all are. Assumes nothing.
use mathlib.Core.Path.{refl, sym, ◌∙◌}
use Prim.Native.Nat.{◌-◌}
use native.Mathlib.Omega.{arith}
use Rattle.heap_pairs.specs.Pairs.{later_blocks}
use Rattle.heap_pairs.proofs.Crossing.{cross-end, cross-out, cross-step}
use Rattle.heap_pairs.proofs.pairs.class_apart.Goals as goal

pub loop-node-init : goal.loop-node-init
loop-node-init c = refl

pub returns-then-left-eq0 : goal.returns-then-left-eq0
returns-then-left-eq0 c =
    let a = c.args in
    sym (cross-out a.class c.loop-node.left a.arena.now c.loop-node.node (later_blocks a.class a.heads.now a.arena.now a.records.now) c.if-left-eq0.true) ∙ c.loop-node.invariant

pub returns-then-not-node_apart : goal.returns-then-not-node_apart
returns-then-not-node_apart c =
    let a = c.args in
    let later = later_blocks a.class a.heads.now a.arena.now a.records.now in
    let step = cross-step a.class c.loop-node.left a.arena.now c.loop-node.node later (c.loop-node.left - 1) (omega arith) c.loop-node-test.true in
    let e = rw c.next-after.ensures at c.node_apart.ensures in
    let bad = sym e ∙ c.if-not-node_apart.true in
    sym (step ∙ rw bad) ∙ c.loop-node.invariant

pub loop-node-preserved : goal.loop-node-preserved
loop-node-preserved c =
    let a = c.args in
    let later = later_blocks a.class a.heads.now a.arena.now a.records.now in
    let step = cross-step a.class c.loop-node.left a.arena.now c.loop-node.node later (c.loop-node.left - 1) (omega arith) c.loop-node-test.true in
    let e = rw c.next-after.ensures at c.node_apart.ensures in
    let good = sym e ∙ c.if-not-node_apart.false in
    rw c.next-after.ensures (rw good at (sym step) ∙ c.loop-node.invariant)

pub returns : goal.returns
returns c =
    let a = c.args in
    sym (cross-end a.class c.loop-node.left a.arena.now c.loop-node.node (later_blocks a.class a.heads.now a.arena.now a.records.now) c.loop-node-test.false) ∙ c.loop-node.invariant
