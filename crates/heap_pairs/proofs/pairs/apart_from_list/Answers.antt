-- `heap_pairs::pairs::apart_from_list` meets its contract: the nodes left are compared as all are. Assumes nothing.
use mathlib.Core.Path.{refl, sym, ◌∙◌}
use Prim.Native.Nat.{◌-◌}
use native.Mathlib.Omega.{arith}
use lib.Pow.{pow_pos}
use Rattle.heap_blocks.specs.Sound.{blk}
use Rattle.blocks.proofs.Powers.{one_shl}
use Rattle.heap_pairs.proofs.Crossing.{from_end, from_out, from_step}
use Rattle.heap_pairs.proofs.pairs.apart_from_list.Goals as goal

pub loop-node-init : goal.loop-node-init
loop-node-init c = refl

pub returns-then-left-eq0 : goal.returns-then-left-eq0
returns-then-left-eq0 c =
    let l = c.loop-node in
    let a = c.args in
    sym (from_out (blk a.class a.address) a.other l.left a.arena.now l.node c.if-left-eq0.true) ∙ l.invariant

pub apart-requires : goal.apart-requires
apart-requires c =
    let a = c.args in
    rw (one_shl a.class c.requires.0, one_shl a.other c.requires.1) (pow_pos a.class, pow_pos a.other)

pub returns-then-not-apart : goal.returns-then-not-apart
returns-then-not-apart c =
    let l = c.loop-node in
    let a = c.args in
    let step = from_step (blk a.class a.address) a.other l.left a.arena.now l.node (l.left - 1) (omega arith) c.loop-node-test.true in
    let e = rw (one_shl a.class c.requires.0, one_shl a.other c.requires.1) at c.apart.ensures in
    let bad = sym e ∙ c.if-not-apart.true in
    sym (step ∙ rw bad) ∙ l.invariant

pub loop-node-preserved : goal.loop-node-preserved
loop-node-preserved c =
    let l = c.loop-node in
    let a = c.args in
    let step = from_step (blk a.class a.address) a.other l.left a.arena.now l.node (l.left - 1) (omega arith) c.loop-node-test.true in
    let e = rw (one_shl a.class c.requires.0, one_shl a.other c.requires.1) at c.apart.ensures in
    let good = sym e ∙ c.if-not-apart.false in
    rw c.next-node.ensures (rw good at (sym step) ∙ l.invariant)

pub returns : goal.returns
returns c =
    let l = c.loop-node in
    let a = c.args in
    sym (from_end (blk a.class a.address) a.other l.left a.arena.now l.node c.loop-node-test.false) ∙ l.invariant
