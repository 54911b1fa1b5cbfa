-- `heap_pairs::pairs::apart_from_lists` meets its contract: the classes left are compared as all are. Assumes nothing.
use mathlib.Core.Path.{◌≡◌, refl, sym, ◌∙◌}
use lib.ListN.{length, get_or}
use Rattle.linked_list.proofs.Steps.{nodes-end}
use native.Mathlib.Omega.{arith}
use Rattle.heap_blocks.specs.Sound.{blk}
use Rattle.heap_pairs.proofs.Crossing.{lists-step, lists-end}
use Rattle.heap_pairs.proofs.pairs.apart_from_lists.Goals as goal

pub loop-other-init : goal.loop-other-init
loop-other-init c = refl

pub returns-then-not-apart_from_list : goal.returns-then-not-apart_from_list
returns-then-not-apart_from_list c =
    let a = c.args in
    let step = lists-step (blk a.class a.address) a.heads.now a.arena.now c.loop-other.other (omega arith) in
    let bad = sym c.apart_from_list.ensures ∙ c.if-not-apart_from_list.true in
    sym (step ∙ rw bad) ∙ c.loop-other.invariant

pub loop-other-preserved-then-heads-other-eq0 : goal.loop-other-preserved-then-heads-other-eq0
loop-other-preserved-then-heads-other-eq0 c =
    let a = c.args in
    let step = lists-step (blk a.class a.address) a.heads.now a.arena.now c.loop-other.other (omega arith) in
    let none : get_or a.heads.now c.loop-other.other 0 ≡ 0 = omega (arith, c.if-heads-other-eq0.true) in
    rw (none, nodes-end (length a.arena.now) a.arena.now) at (sym step) ∙ c.loop-other.invariant

pub loop-other-preserved : goal.loop-other-preserved
loop-other-preserved c =
    let a = c.args in
    let step = lists-step (blk a.class a.address) a.heads.now a.arena.now c.loop-other.other (omega arith) in
    let good = sym c.apart_from_list.ensures ∙ c.if-not-apart_from_list.false in
    rw good at (sym step) ∙ c.loop-other.invariant

pub returns : goal.returns
returns c =
    let a = c.args in
    sym (lists-end (blk a.class a.address) a.heads.now a.arena.now c.loop-other.other (omega arith)) ∙ c.loop-other.invariant
