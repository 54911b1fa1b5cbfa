-- `frame_core::picking::pick` meets its contract: what is left of the records, or else the best so far, is what the whole list gives. Assumes nothing.
use Rattle.std.proofs.Common.{ℕ, ◌+◌, ◌-◌, List, map, drop, sym, ap, ◌∙◌, arith, get_or-take, get_or-drop}
use Rattle.rules.specs.Rules.{smallest}
use Rattle.table.specs.Layout.{block_of}
use Rattle.table.proofs.Walked.{walked}
use Rattle.frame_core.proofs.Pass.{begins, takes, passes, fits-exactly, ends}
use Rattle.frame_core.proofs.picking.pick.Goals.{then-better+else-low-class, else-better}
use Rattle.frame_core.proofs.picking.pick.Goals as goal

pub loop-i-init : goal.loop-i-init
loop-i-init c = begins c.args.order c.args.class _ (omega arith) (omega arith)

pub returns-then-low-class : goal.returns-then-low-class
returns-then-low-class c =
    let p = takes c.loop-i.invariant c.loop-i-test.true (sym c.better.ensures ∙ c.if-better.true) _ c.class_of-low.ensures in
    let a = c.args in
    fits-exactly p c.if-low-class.true ∙ ap (λ (ws : List ℕ). smallest (a.order - a.class) a.class 0 (map block_of ws)) (walked a.t.now c.count_of-count.result c.count_of-count.ensures)

pub loop-i-preserved : goal.loop-i-preserved
loop-i-preserved c =
    elim c.if-better.branch [
      | then-better+else-low-class w ↦
          rw (w.low-is, w.best-is) (takes c.loop-i.invariant c.loop-i-test.true (sym c.better.ensures ∙ w.if-better.true) _ w.class_of-low.ensures)
      | else-better w ↦
          let n : ℕ = c.count_of-count.result + 1 - 1 in
          let e = get_or-take n (drop 1 c.args.t.now) c.loop-i.i 0 (omega arith) ∙ get_or-drop 1 c.args.t.now c.loop-i.i 0 in
          rw (w.low-is, w.best-is) (passes c.loop-i.invariant c.loop-i-test.true (omega (arith, e, (c.type_inv.t (1 + c.loop-i.i)).fits)) (sym c.better.ensures ∙ w.if-better.false))
    ]

pub returns : goal.returns
returns c =
    let a = c.args in
    ends c.loop-i.invariant (omega arith) ∙ ap (λ (ws : List ℕ). smallest (a.order - a.class) a.class 0 (map block_of ws)) (walked a.t.now c.count_of-count.result c.count_of-count.ensures)
