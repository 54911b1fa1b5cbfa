-- `frame_halve::halving::write_halves` meets its contract: the words with what is still to be written in the window are what it leaves. Assumes nothing.
use mathlib.Core.Path.{refl, sym, ◌∙◌}
use Prim.Native.Nat.{◌-◌}
use native.Mathlib.Omega.{arith}
use lib.ListN.{length-set}
use Rattle.frame_halve.proofs.Windows.{halves, low_half, high_half, run-written}
use Rattle.frame_halve.proofs.halving.write_halves.Goals as goal

pub loop-k-init : goal.loop-k-init
loop-k-init c = (omega arith, omega arith, omega arith, omega arith, omega arith, refl, refl)

pub overflow_add-mid : goal.overflow_add-mid
overflow_add-mid c =
    let l = c.loop-k in
    let h = halves l.s (l.k - 1) l.k c.size_of.result (omega arith) (omega arith) (omega arith) c.size_of.ensures in
    omega arith

pub loop-k-preserved-then-run-mid : goal.loop-k-preserved-then-run-mid
loop-k-preserved-then-run-mid c =
    let l = c.loop-k in
    let a = c.args in
    let h = halves l.s (l.k - 1) l.k c.size_of.result (omega arith) (omega arith) (omega arith) c.size_of.ensures in (
      omega arith,
      omega arith,
      omega arith,
      omega arith,
      simp length-set (omega arith),
      simp length-set (omega arith),
      sym (low_half l.s (l.k - 1) l.k c.size_of.result (omega arith) (omega arith) (omega arith) c.size_of.ensures l.t a.class a.run l.lo
          l.hi c.record_word.result (omega arith) (omega arith) (omega arith) (omega arith) c.record_word.ensures)
          ∙ l.invariant.6,
    )

pub loop-k-preserved : goal.loop-k-preserved
loop-k-preserved c =
    let l = c.loop-k in
    let a = c.args in
    let h = halves l.s (l.k - 1) l.k c.size_of.result (omega arith) (omega arith) (omega arith) c.size_of.ensures in (
      omega arith,
      omega arith,
      omega arith,
      omega arith,
      simp length-set (omega arith),
      simp length-set (omega arith),
      sym (high_half l.s (l.k - 1) l.k c.size_of.result (omega arith) (omega arith) (omega arith) c.size_of.ensures l.t a.class a.run l.lo
          l.hi c.record_word-else-run-mid.result (omega arith) (omega arith) (omega arith) (omega arith) c.record_word-else-run-mid.ensures)
          ∙ l.invariant.6,
    )

pub shape_of-t : goal.shape_of-t
shape_of-t c = simp length-set (omega arith)

pub returns : goal.returns
returns c =
    let l = c.loop-k in
    let a = c.args in
    sym (run-written l.t a.class a.run l.s l.k l.lo l.hi c.record_word-2.result (omega arith) (omega arith) (omega arith) (omega arith)
    (omega arith) c.record_word-2.ensures)
    ∙ l.invariant.6
