-- `heap_lists::free::free_lists` meets its contract: the lists before passed and are added up. Assumes nothing.
use mathlib.Core.Path.{refl}
use native.Mathlib.Omega.{arith}
use Rattle.heap_lists.proofs.Tallies.{passed-none, passed-all, passed-wrong, passed-fits, passed-on}
use Rattle.heap_lists.proofs.free.free_lists.Goals as goal

pub loop-class-init : goal.loop-class-init
loop-class-init c = passed-none c.args.order c.args.heads.now c.args.arena.now 0

pub returns-in_err-bytes : goal.returns-in_err-bytes
returns-in_err-bytes c =
    let a = c.args in
    rw c.from_residual.ensures (passed-wrong a.order a.heads.now a.arena.now 0 c.loop-class.class c.loop-class.bytes c.loop-class.invariant c.told-heads (omega arith) (omega arith) c.in_err-bytes.ensures)

pub overflow_add-bytes : goal.overflow_add-bytes
overflow_add-bytes c =
    let a = c.args in
    omega (arith, passed-fits a.order a.heads.now a.arena.now 0 c.loop-class.class c.loop-class.bytes c.loop-class.invariant c.told-heads (omega arith) (omega arith) _ refl (omega arith) c.in_ok-bytes.ensures)

pub loop-class-preserved : goal.loop-class-preserved
loop-class-preserved c =
    let a = c.args in
    passed-on a.order a.heads.now a.arena.now 0 c.loop-class.class c.loop-class.bytes c.loop-class.invariant c.told-heads (omega arith) (omega arith) _ c.in_ok-bytes.ensures

pub returns : goal.returns
returns c =
    let a = c.args in
    passed-all a.order a.heads.now a.arena.now 0 c.loop-class.class c.loop-class.bytes c.loop-class.invariant c.told-heads (omega arith)
