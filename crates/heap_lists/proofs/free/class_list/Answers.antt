-- `heap_lists::free::class_list` meets its contract. Assumes nothing.
use native.Mathlib.Omega.{arith}
use lib.ListN.{length}
use Rattle.heap_blocks.proofs.Walks.{blocks_end}
use Rattle.heap_blocks.proofs.Classes.{class-empty, class_low, class-high, class-own}
use Rattle.heap_lists.proofs.free.class_list.Goals as goal

pub returns-then-head-eq0 : goal.returns-then-head-eq0
returns-then-head-eq0 c =
    let a = c.args in
    rw (class-empty a.order a.class a.arena.now a.head c.if-head-eq0.true, blocks_end a.class (length a.arena.now) a.arena.now a.head c.if-head-eq0.true)

pub returns-then-class-lt3 : goal.returns-then-class-lt3
returns-then-class-lt3 c =
    let a = c.args in
    rw (class_low a.order a.class a.arena.now a.head c.if-head-eq0.false (omega arith))

pub returns-then-class-order : goal.returns-then-class-order
returns-then-class-order c =
    let a = c.args in
    rw (class-high a.order a.class a.arena.now a.head c.if-head-eq0.false (omega arith))

pub returns : goal.returns
returns c =
    let a = c.args in
    rw (class-own a.order a.class a.arena.now a.head (omega arith) (omega arith)) c.walk.ensures
