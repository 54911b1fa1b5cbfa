-- `heap_lists::free::walk` meets its contract: the blocks before are in their place and added up. Assumes nothing.
use mathlib.Core.Path.{◌≡◌, sym, ◌∙◌}
use mathlib.Core.Logic.{inl}
use Prim.Native.Nat.{◌≤◌}
use native.Mathlib.Omega.{arith}
use lib.ListN.{length}
use Rattle.linked_list.specs.Links.{nodes}
use Rattle.linked_list.proofs.Chains.{nodes-few}
use Rattle.blocks.proofs.Powers.{one_shl}
use Rattle.heap_lists.proofs.Walking.{walk-start, walk-end, walk-long, walk-misplaced, walk-fits, walk-on}
use Rattle.heap_lists.proofs.free.walk.Goals as goal

pub loop-before-init-derived : goal.loop-before-init-derived
loop-before-init-derived c =
    let a = c.args in
    let all : c.into_iter-before-iterator.result.iter ≡ nodes (length a.arena.now) a.arena.now a.head = cc in
    let few : length c.into_iter-before-iterator.result.iter ≤ length a.arena.now = rw all (nodes-few (length a.arena.now) a.arena.now a.head) in
    let none : c.into_iter-before-iterator.result.count ≡ 0 = cc in
    ((tt, tt, inl (omega arith)), tt)

pub loop-before-init : goal.loop-before-init
loop-before-init c =
    let a = c.args in
    let all : c.into_iter-before-iterator.result.iter ≡ nodes (length a.arena.now) a.arena.now a.head = cc in
    let none : c.into_iter-before-iterator.result.count ≡ 0 = cc in
    rw (all, none) (walk-start a.class a.head a.arena.now (omega arith))

pub returns-then-before-arena : goal.returns-then-before-arena
returns-then-before-arena c =
    let a = c.args in
    walk-long a.class a.head a.arena.now _ _ _ c.loop-before.invariant c.in-Some.node _ c.in-Some.ensures.steps.0 (omega (arith, c.in-Some.ensures.steps.1))

pub returns-then-not-placed : goal.returns-then-not-placed
returns-then-not-placed c =
    let a = c.args in
    walk-misplaced a.class a.head a.arena.now _ _ _ c.loop-before.invariant c.in-Some.node _ c.in-Some.ensures.steps.0 (sym c.placed.ensures ∙ c.if-not-placed.true)

pub overflow_add-bytes : goal.overflow_add-bytes
overflow_add-bytes c =
    let a = c.args in
    omega (arith, one_shl a.class (omega arith), walk-fits a.class a.head a.arena.now _ _ _ c.loop-before.invariant c.in-Some.node _ c.in-Some.ensures.steps.0 c.requires.0 c.requires.2)

pub loop-before-preserved : goal.loop-before-preserved
loop-before-preserved c =
    let a = c.args in
    let on = walk-on a.class a.head a.arena.now _ _ _ c.loop-before.invariant c.in-Some.node _ c.in-Some.ensures.steps.0 (λ e. c.if-before-arena.false (omega (arith, c.in-Some.ensures.steps.1)))
    (sym c.placed.ensures ∙ c.if-not-placed.false) in
    rw (one_shl a.class (omega arith), c.in-Some.ensures.steps.2) on

pub returns : goal.returns
returns c =
    let a = c.args in
    walk-end a.class a.head a.arena.now _ _ _ c.loop-before.invariant c.in-None.ensures.steps.0.0
