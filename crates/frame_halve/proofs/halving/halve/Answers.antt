-- `frame_halve::halving::halve` meets its contract: with room the splice is done, and without it no word is written. Assumes nothing.
use Rattle.std.proofs.Common.{rules}
use mathlib.Core.Path.{ap}
use Prim.Native.Nat.{ℕ, ◌+◌, ◌^◌}
use native.Mathlib.Omega.{arith}
use lib.ListN.{length-set}
use Rattle.table.proofs.State.{zeros-after}
use Rattle.frame_halve.proofs.Halves.{known, stays, grants}
use Rattle.frame_halve.proofs.halving.halve.Goals as goal

pub bounds-t-0 : goal.bounds-t-0
bounds-t-0 c =
    let k = known c.args.t.now c.args.i c.args.class c.requires in
    omega arith

pub bounds-t-i : goal.bounds-t-i
bounds-t-i c =
    let k = known c.args.t.now c.args.i c.args.class c.requires in
    omega arith

pub overflow_sub-more : goal.overflow_sub-more
overflow_sub-more c =
    let k = known c.args.t.now c.args.i c.args.class c.requires in
    omega (arith, c.class_of-from.ensures)

pub overflow_sub-t : goal.overflow_sub-t
overflow_sub-t c =
    let k = known c.args.t.now c.args.i c.args.class c.requires in
    omega arith

pub returns-then-t-count : goal.returns-then-t-count
returns-then-t-count c =
    let a = c.args in
    stays a.t.now a.i a.class a.run c.count_of-count.result c.class_of-from.result c.requires c.count_of-count.ensures
    c.class_of-from.ensures (omega arith)

pub move_tail-requires : goal.move_tail-requires
move_tail-requires c =
    let a = c.args in
    let k = known a.t.now a.i a.class c.requires in (
      omega (arith, c.count_of-count.ensures),
      omega (arith, c.count_of-count.ensures),
      omega arith,
      zeros-after a.t.now c.requires.sound (λ x. search rules) (c.count_of-count.result + 1) (omega (arith, c.count_of-count.ensures)),
    )

pub write_halves-requires : goal.write_halves-requires
write_halves-requires c =
    let k = known c.args.t.now c.args.i c.args.class c.requires in (
      omega (arith, c.class_of-from.ensures),
      omega (arith, c.class_of-from.ensures),
      omega (arith, c.start_of.ensures, ap (λ (x : ℕ). 2 ^ x) c.class_of-from.ensures),
      omega (arith, c.count_of-count.ensures),
    )

pub shape_of-t : goal.shape_of-t
shape_of-t c =
    simp length-set (omega arith)

pub returns : goal.returns
returns c =
    let a = c.args in
    grants a.t.now a.i a.class a.run c.count_of-count.result c.class_of-from.result c.requires c.count_of-count.ensures c.class_of-from.ensures (omega arith)
    (λ x. search rules) c.start_of.result c.order_of.result c.head_word.result c.move_tail.new.t c.write_halves.new.t
    c.start_of.ensures c.order_of.ensures c.move_tail.ensures c.write_halves.ensures c.head_word.ensures
