-- `frame_release::release::release_at` meets its contract: the span that `join` found is closed by one splice. Assumes nothing.
use Rattle.std.proofs.Common.{rules}
use Prim.Native.Nat.{◌+◌}
use mathlib.Core.Path.{refl}
use native.Mathlib.Omega.{arith}
use lib.ListN.{length-set}
use Rattle.table.proofs.State.{zeros-after}
use Rattle.frame_release.proofs.Releases.{known, released}
use Rattle.frame_release.proofs.release.release_at.Goals as goal

pub bounds-t-0 : goal.bounds-t-0
bounds-t-0 c =
    let k = known c.args.t.now c.args.i _ c.requires refl in
    omega (arith, k.long)

pub move_tail-requires : goal.move_tail-requires
move_tail-requires c =
    let k = known c.args.t.now c.args.i c.count_of-count.result c.requires c.count_of-count.ensures in
    let w = c.join-span.ensures in (
      omega (arith, w.within, c.count_of-count.ensures),
      omega (arith, k.long),
      omega (arith, w.low, w.high, k.long),
      zeros-after c.args.t.now c.requires.sound (λ j. search rules) (c.count_of-count.result + 1) (omega (arith, c.count_of-count.ensures)),
    )

pub bounds-t-from : goal.bounds-t-from
bounds-t-from c =
    let k = known c.args.t.now c.args.i c.count_of-count.result c.requires c.count_of-count.ensures in
    let w = c.join-span.ensures in
    omega (arith, w.low, k.here, k.long)

pub bounds-t-0-2 : goal.bounds-t-0-2
bounds-t-0-2 c =
    let k = known c.args.t.now c.args.i c.count_of-count.result c.requires c.count_of-count.ensures in
    simp length-set (omega (arith, k.long))

pub returns : goal.returns
returns c =
    let a = c.args in
    released a.t.now a.i c.count_of-count.result c.requires c.count_of-count.ensures c.join-span.result.from c.join-span.result.to c.join-span.result.class c.join-span.result.start c.join-span.ensures
    (λ x. search rules) c.order_of.result c.head_word.result c.record_word.result c.move_tail.new.t c.order_of.ensures c.move_tail.ensures
    c.record_word.ensures c.head_word.ensures
