-- `frame_add::add::add_at` meets its contract: what it reads keeps to the bounds, and the moved tail, the written pieces and word 0 are the table
-- that has the pieces. Assumes nothing.
use Rattle.std.proofs.Common.{rules}
use Prim.Native.Nat.{◌+◌}
use mathlib.Core.Path.{◌≡◌, refl, ◌∙◌}
use native.Mathlib.Omega.{arith}
use lib.ListN.{length, length-set}
use Rattle.table.proofs.State.{zeros-after}
use Rattle.frame_add.proofs.Pieces.{bounds, range, refuses, places}
use Rattle.frame_add.proofs.add.add_at.Goals as goal

pub bounds-t-0 : goal.bounds-t-0
bounds-t-0 c =
    let b = bounds c.requires refl refl in
    omega arith

pub overflow_sub-top : goal.overflow_sub-top
overflow_sub-top c =
    let b = bounds c.requires c.order_of-order.ensures c.count_of-count.ensures in
    omega arith

pub overflow_sub-room : goal.overflow_sub-room
overflow_sub-room c =
    let b = bounds c.requires c.order_of-order.ensures c.count_of-count.ensures in
    omega arith

pub overflow_sub-room-2 : goal.overflow_sub-room-2
overflow_sub-room-2 c =
    let b = bounds c.requires c.order_of-order.ensures c.count_of-count.ensures in
    omega arith

pub pieces-more-requires : goal.pieces-more-requires
pieces-more-requires c =
    let b = bounds c.requires c.order_of-order.ensures c.count_of-count.ensures in
    (range c.requires c.order_of-order.ensures c.count_of-count.ensures, omega arith)

pub returns-then-room-more : goal.returns-then-room-more
returns-then-room-more c =
    refuses c.requires c.order_of-order.ensures c.count_of-count.ensures c.pieces-more.ensures (omega arith)

pub overflow_add-at : goal.overflow_add-at
overflow_add-at c =
    let b = bounds c.requires c.order_of-order.ensures c.count_of-count.ensures in
    omega arith

pub overflow_add-at-2 : goal.overflow_add-at-2
overflow_add-at-2 c =
    let b = bounds c.requires c.order_of-order.ensures c.count_of-count.ensures in
    omega arith

pub move_tail-requires : goal.move_tail-requires
move_tail-requires c =
    let b = bounds c.requires c.order_of-order.ensures c.count_of-count.ensures in
    (omega arith, omega arith, omega arith, zeros-after c.args.t.now c.requires.sound (λ k. search rules) (c.count_of-count.result + 1) (omega (arith, c.count_of-count.ensures)))

pub write_pieces-requires : goal.write_pieces-requires
write_pieces-requires c =
    let b = bounds c.requires c.order_of-order.ensures c.count_of-count.ensures in
    (range c.requires c.order_of-order.ensures c.count_of-count.ensures, omega arith)

pub bounds-t-0-2 : goal.bounds-t-0-2
bounds-t-0-2 c =
    let b = bounds c.requires c.order_of-order.ensures c.count_of-count.ensures in
    omega arith

pub shape_of-t : goal.shape_of-t
shape_of-t c =
    let l : length c.write_pieces.new.t ≡ length c.args.t.now = omega arith in
    length-set c.write_pieces.new.t 0 c.head_word.result ∙ l

pub returns : goal.returns
returns c =
    places c.requires c.order_of-order.ensures c.count_of-count.ensures c.pieces-more.ensures c.head_word.result c.move_tail.new.t c.write_pieces.new.t (omega arith)
    (λ k. search rules) c.move_tail.ensures c.write_pieces.ensures c.head_word.ensures
