-- `frame_grant::grant::grant_block` meets its contract: the block that `pick` finds is the one that serves, and it is halved. Assumes nothing.
use mathlib.Core.Path.{◌≡◌, ap, ◌∙◌}
use Rattle.answers.specs.declared.Refusal.TheVariants.{NoBlock}
use Rattle.std.proofs.lemmas.Result.{err_from_is_err_and}
use Prim.Native.Nat.{ℕ, ◌-◌}
use native.Mathlib.Omega.{arith}
use Rattle.rules.specs.Rules.{smallest}
use Rattle.table.specs.Layout.{blocks_of}
use Rattle.table.proofs.Facts.{sound-fact}
use Rattle.frame_core.proofs.Saying.{same-refusal}
use Rattle.frame_grant.proofs.Granting.{too_large, no_block, here, halvable, granted-from}
use Rattle.frame_grant.proofs.grant.grant_block.Goals as goal

pub returns-in_err-class : goal.returns-in_err-class
returns-in_err-class c =
    let none = c.in_err-class.ensures.ok_part in
    let p = err_from_is_err_and c.from_residual.result c.from_residual.ensures.1 in
    let v : c.in_err-class.field-0.0 ≡ NoBlock = same-refusal (rw none at c.in_err-class.ensures.value) in
    let g = sound-fact c.args.t.now c.requires.0 in
    rw (p.1, p.2, v, none) (too_large c.args.t.now c.requires.0 33 (omega (arith, g.head.high)))

pub bounds-t-0 : goal.bounds-t-0
bounds-t-0 c =
    let g = sound-fact c.args.t.now c.requires.0 in
    omega (arith, g.head.long)

pub returns-then-order-class : goal.returns-then-order-class
returns-then-order-class c =
    let a = c.args in
    let g = sound-fact a.t.now c.requires.0 in
    let o = c.order_of-order.ensures in
    rw c.in_ok-class.ensures.ok_part (too_large a.t.now c.requires.0 c.in_ok-class.class (omega (arith, c.if-order-class.true)))

pub pick-requires : goal.pick-requires
pick-requires c =
    let g = sound-fact c.args.t.now c.requires.0 in
    let o = c.order_of-order.ensures in
    (omega (arith, g.head.room, g.head.long), omega (arith, c.if-order-class.false), omega (arith, g.head.high))

pub returns-in_err-i : goal.returns-in_err-i
returns-in_err-i c =
    let none = c.in_err-i.ensures.ok_part in
    let p = err_from_is_err_and c.from_residual-in_err-i.result c.from_residual-in_err-i.ensures.1 in
    let v : c.in_err-i.field-0.0 ≡ NoBlock = same-refusal (rw none at c.in_err-i.ensures.value) in
    let a = c.args in
    let g = sound-fact a.t.now c.requires.0 in
    let o = c.order_of-order.ensures in
    let f = c.pick.ensures ∙ ap (λ (n : ℕ). smallest (n - c.in_ok-class.class) c.in_ok-class.class 0 (blocks_of a.t.now)) o in
    let l = c.if-order-class.false in
    rw (p.1, p.2, v, c.in_ok-class.ensures.ok_part) (no_block a.t.now c.requires.0 c.in_ok-class.class (omega arith) c.pick.result f none)

pub overflow_add-i : goal.overflow_add-i
overflow_add-i c =
    let a = c.args in
    let g = sound-fact a.t.now c.requires.0 in
    let o = c.order_of-order.ensures in
    let f = c.pick.ensures ∙ ap (λ (n : ℕ). smallest (n - c.in_ok-class.class) c.in_ok-class.class 0 (blocks_of a.t.now)) o in
    let l = c.if-order-class.false in
    omega (arith, here a.t.now c.requires.0 c.in_ok-class.class (omega arith) c.pick.result f c.in_ok-i.i c.in_ok-i.ensures.ok_part)

pub offset_bounds-t-i : goal.offset_bounds-t-i
offset_bounds-t-i c =
    let a = c.args in
    let g = sound-fact a.t.now c.requires.0 in
    let o = c.order_of-order.ensures in
    let f = c.pick.ensures ∙ ap (λ (n : ℕ). smallest (n - c.in_ok-class.class) c.in_ok-class.class 0 (blocks_of a.t.now)) o in
    let l = c.if-order-class.false in
    omega (arith, here a.t.now c.requires.0 c.in_ok-class.class (omega arith) c.pick.result f c.in_ok-i.i c.in_ok-i.ensures.ok_part)

pub bounds-t-i : goal.bounds-t-i
bounds-t-i c =
    let a = c.args in
    let g = sound-fact a.t.now c.requires.0 in
    let o = c.order_of-order.ensures in
    let f = c.pick.ensures ∙ ap (λ (n : ℕ). smallest (n - c.in_ok-class.class) c.in_ok-class.class 0 (blocks_of a.t.now)) o in
    let l = c.if-order-class.false in
    omega (arith, here a.t.now c.requires.0 c.in_ok-class.class (omega arith) c.pick.result f c.in_ok-i.i c.in_ok-i.ensures.ok_part)

pub halve-requires : goal.halve-requires
halve-requires c =
    let a = c.args in
    let g = sound-fact a.t.now c.requires.0 in
    let o = c.order_of-order.ensures in
    let f = c.pick.ensures ∙ ap (λ (n : ℕ). smallest (n - c.in_ok-class.class) c.in_ok-class.class 0 (blocks_of a.t.now)) o in
    let l = c.if-order-class.false in
    halvable a.t.now c.requires.0 c.in_ok-class.class (omega arith) c.pick.result f c.in_ok-i.i c.in_ok-i.ensures.ok_part

pub returns : goal.returns
returns c =
    let a = c.args in
    let g = sound-fact a.t.now c.requires.0 in
    let o = c.order_of-order.ensures in
    let f = c.pick.ensures ∙ ap (λ (n : ℕ). smallest (n - c.in_ok-class.class) c.in_ok-class.class 0 (blocks_of a.t.now)) o in
    let l = c.if-order-class.false in
    rw c.in_ok-class.ensures.ok_part (granted-from a.t.now c.requires.0 c.in_ok-class.class (omega arith) c.pick.result f c.in_ok-i.i c.in_ok-i.ensures.ok_part c.start_of-lowest.result c.start_of-lowest.ensures c.halve.ensures)
