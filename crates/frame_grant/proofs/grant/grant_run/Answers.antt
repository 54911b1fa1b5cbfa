-- `frame_grant::grant::grant_run` meets its contract: the one block that may contain the run is judged by its word, and halved. Assumes nothing.
use mathlib.Core.Path.{◌≡◌, sym, ◌∙◌}
use Prim.Native.Nat.{◌+◌}
use native.Mathlib.Omega.{arith}
use Rattle.std.proofs.lemmas.Result.{err_from_is_err_and}
use Rattle.answers.specs.declared.Refusal.TheVariants.{NoBlock}
use Rattle.table.proofs.Facts.{sound-fact}
use Rattle.frame_core.proofs.Saying.{same-refusal}
use Rattle.frame_grant.proofs.GrantingAt.{too_large, frames-fit, misaligned, in-gap, here, is-granted, is-short, halvable, granted-at}
use Rattle.frame_grant.proofs.grant.grant_run.Goals as goal

pub returns-in_err-class : goal.returns-in_err-class
returns-in_err-class c =
    let g = sound-fact c.args.t.now c.requires.0 in
    let none = c.in_err-class.ensures.ok_part in
    let p = err_from_is_err_and c.from_residual.result c.from_residual.ensures.1 in
    let v : c.in_err-class.field-0.0 ≡ NoBlock = same-refusal (rw none at c.in_err-class.ensures.value) in
    rw (p.1, p.2, v, none) (too_large c.args.t.now c.requires.0 c.args.start 33 (omega (arith, g.head.high)))

pub bounds-t-0 : goal.bounds-t-0
bounds-t-0 c =
    let g = sound-fact c.args.t.now c.requires.0 in
    omega (arith, g.head.long)

pub returns-then-order_of-class : goal.returns-then-order_of-class
returns-then-order_of-class c =
    let a = c.args in
    let o = c.order_of.ensures in
    rw c.in_ok-class.ensures.ok_part (too_large a.t.now c.requires.0 a.start c.in_ok-class.class (omega (arith, c.if-order_of-class.true)))

pub overflow_sub-frames : goal.overflow_sub-frames
overflow_sub-frames c =
    let a = c.args in
    let o = c.order_of.ensures in
    let l = c.if-order_of-class.false in
    let n = c.size_of-frames in
    omega (arith, frames-fit a.t.now c.requires.0 a.start c.in_ok-class.class (omega arith) n.result n.ensures)

pub returns-then-start-frames-ne0 : goal.returns-then-start-frames-ne0
returns-then-start-frames-ne0 c =
    let a = c.args in
    let o = c.order_of.ensures in
    let l = c.if-order_of-class.false in
    let n = c.size_of-frames in
    rw c.in_ok-class.ensures.ok_part (misaligned a.t.now c.requires.0 a.start c.in_ok-class.class (omega arith) n.result n.ensures c.if-start-frames-ne0.true)

pub returns-in_default : goal.returns-in_default
returns-in_default c =
    let a = c.args in
    let o = c.order_of.ensures in
    let l = c.if-order_of-class.false in
    let n = c.size_of-frames in
    rw c.in_ok-class.ensures.ok_part (in-gap a.t.now c.requires.0 a.start c.in_ok-class.class (omega arith) n.result n.ensures c.if-start-frames-ne0.false c.in_default.field-0 (sym c.place.ensures ∙ c.in_default.is))

pub overflow_add-w : goal.overflow_add-w
overflow_add-w c =
    let a = c.args in
    let o = c.order_of.ensures in
    let l = c.if-order_of-class.false in
    let n = c.size_of-frames in
    let e = sym c.place.ensures ∙ c.in-Inside.is in
    omega (arith, here a.t.now c.requires.0 a.start c.in_ok-class.class (omega arith) n.result n.ensures c.if-start-frames-ne0.false c.in-Inside.i e)

pub offset_bounds-t-i : goal.offset_bounds-t-i
offset_bounds-t-i c =
    let a = c.args in
    let o = c.order_of.ensures in
    let l = c.if-order_of-class.false in
    let n = c.size_of-frames in
    let e = sym c.place.ensures ∙ c.in-Inside.is in
    omega (arith, here a.t.now c.requires.0 a.start c.in_ok-class.class (omega arith) n.result n.ensures c.if-start-frames-ne0.false c.in-Inside.i e)

pub bounds-t-i : goal.bounds-t-i
bounds-t-i c =
    let a = c.args in
    let o = c.order_of.ensures in
    let l = c.if-order_of-class.false in
    let n = c.size_of-frames in
    let e = sym c.place.ensures ∙ c.in-Inside.is in
    omega (arith, here a.t.now c.requires.0 a.start c.in_ok-class.class (omega arith) n.result n.ensures c.if-start-frames-ne0.false c.in-Inside.i e)

pub returns-then-w-ge-GRANTED : goal.returns-then-w-ge-GRANTED
returns-then-w-ge-GRANTED c =
    let a = c.args in
    let o = c.order_of.ensures in
    let l = c.if-order_of-class.false in
    let n = c.size_of-frames in
    let e = sym c.place.ensures ∙ c.in-Inside.is in
    rw c.in_ok-class.ensures.ok_part (is-granted a.t.now c.requires.0 a.start c.in_ok-class.class (omega arith) n.result n.ensures c.if-start-frames-ne0.false c.in-Inside.i e (c.type_inv.t (c.in-Inside.i + 1)).fits c.if-w-ge-GRANTED.true)

pub overflow_add-start : goal.overflow_add-start
overflow_add-start c =
    let a = c.args in
    let o = c.order_of.ensures in
    let l = c.if-order_of-class.false in
    let n = c.size_of-frames in
    let e = sym c.place.ensures ∙ c.in-Inside.is in
    omega (arith, here a.t.now c.requires.0 a.start c.in_ok-class.class (omega arith) n.result n.ensures c.if-start-frames-ne0.false c.in-Inside.i e, frames-fit a.t.now c.requires.0 a.start c.in_ok-class.class (omega arith) n.result n.ensures)

pub returns-then-end_of-start : goal.returns-then-end_of-start
returns-then-end_of-start c =
    let a = c.args in
    let o = c.order_of.ensures in
    let l = c.if-order_of-class.false in
    let n = c.size_of-frames in
    let e = sym c.place.ensures ∙ c.in-Inside.is in
    rw c.in_ok-class.ensures.ok_part (is-short a.t.now c.requires.0 a.start c.in_ok-class.class (omega arith) n.result n.ensures c.if-start-frames-ne0.false c.in-Inside.i e (omega (arith, c.if-end_of-start.true, c.end_of.ensures)))

pub halve-requires : goal.halve-requires
halve-requires c =
    let a = c.args in
    let o = c.order_of.ensures in
    let l = c.if-order_of-class.false in
    let n = c.size_of-frames in
    let e = sym c.place.ensures ∙ c.in-Inside.is in
    halvable a.t.now c.requires.0 a.start c.in_ok-class.class (omega arith) n.result n.ensures c.if-start-frames-ne0.false c.in-Inside.i e c.if-w-ge-GRANTED.false (omega (arith, c.if-end_of-start.false, c.end_of.ensures))

pub returns : goal.returns
returns c =
    let a = c.args in
    let o = c.order_of.ensures in
    let l = c.if-order_of-class.false in
    let n = c.size_of-frames in
    let e = sym c.place.ensures ∙ c.in-Inside.is in
    rw c.in_ok-class.ensures.ok_part (granted-at a.t.now c.requires.0 a.start c.in_ok-class.class (omega arith) n.result n.ensures c.if-start-frames-ne0.false c.in-Inside.i e c.if-w-ge-GRANTED.false (omega (arith, c.if-end_of-start.false, c.end_of.ensures)) c.halve.ensures)
