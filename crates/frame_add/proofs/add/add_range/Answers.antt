-- `frame_add::add::add_range` meets its contract: the place of the first frame and the record after it tell whether the range is free. Assumes nothing.
use mathlib.Core.Path.{sym, ◌∙◌}
use native.Mathlib.Omega.{arith}
use Rattle.table.proofs.Facts.{sound-fact}
use Rattle.frame_add.proofs.Taking.{backward, too_far, empty, in_block, meets-next, addable, taken}
use Rattle.frame_add.proofs.add.add_range.Goals as goal

pub returns-then-end-start : goal.returns-then-end-start
returns-then-end-start c =
    let a = c.args in
    backward a.t.now c.requires a.start a.end c.if-end-start.true

pub returns-then-end-gt4294967296 : goal.returns-then-end-gt4294967296
returns-then-end-gt4294967296 c =
    let a = c.args in
    too_far a.t.now c.requires a.start a.end (omega arith) c.if-end-gt4294967296.true

pub returns-then-start-end : goal.returns-then-start-end
returns-then-start-end c =
    let a = c.args in
    empty a.t.now c.requires a.start a.end c.if-start-end.true (omega arith) (λ k. (c.type_inv.t k).fits)

pub returns-in_default : goal.returns-in_default
returns-in_default c =
    let a = c.args in
    in_block a.t.now c.requires a.start a.end (omega arith) (omega arith) c.in_default.field-0 (sym c.place.ensures ∙ c.in_default.is) (omega arith)

pub starts_before-requires : goal.starts_before-requires
starts_before-requires c =
    let a = c.args in
    let e = sym c.place.ensures ∙ c.in-Gap.is in
    let f = sound-fact a.t.now c.requires in
    omega (arith, f.head.room, f.head.long)

pub returns-then-starts_before : goal.returns-then-starts_before
returns-then-starts_before c =
    let a = c.args in
    let e = sym c.place.ensures ∙ c.in-Gap.is in
    let b = c.starts_before.ensures in
    meets-next a.t.now c.requires a.start a.end (omega arith) (omega arith) c.in-Gap.i e (sym b ∙ c.if-starts_before.true) (omega arith)

pub add_at-requires : goal.add_at-requires
add_at-requires c =
    let a = c.args in
    let e = sym c.place.ensures ∙ c.in-Gap.is in
    let b = c.starts_before.ensures in
    addable a.t.now c.requires a.start a.end (omega arith) (omega arith) c.in-Gap.i e (sym b ∙ c.if-starts_before.false)

pub returns : goal.returns
returns c =
    let a = c.args in
    let e = sym c.place.ensures ∙ c.in-Gap.is in
    let b = c.starts_before.ensures in
    taken a.t.now c.requires a.start a.end (omega arith) (omega arith) c.in-Gap.i e (sym b ∙ c.if-starts_before.false) c.add_at.ensures
