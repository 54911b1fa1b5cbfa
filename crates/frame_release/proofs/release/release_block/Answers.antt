-- `frame_release::release::release_block` meets its contract: the word at the start's place is that of the granted block, or no such block is. Assumes nothing.
use mathlib.Core.Path.{◌≡◌, sym, ap, ◌∙◌}
use native.Mathlib.Omega.{arith}
use Rattle.std.proofs.lemmas.Result.{err_from_is_err_and}
use Rattle.answers.specs.declared.Refusal.TheVariants.{NotGranted}
use Rattle.frame_core.specs.Deciding.{wanted}
use Rattle.frame_core.proofs.Saying.{same-refusal}
use Rattle.frame_release.proofs.Giving.{above-top, in-gap, inside-here, other_word, releasable, given_back}
use Rattle.frame_release.proofs.release.release_block.Goals as goal

pub returns-in_err-class : goal.returns-in_err-class
returns-in_err-class c =
    let none = c.in_err-class.ensures.ok_part in
    let p = err_from_is_err_and c.from_residual.result c.from_residual.ensures.1 in
    let v : c.in_err-class.field-0.0 ≡ NotGranted = same-refusal (rw none at c.in_err-class.ensures.value) in
    rw (p.1, p.2, v, none) (above-top c.args.t.now c.requires.0 c.args.start 33 (omega arith))

pub returns-in_default : goal.returns-in_default
returns-in_default c =
    let a = c.args in
    rw c.in_ok-class.ensures.ok_part (in-gap a.t.now c.requires.0 a.start c.in_ok-class.class c.in_default.field-0 (sym c.place.ensures ∙ c.in_default.is))

pub overflow_add-i : goal.overflow_add-i
overflow_add-i c =
    let a = c.args in
    let e = sym c.place.ensures ∙ c.in-Inside.is in
    let i = c.in-Inside.i in
    omega (arith, inside-here a.t.now c.requires.0 a.start c.in_ok-class.class i e)

pub offset_bounds-t-i : goal.offset_bounds-t-i
offset_bounds-t-i c =
    let a = c.args in
    let e = sym c.place.ensures ∙ c.in-Inside.is in
    let i = c.in-Inside.i in
    omega (arith, inside-here a.t.now c.requires.0 a.start c.in_ok-class.class i e)

pub bounds-t-i : goal.bounds-t-i
bounds-t-i c =
    let a = c.args in
    let e = sym c.place.ensures ∙ c.in-Inside.is in
    let i = c.in-Inside.i in
    omega (arith, inside-here a.t.now c.requires.0 a.start c.in_ok-class.class i e)

pub returns-then-t-i : goal.returns-then-t-i
returns-then-t-i c =
    let a = c.args in
    let e = sym c.place.ensures ∙ c.in-Inside.is in
    let i = c.in-Inside.i in
    rw c.in_ok-class.ensures.ok_part (other_word a.t.now c.requires.0 a.start c.in_ok-class.class i e (omega (arith, c.requires.1, ap wanted c.in_ok-class.ensures.ok_part)) c.record_word.result c.record_word.ensures (λ j. (c.type_inv.t j).fits) c.if-t-i.true)

pub release_at-requires : goal.release_at-requires
release_at-requires c =
    let a = c.args in
    let e = sym c.place.ensures ∙ c.in-Inside.is in
    let i = c.in-Inside.i in
    releasable a.t.now c.requires.0 a.start c.in_ok-class.class i e (omega (arith, c.requires.1, ap wanted c.in_ok-class.ensures.ok_part)) c.record_word.result c.record_word.ensures c.if-t-i.false

pub returns : goal.returns
returns c =
    let a = c.args in
    let e = sym c.place.ensures ∙ c.in-Inside.is in
    let i = c.in-Inside.i in
    rw c.in_ok-class.ensures.ok_part (given_back a.t.now c.requires.0 a.start c.in_ok-class.class i e (omega (arith, c.requires.1, ap wanted c.in_ok-class.ensures.ok_part)) c.record_word.result c.record_word.ensures c.if-t-i.false c.release_at.ensures)
