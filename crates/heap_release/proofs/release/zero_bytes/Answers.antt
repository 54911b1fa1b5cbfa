-- `heap_release::release::zero_bytes` meets its contract: the words of the request, lent on alone, are cleared. Assumes nothing.
use mathlib.Core.Path.{refl, sym, ◌∙◌}
use native.Mathlib.Omega.{arith}
use Rattle.heap_state.specs.State.{state}
use Rattle.heap_blocks.proofs.Facts.{sound-fact}
use Rattle.heap_core.proofs.Saying.{says-refused}
use Rattle.heap_core.proofs.Kept.{kept}
use Rattle.heap_release.proofs.Releasing.{zero_is, badly-aligned, not_there, recorded-in, part_in, zero-says}
use Rattle.heap_release.proofs.release.zero_bytes.Goals as goal

pub returns-then-not-is_power_of_two : goal.returns-then-not-is_power_of_two
returns-then-not-is_power_of_two c =
    let a = c.args in
    let st = state a.h a.arena.now a.ledger.now in
    says-refused a.h a.arena.now a.ledger.now _ _ _
    (zero_is a.address a.size a.align st ∙ badly-aligned a.address a.size a.align st _ (sym c.is_power_of_two.ensures ∙ c.if-not-is_power_of_two.true)) c.refused.ensures

pub find-found-requires : goal.find-found-requires
find-found-requires c =
    let a = c.args in
    (a.h.order, kept (state a.h a.arena.now a.ledger.now) (sound-fact _ _ _ c.requires))

pub returns-in_default : goal.returns-in_default
returns-in_default c =
    let a = c.args in
    let st = state a.h a.arena.now a.ledger.now in
    says-refused a.h a.arena.now a.ledger.now _ _ _
    (zero_is a.address a.size a.align st ∙ not_there a.address a.size a.align st _ (sym c.is_power_of_two.ensures ∙ c.if-not-is_power_of_two.false) _ c.class_for-class.ensures (sym c.find-found.ensures ∙ c.in_default.is)) c.refused-in_default.ensures

pub overflow_add-to : goal.overflow_add-to
overflow_add-to c =
    let x = sound-fact _ _ _ c.requires in
    let g = recorded-in (state c.args.h c.args.arena.now c.args.ledger.now) _ _ _ _ x (sym c.find-found.ensures ∙ c.in-Some.is) in
    omega (arith, g.holds, g.placed.inside, x.ranges.arena-high)

pub slice_bounds-clear-end : goal.slice_bounds-clear-end
slice_bounds-clear-end c =
    let a = c.args in
    let st = state a.h a.arena.now a.ledger.now in
    omega (arith, part_in a.address a.size a.align st _ _ (sound-fact _ _ _ c.requires) c.class_for-class.ensures (sym c.find-found.ensures ∙ c.in-Some.is) (sym c.is_power_of_two.ensures ∙ c.if-not-is_power_of_two.false))

pub returns : goal.returns
returns c =
    let a = c.args in
    let st = state a.h a.arena.now a.ledger.now in
    zero-says a.address a.size a.align st _ _ (sound-fact _ _ _ c.requires) c.class_for-class.ensures (sym c.find-found.ensures ∙ c.in-Some.is) (sym c.is_power_of_two.ensures ∙ c.if-not-is_power_of_two.false) _ _ refl c.clear.ensures
