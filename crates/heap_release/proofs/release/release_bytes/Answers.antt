-- `heap_release::release::release_bytes` meets its contract: the record struck out, and the block put into the lists. Assumes nothing.
use mathlib.Core.Path.{sym, ◌∙◌}
use native.Mathlib.Omega.{arith}
use Rattle.blocks.proofs.Rounding.{size_is}
use Rattle.heap_state.specs.State.{state}
use Rattle.heap_blocks.proofs.Facts.{sound-fact}
use Rattle.heap_blocks.proofs.Counters.{sums}
use Rattle.heap_core.proofs.Saying.{says-refused}
use Rattle.heap_core.proofs.Kept.{kept}
use Rattle.heap_release.proofs.Releasing.{release-is, badly-aligned, not_there, recorded-in, index_in, release-says}
use Rattle.heap_release.proofs.release.release_bytes.Goals as goal

pub returns-then-not-is_power_of_two : goal.returns-then-not-is_power_of_two
returns-then-not-is_power_of_two c =
    let a = c.args in
    let st = state a.h a.arena.now a.ledger.now in
    says-refused a.h a.arena.now a.ledger.now _ _ _
    (release-is a.address a.size a.align st ∙ badly-aligned a.address a.size a.align st _ (sym c.is_power_of_two.ensures ∙ c.if-not-is_power_of_two.true)) c.refused.ensures

pub find-found-requires : goal.find-found-requires
find-found-requires c =
    let a = c.args in
    (a.h.order, kept (state a.h a.arena.now a.ledger.now) (sound-fact _ _ _ c.requires))

pub returns-in_default : goal.returns-in_default
returns-in_default c =
    let a = c.args in
    let st = state a.h a.arena.now a.ledger.now in
    says-refused a.h a.arena.now a.ledger.now _ _ _
    (release-is a.address a.size a.align st ∙ not_there a.address a.size a.align st _ (sym c.is_power_of_two.ensures ∙ c.if-not-is_power_of_two.false) _ c.class_for-class.ensures (sym c.find-found.ensures ∙ c.in_default.is)) c.refused-in_default.ensures

pub strike-requires : goal.strike-requires
strike-requires c =
    let a = c.args in
    let st = state a.h a.arena.now a.ledger.now in
    let k = kept st (sound-fact _ _ _ c.requires) in
    ((a.h.order, k), index_in st _ _ _ _ (sound-fact _ _ _ c.requires) (sym c.find-found.ensures ∙ c.in-Some.is))

pub overflow_sub-h : goal.overflow_sub-h
overflow_sub-h c = omega (arith, (sound-fact _ _ _ c.requires).ranges.order-low)

pub release_block-compared-requires : goal.release_block-compared-requires
release_block-compared-requires c =
    let r = (sound-fact _ _ _ c.requires).ranges in
    let g = recorded-in (state c.args.h c.args.arena.now c.args.ledger.now) _ _ _ _ (sound-fact _ _ _ c.requires) (sym c.find-found.ensures ∙ c.in-Some.is) in
    (omega (arith, g.class-high, r.order-high), omega (arith, r.order-low, r.order-high), r.arena-high)

pub overflow_sub-g : goal.overflow_sub-g
overflow_sub-g c =
    omega (arith, index_in (state c.args.h c.args.arena.now c.args.ledger.now) _ _ _ _ (sound-fact _ _ _ c.requires) (sym c.find-found.ensures ∙ c.in-Some.is))

pub overflow_sub-g-2 : goal.overflow_sub-g-2
overflow_sub-g-2 c =
    let g = recorded-in (state c.args.h c.args.arena.now c.args.ledger.now) _ _ _ _ (sound-fact _ _ _ c.requires) (sym c.find-found.ensures ∙ c.in-Some.is) in
    omega (arith, g.user, (sums _ _ _ (sound-fact _ _ _ c.requires).counters).user)

pub overflow_sub-g-3 : goal.overflow_sub-g-3
overflow_sub-g-3 c =
    let x = sound-fact _ _ _ c.requires in
    let g = recorded-in (state c.args.h c.args.arena.now c.args.ledger.now) _ _ _ _ (sound-fact _ _ _ c.requires) (sym c.find-found.ensures ∙ c.in-Some.is) in
    omega (arith, g.allocated, (sums _ _ _ x.counters).allocated, c.size_of.ensures, size_is c.class_for-class.result (omega (arith, g.class-high, x.ranges.order-high)))

pub returns : goal.returns
returns c =
    let a = c.args in
    let st = state a.h a.arena.now a.ledger.now in
    release-says a.address a.size a.align st _ _ (sound-fact _ _ _ c.requires) c.class_for-class.ensures (sym c.find-found.ensures ∙ c.in-Some.is) (sym c.is_power_of_two.ensures ∙ c.if-not-is_power_of_two.false) _ _ _ _ _
    c.strike.ensures c.release_block-compared.ensures c.size_of.ensures
