-- `heap_grant::grant::grant_bytes` meets its contract, by the tests in their order. Assumes nothing.
use mathlib.Core.Path.{sym, subst, ◌∙◌}
use native.Mathlib.Omega.{arith}
use Rattle.heap_state.specs.State.{state, Says}
use Rattle.heap_blocks.proofs.Facts.{sound-fact}
use Rattle.heap_core.specs.Deciding.{Decision, carried}
use Rattle.heap_core.proofs.Saying.{says-refused}
use Rattle.heap_grant.proofs.Granting.{chosen, badly-aligned, too_large, none-serves, ledger-full, as-chosen, chosen-given}
use Rattle.heap_grant.proofs.grant.grant_bytes.Goals as goal

pub returns-then-not-is_power_of_two : goal.returns-then-not-is_power_of_two
returns-then-not-is_power_of_two c =
    let a = c.args in
    let st = state a.h a.arena.now a.ledger.now in
    says-refused a.h a.arena.now a.ledger.now _ _ _ (badly-aligned a.size a.align st (sym c.is_power_of_two.ensures ∙ c.if-not-is_power_of_two.true)) c.refused.ensures

pub returns-then-h-class : goal.returns-then-h-class
returns-then-h-class c =
    let a = c.args in
    let st = state a.h a.arena.now a.ledger.now in
    says-refused a.h a.arena.now a.ledger.now _ _ _ (too_large a.size a.align st (sym c.is_power_of_two.ensures ∙ c.if-not-is_power_of_two.false) (omega (arith, c.if-h-class.true, c.class_for-class.ensures))) c.refused-then-h-class.ensures

pub first_class-from-requires : goal.first_class-from-requires
first_class-from-requires c = (sound-fact _ _ _ c.requires).ranges.order-high

pub returns-then-from-ge33 : goal.returns-then-from-ge33
returns-then-from-ge33 c =
    let a = c.args in
    let st = state a.h a.arena.now a.ledger.now in
    says-refused a.h a.arena.now a.ledger.now _ _ _ (none-serves a.size a.align st (sym c.is_power_of_two.ensures ∙ c.if-not-is_power_of_two.false) (omega (arith, c.if-h-class.false, c.class_for-class.ensures)) (omega (arith, c.if-from-ge33.true, (chosen a.size a.align st _ _ c.class_for-class.ensures c.first_class-from.ensures).from_is))) c.refused-then-from-ge33.ensures

pub returns-then-ledger-h : goal.returns-then-ledger-h
returns-then-ledger-h c =
    let a = c.args in
    let st = state a.h a.arena.now a.ledger.now in
    says-refused a.h a.arena.now a.ledger.now _ _ _ (ledger-full a.size a.align st (sym c.is_power_of_two.ensures ∙ c.if-not-is_power_of_two.false) (omega (arith, c.if-h-class.false, c.class_for-class.ensures)) (omega (arith, c.if-from-ge33.false, (chosen a.size a.align st _ _ c.class_for-class.ensures c.first_class-from.ensures).from_is)) (omega (arith, c.if-ledger-h.true))) c.refused-then-ledger-h.ensures

pub grant_from-requires : goal.grant_from-requires
grant_from-requires c =
    let a = c.args in
    let st = state a.h a.arena.now a.ledger.now in
    let chose = chosen a.size a.align st _ _ c.class_for-class.ensures c.first_class-from.ensures in
    as-chosen a.size a.align st (sym c.is_power_of_two.ensures ∙ c.if-not-is_power_of_two.false) (omega (arith, c.if-h-class.false, c.class_for-class.ensures)) (omega (arith, c.if-from-ge33.false, chose.from_is)) _ _ chose c.requires c.if-ledger-h.false

pub returns : goal.returns
returns c =
    let a = c.args in
    let st = state a.h a.arena.now a.ledger.now in
    let chose = chosen a.size a.align st _ _ c.class_for-class.ensures c.first_class-from.ensures in
    subst (λ (d : Decision). Says (carried st d) c.grant_from.result c.grant_from.new.arena c.grant_from.new.ledger)
    (chosen-given a.size a.align st (sym c.is_power_of_two.ensures ∙ c.if-not-is_power_of_two.false) (omega (arith, c.if-h-class.false, c.class_for-class.ensures)) (omega (arith, c.if-from-ge33.false, chose.from_is)) _ _ chose c.if-ledger-h.false)
    c.grant_from.ensures
