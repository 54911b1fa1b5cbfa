-- `heap_add::add::add_range` meets its contract, by the tests of the range in their order. Assumes nothing.
use mathlib.Core.Path.{refl, sym, subst}
use native.Mathlib.Omega.{arith}
use Rattle.heap_state.specs.State.{state, Says}
use Rattle.heap_core.specs.Deciding.{Decision, carried}
use Rattle.heap_core.proofs.Saying.{says-refused, says-done}
use Rattle.heap_add.proofs.Adding.{start_outside, end-outside, backward, none-added, from_null, some_words}
use Rattle.heap_add.proofs.add.add_range.Goals as goal

pub returns-then-bytes-start : goal.returns-then-bytes-start
returns-then-bytes-start c =
    let a = c.args in
    says-refused a.h a.arena.now a.ledger.now _ _ _ (start_outside a.start a.end (state a.h a.arena.now a.ledger.now) c.if-bytes-start.true) c.refused.ensures

pub returns-then-bytes-end : goal.returns-then-bytes-end
returns-then-bytes-end c =
    let a = c.args in
    let st = state a.h a.arena.now a.ledger.now in
    says-refused a.h a.arena.now a.ledger.now _ _ _ (end-outside a.start a.end st c.if-bytes-start.false c.if-bytes-end.true) c.refused-then-bytes-end.ensures

pub returns-then-to-from : goal.returns-then-to-from
returns-then-to-from c =
    let a = c.args in
    let st = state a.h a.arena.now a.ledger.now in
    says-refused a.h a.arena.now a.ledger.now _ _ _ (backward a.start a.end st c.if-bytes-start.false c.if-bytes-end.false c.if-to-from.true) c.refused-then-to-from.ensures

pub returns-then-from-to : goal.returns-then-from-to
returns-then-from-to c =
    let a = c.args in
    says-done _ _ _ _ _ _ _ (none-added a.start a.end (state a.h a.arena.now a.ledger.now) c.if-bytes-start.false c.if-bytes-end.false c.if-to-from.false c.if-from-to.true) refl

pub returns-then-from-eq0 : goal.returns-then-from-eq0
returns-then-from-eq0 c =
    let a = c.args in
    let st = state a.h a.arena.now a.ledger.now in
    says-refused a.h a.arena.now a.ledger.now _ _ _ (from_null a.start a.end st c.if-bytes-start.false c.if-bytes-end.false c.if-to-from.false c.if-from-eq0.true (omega (arith, c.if-to-from.false, c.if-from-to.false))) c.refused-then-from-eq0.ensures

pub add_words-requires : goal.add_words-requires
add_words-requires c =
    (c.requires, omega (arith, c.if-to-from.false, c.if-from-to.false), omega (arith, c.if-bytes-end.false))

pub returns : goal.returns
returns c =
    let a = c.args in
    let st = state a.h a.arena.now a.ledger.now in
    subst (λ (d : Decision). Says (carried st d) c.add_words.result c.add_words.new.arena a.ledger.now)
    (sym (some_words a.start a.end st c.if-bytes-start.false c.if-bytes-end.false c.if-to-from.false c.if-from-eq0.false))
    c.add_words.ensures
