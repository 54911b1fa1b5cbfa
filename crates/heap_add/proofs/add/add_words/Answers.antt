-- `heap_add::add::add_words` meets its contract, by the two tests for an overlap. Assumes nothing.
use mathlib.Core.Path.{sym, ap, ◌∙◌}
use Prim.Native.Nat.{◌+◌, ◌-◌}
use native.Mathlib.Omega.{arith}
use Rattle.heap_state.specs.Lists.{Memory}
use Rattle.heap_state.specs.State.{state}
use Rattle.heap_blocks.proofs.Facts.{sound-fact}
use Rattle.heap_blocks.proofs.Counters.{counters-small}
use Rattle.heap_add.specs.Adding.{with_lists}
use Rattle.heap_core.proofs.Saying.{says-refused, says-done}
use Rattle.heap_add.proofs.Adding.{free-there, granted-there, words-added}
use Rattle.heap_add.proofs.add.add_words.Goals as goal

pub returns-then-free_meets : goal.returns-then-free_meets
returns-then-free_meets c =
    let a = c.args in
    let st = state a.h a.arena.now a.ledger.now in
    says-refused a.h a.arena.now a.ledger.now _ _ _ (free-there a.from a.to st (sym c.free_meets.ensures ∙ c.if-free_meets.true)) c.refused.ensures

pub granted_meets-requires : goal.granted_meets-requires
granted_meets-requires c =
    ((sound-fact _ _ _ c.requires.0).ranges.room, c.requires.1)

pub returns-then-granted_meets : goal.returns-then-granted_meets
returns-then-granted_meets c =
    let a = c.args in
    let st = state a.h a.arena.now a.ledger.now in
    says-refused a.h a.arena.now a.ledger.now _ _ _
    (granted-there a.from a.to st (sym c.free_meets.ensures ∙ c.if-free_meets.false) (sym c.granted_meets.ensures ∙ c.if-granted_meets.true)) c.refused-then-granted_meets.ensures

pub overflow_sub-h : goal.overflow_sub-h
overflow_sub-h c =
    omega (arith, (sound-fact _ _ _ c.requires.0).ranges.order-low)

pub push_pieces-requires : goal.push_pieces-requires
push_pieces-requires c =
    let r = (sound-fact _ _ _ c.requires.0).ranges in
    (omega (arith, r.order-low, r.order-high), omega (arith, r.arena-high, c.requires.1, c.requires.2))

pub overflow_add-g : goal.overflow_add-g
overflow_add-g c =
    let x = sound-fact _ _ _ c.requires.0 in
    omega (arith, (counters-small _ _ _ x).total, x.ranges.arena-high, c.requires.1, c.requires.2)

pub returns : goal.returns
returns c =
    let a = c.args in
    let st = state a.h a.arena.now a.ledger.now in
    says-done _ _ _ _ _ _ _
    (words-added a.from a.to st (sym c.free_meets.ensures ∙ c.if-free_meets.false) (sym c.granted_meets.ensures ∙ c.if-granted_meets.false))
    (ap (λ (m : Memory). with_lists st m (a.h.total + (a.to - a.from))) c.push_pieces.ensures)
