-- `heap_grant::grant::grant_from` meets its contract: the block that came out, entered into the ledger. Assumes nothing.
use native.Mathlib.Omega.{arith}
use Rattle.blocks.proofs.Rounding.{size_is}
use Rattle.heap_state.specs.State.{state}
use Rattle.heap_blocks.proofs.Facts.{sound-fact}
use Rattle.heap_core.proofs.Kept.{kept}
use Rattle.heap_grant.proofs.Granting.{servable, fits, block-is, grant-says, done-not-refused}
use borrow.Author.Rules.{rules}
use Rattle.heap_grant.proofs.grant.grant_from.Goals as goal

pub take_block-answer-requires : goal.take_block-answer-requires
take_block-answer-requires c =
    let a = c.args in
    servable (state a.h a.arena.now a.ledger.now) a.from a.class a.size c.requires (search rules)

pub returns-in_default : goal.returns-in_default
returns-in_default c = absurd (done-not-refused _ _ _ c.take_block-answer.ensures.answer c.in_default.is)

pub enter-requires : goal.enter-requires
enter-requires c =
    let a = c.args in
    let st = state a.h a.arena.now a.ledger.now in
    let f = fits st a.from a.class a.size c.requires (search rules) in
    let b = block-is st a.from a.class a.size c.requires (search rules) _ _ _ _ c.take_block-answer.ensures c.in-Ok.is in
    ((a.h.order, kept st (sound-fact _ _ _ c.requires.sound)), c.requires.room, f.class-fits, f.size_fits, omega (arith, f.block-fits, b))

pub overflow_add-g-2 : goal.overflow_add-g-2
overflow_add-g-2 c =
    let a = c.args in
    omega (arith, (fits (state a.h a.arena.now a.ledger.now) a.from a.class a.size c.requires (search rules)).user-fits)

pub overflow_add-g-3 : goal.overflow_add-g-3
overflow_add-g-3 c =
    let a = c.args in
    let st = state a.h a.arena.now a.ledger.now in
    omega (arith, (fits st a.from a.class a.size c.requires (search rules)).allocated-fits, c.size_of.ensures, size_is a.class (omega (arith, c.requires.suffices, c.requires.is_class)))

pub returns : goal.returns
returns c =
    let a = c.args in
    let st = state a.h a.arena.now a.ledger.now in
    grant-says st a.from a.class a.size c.requires (search rules) _ _ _ _ c.take_block-answer.ensures c.in-Ok.is _ _ c.enter.ensures c.size_of.ensures
