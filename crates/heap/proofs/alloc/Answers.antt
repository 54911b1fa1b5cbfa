-- `heap::alloc` meets its contract: the soundness test, then the part that does the call. Assumes nothing.
use mathlib.Core.Path.{sym, ◌∙◌}
use Rattle.heap.specs.Outcome.{Alloc, decide}
use Rattle.heap.proofs.Shells.{unsound, decided}
use Rattle.heap.proofs.alloc.Goals as goal

pub returns-then-not-sound : goal.returns-then-not-sound
returns-then-not-sound c =
    rw c.refused.ensures (unsound c.args.h c.args.arena.now c.args.ledger.now (Alloc c.args.size c.args.align) (sym c.sound.ensures ∙ c.if-not-sound.true))

pub grant_bytes-requires : goal.grant_bytes-requires
grant_bytes-requires c = sym c.sound.ensures ∙ c.if-not-sound.false

pub returns : goal.returns
unfolding decide
returns c =
    decided c.args.h c.args.arena.now c.args.ledger.now (Alloc c.args.size c.args.align) (sym c.sound.ensures ∙ c.if-not-sound.false) c.grant_bytes.ensures
