-- `heap::stats_alloc_user` meets its contract: the soundness test, then the part that does the call. Assumes nothing.
use mathlib.Core.Path.{refl, sym, ◌∙◌}
use Rattle.heap.specs.Outcome.{StatsAllocUser, decide}
use Rattle.heap.proofs.Shells.{unsound, figure}
use Rattle.heap.proofs.stats_alloc_user.Goals as goal

pub returns-then-not-sound : goal.returns-then-not-sound
returns-then-not-sound c =
    unsound c.args.h c.args.arena.now c.args.ledger.now StatsAllocUser (sym c.sound.ensures ∙ c.if-not-sound.true)

pub returns : goal.returns
unfolding decide
returns c =
    figure c.args.h c.args.arena.now c.args.ledger.now StatsAllocUser (sym c.sound.ensures ∙ c.if-not-sound.false) _ refl
