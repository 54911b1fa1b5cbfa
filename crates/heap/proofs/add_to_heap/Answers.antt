-- `heap::add_to_heap` meets its contract: the soundness test, then the part that does the call. Assumes nothing.
use mathlib.Core.Path.{sym, ◌∙◌}
use Rattle.heap.specs.Outcome.{AddToHeap, decide}
use Rattle.heap.proofs.Shells.{unsound, decided}
use Rattle.heap.proofs.add_to_heap.Goals as goal

pub returns-then-not-sound : goal.returns-then-not-sound
returns-then-not-sound c =
    rw c.refused.ensures (unsound c.args.h c.args.arena.now c.args.ledger.now (AddToHeap c.args.start c.args.end) (sym c.sound.ensures ∙ c.if-not-sound.true))

pub add_range-requires : goal.add_range-requires
add_range-requires c = sym c.sound.ensures ∙ c.if-not-sound.false

pub returns : goal.returns
unfolding decide
returns c =
    decided c.args.h c.args.arena.now c.args.ledger.now (AddToHeap c.args.start c.args.end) (sym c.sound.ensures ∙ c.if-not-sound.false) c.add_range.ensures
