-- `heap_moves::moves::pop` meets its contract. Assumes nothing.
use mathlib.Core.Path.{sym, ◌∙◌}
use Rattle.heap_moves.proofs.Halving.{popped-some}
use Rattle.heap_moves.proofs.moves.pop.Goals as goal

pub returns : goal.returns
returns c = popped-some c.args.heads.now c.args.arena.now c.args.class c.in_ok-first.first (sym c.pop.ensures ∙ c.in_ok-first.was)
