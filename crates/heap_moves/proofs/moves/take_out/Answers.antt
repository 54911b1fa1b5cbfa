-- `heap_moves::moves::take_out` meets its contract. Assumes nothing.
use Rattle.heap_moves.proofs.Joining.{taken-out-is}
use Rattle.heap_moves.proofs.moves.take_out.Goals as goal

pub returns : goal.returns
returns c =
    let s = c.args in
    taken-out-is s.heads.now s.arena.now _ s.class s.node _ s.previous c.remove.ensures
