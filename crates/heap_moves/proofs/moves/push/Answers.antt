-- `heap_moves::moves::push` meets its contract. Assumes nothing.
use Rattle.heap_moves.proofs.Steps.{push-is}
use Rattle.heap_moves.proofs.moves.push.Goals as goal

pub returns : goal.returns
returns c =
    let s = c.args in
    push-is s.heads.now s.arena.now _ s.class s.block _ c.push.ensures
