-- `heap_moves::moves::drop_first` meets its contract. Assumes nothing.
use Rattle.heap_moves.proofs.Steps.{pop-is}
use Rattle.heap_moves.proofs.moves.drop_first.Goals as goal

pub returns : goal.returns
returns c =
    let s = c.args in
    pop-is s.heads.now s.arena.now s.class _ c.next.ensures
