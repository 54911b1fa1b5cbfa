-- `linked_list::walk::remove` meets its contract, by the case of the place. Assumes nothing.
use Rattle.linked_list.proofs.Steps.{remove-head, remove-word}
use Rattle.linked_list.proofs.walk.remove.Goals as goal

pub returns-in-Head : goal.returns-in-Head
returns-in-Head c =
    let s = c.args in
    remove-head s.head s.arena.now s.previous s.node _ c.in-Head.is c.next-after.ensures

pub returns-in-Word : goal.returns-in-Word
returns-in-Word c =
    let s = c.args in
    remove-word s.head s.arena.now _ s.previous _ s.node _ c.in-Word.is c.next-after.ensures c.set_next.ensures
