-- `linked_list::links::next` meets its contract: past the arena's end the word reads as 0. Assumes nothing.
use mathlib.Core.Path.{sym}
use lib.ListN.{get_or-eq_default}
use Rattle.linked_list.proofs.links.next.Goals as goal

pub returns-else-word-arena : goal.returns-else-word-arena
returns-else-word-arena c = sym (get_or-eq_default c.args.arena.now 0 c.if-word-arena.false)
