-- `linked_list::links::set_next` meets its contract: past the arena's end no word is set. Assumes nothing.
use mathlib.Core.Path.{sym}
use Prim.Native.Nat.{◌/◌}
use lib.Seq.{set_out}
use Rattle.linked_list.proofs.links.set_next.Goals as goal

pub returns-else-word-arena : goal.returns-else-word-arena
returns-else-word-arena c = sym (set_out c.args.arena.now (c.args.node / 8) c.args.link c.if-word-arena.false)
