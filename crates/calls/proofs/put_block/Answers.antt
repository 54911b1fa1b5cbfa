-- `calls::put_block` meets its contract: the line of the word's fields is put. Assumes nothing.
use mathlib.Core.Path.{sym}
use Rattle.calls.proofs.put_block.Goals as goal

pub returns : goal.returns
returns c = rw (sym c.start_of-start.ensures, sym c.class_of-class.ensures, sym c.mark_of-granted.ensures) c.put_record.ensures
