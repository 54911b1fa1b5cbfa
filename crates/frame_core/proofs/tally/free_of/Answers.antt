-- `frame_core::tally::free_of` meets its contract: the mark tells whether the record is granted. Assumes nothing.
use Rattle.std.proofs.Common.{arith, eq-eqb, ne_eqb}
use Rattle.table.specs.Layout.{mark_of}
use Rattle.frame_core.specs.Tally.{free_of}
use Rattle.frame_core.proofs.tally.free_of.Goals as goal

pub returns-then-mark_of-eq1 : goal.returns-then-mark_of-eq1
returns-then-mark_of-eq1 c = rw (free_of, eq-eqb (mark_of c.args.w) 1 (omega (arith, c.mark_of.ensures)))

pub returns-else-mark_of-eq1 : goal.returns-else-mark_of-eq1
returns-else-mark_of-eq1 c = rw (free_of, ne_eqb (mark_of c.args.w) 1 (λ e. omega (arith, c.mark_of.ensures)))
