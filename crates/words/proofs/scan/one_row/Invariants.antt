-- `words::scan::one_row` meets its contract: the row is zero only where the words that it or-ed are. Assumes nothing.
use mathlib.Core.Path.{◌≡◌}
use lib.Dec.{eqb}
use lib.ListN.{take}
use Rattle.words.specs.Words.{zerosb}
use Rattle.words.proofs.scan.one_row.Given as goal

abbrev pub invariant-loop-w : goal.invariant-loop-w
invariant-loop-w l = eqb l.row 0 ≡ zerosb (take l.w-index l.ws)
