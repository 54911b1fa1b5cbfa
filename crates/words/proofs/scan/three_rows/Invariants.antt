-- `words::scan::three_rows` meets its contract: a row is zero only where the words that it or-ed are. Assumes nothing.
use mathlib.Core.Path.{◌≡◌}
use lib.Dec.{eqb}
use lib.ListN.{take}
use Rattle.words.specs.Words.{zerosb}
use Rattle.words.proofs.scan.three_rows.Given as goal

abbrev pub invariant-loop-i : goal.invariant-loop-i
invariant-loop-i l = (eqb l.a 0 ≡ zerosb (take l.i l.first)) × (eqb l.b 0 ≡ zerosb (take l.i l.second)) × (eqb l.c 0 ≡ zerosb (take l.i l.last))
