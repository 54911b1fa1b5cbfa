-- `table::pack::record_word` meets its contract: the fields lie apart, so the sums fit. Assumes nothing.
use mathlib.Core.Bool.{Bool, true, false}
use Prim.Native.Nat.{◌≤◌, ◌^◌}
use native.Mathlib.Omega.{arith}
use Rattle.table.specs.Layout.{mark_word}
use Rattle.table.proofs.pack.record_word.Goals as goal

mark-fits : (granted : Bool) → mark_word granted ≤ 2 ^ 63
mark-fits true = omega arith
mark-fits false = omega arith

pub overflow_add-result : goal.overflow_add-result
overflow_add-result c = omega (arith, mark-fits c.args.granted)

pub overflow_add-result-2 : goal.overflow_add-result-2
overflow_add-result-2 c = omega (arith, mark-fits c.args.granted)
