-- `heap_pairs::pairs::apart` meets its contract. Assumes nothing.
use native.Mathlib.Omega.{arith}
use Rattle.heap_pairs.proofs.Crossing.{apart_below, apart_above}
use Rattle.heap_pairs.proofs.pairs.apart.Goals as goal

pub returns-then-a-b : goal.returns-then-a-b
returns-then-a-b c =
    let a = c.args in
    apart_below a.a a.size a.b a.other (omega arith) (omega arith)

pub returns : goal.returns
returns c =
    let a = c.args in
    apart_above a.a a.size a.b a.other (omega arith)
