-- `words::scan::three_rows` meets its contract. Assumes nothing.
use mathlib.Core.Path.{refl, ap, ◌∙◌}
use native.Mathlib.Omega.{arith}
use lib.Seq.{take_all}
use Rattle.words.specs.Words.{zerosb}
use Rattle.words.proofs.Zeros.{row-or, three-rows}
use Rattle.words.proofs.scan.three_rows.Goals as goal

pub loop-i-init : goal.loop-i-init
loop-i-init c = (refl, refl, refl)

pub loop-i-preserved : goal.loop-i-preserved
loop-i-preserved c =
    let l = c.loop-i in
    (row-or _ l.i l.a (omega arith) l.invariant.0, row-or _ l.i l.b (omega arith) l.invariant.1, row-or _ l.i l.c (omega arith) l.invariant.2)

pub returns : goal.returns
returns c =
    let l = c.loop-i in
    let a = c.args in
    three-rows l.a l.b l.c _ _ _
    (l.invariant.0 ∙ ap zerosb (take_all l.i a.first.now (omega arith)))
    (l.invariant.1 ∙ ap zerosb (take_all l.i a.second.now (omega arith)))
    (l.invariant.2 ∙ ap zerosb (take_all l.i a.last.now (omega arith)))
