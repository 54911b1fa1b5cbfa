-- `words::scan::one_row` meets its contract. Assumes nothing.
use mathlib.Core.Path.{refl, ap, ◌∙◌}
use native.Mathlib.Omega.{arith}
use lib.Seq.{take_all}
use Rattle.words.specs.Words.{zerosb}
use Rattle.words.proofs.Zeros.{row-or}
use Rattle.words.proofs.scan.one_row.Goals as goal

pub loop-w-init : goal.loop-w-init
loop-w-init c = refl

pub loop-w-preserved : goal.loop-w-preserved
loop-w-preserved c =
    let l = c.loop-w in
    row-or _ l.w-index l.row (omega arith) l.invariant

pub returns : goal.returns
returns c =
    let l = c.loop-w in
    l.invariant ∙ ap zerosb (take_all l.w-index c.args.ws.now (omega arith))
