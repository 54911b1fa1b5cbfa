-- `put_hex` meets its contract: the loop's invariant is that the digits so far are the word's last. Assumes nothing.
use Rattle.texts.proofs.Hexadecimals.{digits_more, digits-all}
use Prim.Native.Nat.{◌-◌}
use mathlib.Core.Path.{◌≡◌, ◌∙◌}
use native.Mathlib.Omega.{arith}
use lib.ListN.{length-set}
use Rattle.texts.specs.Text.{hex_digits}
use Rattle.texts.proofs.Output.put_hex.Goals as goal

pub loop-i-preserved : goal.loop-i-preserved
loop-i-preserved c =
    let l = c.loop-i in
    (length-set l.digits (l.i - 1) c.digit.result ∙ l.invariant.0, l.invariant.1 ∙ digits_more l.digits l.i l.rest c.digit.result (omega arith) (omega arith) c.digit.ensures)

pub returns : goal.returns
returns c =
    let l = c.loop-i in
    let all : hex_digits 16 c.args.word ≡ l.digits = l.invariant.1 ∙ digits-all l.digits l.i l.rest (omega arith) in
    rw all c.put.ensures
