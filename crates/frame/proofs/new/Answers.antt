-- `frame::new` meets its contract: the tests in their order, then the words of an empty table. Assumes nothing.
use mathlib.Core.Path.{◌≡◌, refl}
use mathlib.Core.List.{[]}
use native.Mathlib.Omega.{arith}
use Rattle.table.specs.Layout.{head_of}
use Rattle.table.proofs.State.{state, head-fits}
use Rattle.frame.proofs.Making.{order-0, order-high, no_words, too_long, made}
use Rattle.frame.proofs.new.Goals as goal

pub returns-then-order-lt1 : goal.returns-then-order-lt1
returns-then-order-lt1 c =
    let a = c.args in
    order-0 a.order a.t.now (omega arith)

pub returns-then-order-gt33 : goal.returns-then-order-gt33
returns-then-order-gt33 c =
    let a = c.args in
    order-high a.order a.t.now (omega arith) (omega arith)

pub returns-then-t-lt1 : goal.returns-then-t-lt1
returns-then-t-lt1 c =
    let a = c.args in
    no_words a.order a.t.now (omega arith) (omega arith) (omega arith)

pub returns-then-t-gt65536 : goal.returns-then-t-gt65536
returns-then-t-gt65536 c =
    let a = c.args in
    too_long a.order a.t.now (omega arith) (omega arith) (omega arith) (omega arith)

pub returns : goal.returns
returns c =
    let a = c.args in
    let w : c.head_word.result ≡ head_of (state a.order []) = head-fits a.order 0 c.head_word.result (omega arith) (omega arith) c.head_word.ensures (state a.order []) refl refl in
    rw c.clear.ensures (made a.order a.t.now (omega arith) (omega arith) (omega arith) (omega arith) c.head_word.result w)
