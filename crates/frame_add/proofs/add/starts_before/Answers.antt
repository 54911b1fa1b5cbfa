-- `frame_add::add::starts_before` meets its contract. Assumes nothing.
use mathlib.Core.Path.{refl}
use native.Mathlib.Omega.{arith}
use lib.ListN.{get_or}
use borrow.Author.Tests.{le-leb, lt-leb}
use Rattle.table.specs.Layout.{count_of}
use Rattle.frame_add.specs.Add.{starts_before}
use Rattle.frame_add.proofs.add.starts_before.Goals as goal

pub returns-then-count_of-i : goal.returns-then-count_of-i
unfolding starts_before
returns-then-count_of-i c =
    let a = c.args in
    rw (le-leb (count_of (get_or a.t.now 0 0)) a.i (omega (arith, c.count_of.ensures, c.if-count_of-i.true)), starts_before) refl

pub returns : goal.returns
unfolding starts_before
returns c =
    let a = c.args in
    let n = c.count_of.ensures in
    rw (c.start_of.ensures, lt-leb (count_of (get_or a.t.now 0 0)) a.i (omega (arith, n, c.if-count_of-i.false)), starts_before) refl
