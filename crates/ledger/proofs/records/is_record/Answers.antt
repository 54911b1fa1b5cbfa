-- `ledger::records::is_record` meets its contract. Assumes nothing.
use mathlib.Core.Path.{sym}
use native.Mathlib.Omega.{arith}
use borrow.Author.Tests.{eq-eqb}
use Rattle.words.proofs.Tests.{no}
use Rattle.ledger.specs.Ledger.{class_of, requested_of, address_of}
use Rattle.ledger.proofs.Searching.{same-fact}
use Rattle.ledger.proofs.records.is_record.Goals as goal

pub returns-then-class_of-class : goal.returns-then-class_of-class
returns-then-class_of-class c =
    let a = c.args in
    sym (no _ (λ e.
    let f = same-fact a.class a.requested a.address (class_of a.w) (requested_of a.w) (address_of a.w) e in
    omega (arith, c.class_of.ensures)))

pub returns-then-requested_of-requested : goal.returns-then-requested_of-requested
returns-then-requested_of-requested c =
    let a = c.args in
    sym (no _ (λ e.
    let f = same-fact a.class a.requested a.address (class_of a.w) (requested_of a.w) (address_of a.w) e in
    omega (arith, c.requested_of.ensures)))

pub returns : goal.returns
returns c =
    let a = c.args in
    rw (eq-eqb (class_of a.w) a.class (omega (arith, c.class_of.ensures)), eq-eqb (requested_of a.w) a.requested (omega (arith, c.requested_of.ensures)), c.address_of.ensures)
