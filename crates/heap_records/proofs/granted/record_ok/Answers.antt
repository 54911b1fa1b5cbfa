-- `heap_records::granted::record_ok` meets its contract. Assumes nothing.
use mathlib.Core.Path.{sym, ◌∙◌}
use native.Mathlib.Omega.{arith}
use borrow.Author.Tests.{lt-leb, le-leb}
use Rattle.words.proofs.Tests.{and-false}
use Rattle.ledger.specs.Ledger.{address_of, recordb}
use Rattle.heap_blocks.specs.Parts.{nextb}
use Rattle.heap_records.proofs.granted.record_ok.Goals as goal

pub returns-then-not-word_ok : goal.returns-then-not-word_ok
unfolding nextb
returns-then-not-word_ok c = rw (sym c.word_ok.ensures ∙ c.if-not-word_ok.true)

pub returns-then-address_of-floor : goal.returns-then-address_of-floor
unfolding nextb
returns-then-address_of-floor c =
    let low = lt-leb c.args.floor (address_of c.args.w) (omega arith) in
    rw (low, and-false (recordb c.args.order c.args.w))

pub returns : goal.returns
unfolding nextb
returns c =
    let a = c.args in
    let well = sym c.word_ok.ensures ∙ c.if-not-word_ok.false in
    let high = le-leb a.floor (address_of a.w) (omega arith) in
    rw (well, high) (rw (c.class_of.ensures, c.address_of-2.ensures) at c.placed.ensures)
