-- `ledger::records::enter` meets its contract: the tail from its place on moves up, and its word is written there. Assumes nothing.
use Prim.Native.Nat.{◌+◌}
use mathlib.Core.Path.{◌∙◌}
use native.Mathlib.Omega.{arith}
use Rattle.ledger.proofs.Grants.{word_fits}
use Rattle.ledger.proofs.Ledgers.{place-le, tail-zeros}
use Rattle.ledger.proofs.Keeping.{entered}
use Rattle.ledger.proofs.records.enter.Goals as goal

pub overflow_add-i : goal.overflow_add-i
overflow_add-i c =
    let a = c.args in
    let o = c.requires.0 in
    let l = place-le o.0 a.count a.ledger.now o.1 (a.address + 1) in
    omega (arith, c.place-i.ensures)

pub move_tail-requires : goal.move_tail-requires
move_tail-requires c =
    let a = c.args in
    let o = c.requires.0 in
    let l = place-le o.0 a.count a.ledger.now o.1 (a.address + 1) in
    (omega (arith, c.place-i.ensures), o.1.room, omega arith, tail-zeros o.0 a.count a.ledger.now o.1)

pub offset_bounds-ledger-i : goal.offset_bounds-ledger-i
offset_bounds-ledger-i c =
    let a = c.args in
    let o = c.requires.0 in
    let l = place-le o.0 a.count a.ledger.now o.1 (a.address + 1) in
    omega (arith, c.place-i.ensures)

pub bounds-ledger-i : goal.bounds-ledger-i
bounds-ledger-i c =
    let a = c.args in
    let o = c.requires.0 in
    let l = place-le o.0 a.count a.ledger.now o.1 (a.address + 1) in
    omega (arith, c.place-i.ensures)

pub returns : goal.returns
returns c =
    let a = c.args in
    let o = c.requires.0 in
    entered o.0 a.count a.ledger.now o.1 a.class a.requested a.address c.place-i.result c.record_word.result c.move_tail.new.t c.place-i.ensures (omega arith)
    c.move_tail.ensures (c.record_word.ensures ∙ word_fits a.class a.requested a.address (omega arith) (omega arith) (omega arith))
