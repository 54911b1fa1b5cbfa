-- `heap_runs::running::call` meets its contract: a call on the words that are lent leaves the others. Assumes nothing.
use mathlib.Core.Path.{◌≡◌, sym, ◌∙◌}
use native.Mathlib.Omega.{arith}
use lib.ListN.{length}
use lib.Seq.{length-take-le}
use Rattle.heap_runs.proofs.Lending.{does_call, fits-lending}
use Rattle.heap_runs.proofs.running.call.Goals as goal

pub slice_bounds-called-end-2 : goal.slice_bounds-called-end-2
slice_bounds-called-end-2 c = let a = c.args in sym (length-take-le a.lent.words a.arena.now (omega (arith, c.requires.arena_is, c.requires.words_fit)))

pub slice_bounds-called-end-4 : goal.slice_bounds-called-end-4
slice_bounds-called-end-4 c = let a = c.args in sym (length-take-le a.lent.records a.ledger.now (omega (arith, c.requires.ledger_is, c.requires.records_fit)))

pub returns : goal.returns
returns c =
    let a = c.args in
    let f = c.requires in
    let d = c.called-reply in
    let lent-words : length d.new.arena ≡ a.lent.words = d.auto.arena ∙ length-take-le a.lent.words a.arena.now (omega (arith, f.arena_is, f.words_fit)) in
    let lent-records : length d.new.ledger ≡ a.lent.records = d.auto.ledger ∙ length-take-le a.lent.records a.ledger.now (omega (arith, f.ledger_is, f.records_fit)) in record {
      does = does_call a.lent a.arena.now a.ledger.now c.replied.result d.result c.replied.ensures a.call d.new.arena d.new.ledger d.ensures;
      fits = fits-lending a.lent a.arena.now a.ledger.now f c.replied.result d.result a.lent.words a.lent.records f.words_fit f.records_fit c.replied.ensures d.new.arena d.new.ledger a.lent.words a.lent.records f.words_fit f.records_fit lent-words lent-records;
    }
