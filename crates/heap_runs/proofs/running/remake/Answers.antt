-- `heap_runs::running::remake` meets its contract: a heap made again over the words that are lent. Assumes nothing.
use mathlib.Core.Path.{◌≡◌, sym, ◌∙◌}
use native.Mathlib.Omega.{arith}
use lib.ListN.{length}
use lib.Seq.{length-take-le}
use Rattle.heap_runs.proofs.Lending.{does-remake, fits-ledger}
use Rattle.heap_runs.proofs.running.remake.Goals as goal

pub slice_bounds-new-end : goal.slice_bounds-new-end
slice_bounds-new-end c = let a = c.args in sym (length-take-le a.lent.words a.arena.now (omega (arith, c.requires.arena_is, c.requires.words_fit)))

pub slice_bounds-new-end-3 : goal.slice_bounds-new-end-3
slice_bounds-new-end-3 c = let a = c.args in sym (length-take-le a.lent.records a.ledger.now (omega (arith, c.requires.ledger_is, c.requires.records_fit)))

pub returns : goal.returns
returns c =
    let a = c.args in
    let f = c.requires in
    let d = c.new-reply in
    let lent-records : length d.new.ledger ≡ a.lent.records = d.auto.ledger ∙ length-take-le a.lent.records a.ledger.now (omega (arith, f.ledger_is, f.records_fit)) in record {
      does = does-remake a.lent a.arena.now a.ledger.now c.replied.result d.result c.replied.ensures a.order d.new.ledger d.ensures;
      fits = fits-ledger a.lent a.arena.now a.ledger.now f c.replied.result d.result a.lent.words a.lent.records f.words_fit f.records_fit c.replied.ensures d.new.ledger a.lent.records f.records_fit lent-records;
    }
