-- `heap_runs::walking::list` meets its contract: the nodes of the heap over the words that are lent. Assumes nothing.
use mathlib.Core.Path.{sym}
use native.Mathlib.Omega.{arith}
use lib.Seq.{length-take-le}
use Rattle.heap_runs.specs.Run.{machine}
use Rattle.heap_runs.proofs.Lending.{does-list}
use Rattle.heap_runs.proofs.walking.list.Goals as goal

pub slice_bounds-nodes_of-end : goal.slice_bounds-nodes_of-end
slice_bounds-nodes_of-end c = let a = c.args in sym (length-take-le a.lent.words a.arena.now (omega (arith, c.requires.arena_is, c.requires.words_fit)))

pub slice_bounds-nodes_of-end-2 : goal.slice_bounds-nodes_of-end-2
slice_bounds-nodes_of-end-2 c = let a = c.args in sym (length-take-le a.lent.records a.ledger.now (omega (arith, c.requires.ledger_is, c.requires.records_fit)))

pub returns : goal.returns
returns c = let a = c.args in record {
  does = does-list a.class (machine a.lent a.arena.now a.ledger.now) c.nodes_of-line.result c.nodes_of-line.ensures;
  fits = c.requires;
}
