-- `linked_list::walk::find` meets its contract: the search among the nodes left, with the count so far, is the whole search. Assumes nothing.
use mathlib.Core.Path.{◌≡◌}
use mathlib.Core.Bool.{false}
use Prim.Native.Nat.{◌+◌, ◌≤◌}
use lib.ListN.{length}
use Rattle.linked_list.specs.Links.{nodes, searched}
use Rattle.linked_list.proofs.Searching.{along}
use Rattle.linked_list.proofs.walk.find.Given as goal

abbrev pub invariant-loop-node : goal.invariant-loop-node
invariant-loop-node l = record {
  rest : along l.wanted l.search.previous l.search.compared l.node-iterator ≡ searched l.wanted (nodes l.most l.arena l.head);
  few : l.search.compared + length l.node-iterator ≤ l.most;
  not_found : l.search.found ≡ false;
}
