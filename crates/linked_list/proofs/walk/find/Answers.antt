-- `linked_list::walk::find` meets its contract: the search among the nodes left, with the count so far, is the whole search. Assumes nothing.
use mathlib.Core.Path.{◌≡◌, refl, sym, ap, ◌∙◌}
use native.Mathlib.Omega.{arith}
use lib.ListN.{length}
use Rattle.linked_list.specs.Links.{nodes}
use Rattle.linked_list.proofs.Chains.{nodes-few}
use Rattle.linked_list.proofs.Searching.{search_is, search-end, search-hit, search-miss}
use Rattle.linked_list.proofs.walk.find.Goals as goal

pub loop-node-init : goal.loop-node-init
loop-node-init c =
    let s = c.args in
    let all : c.into_iter-node-iterator.result ≡ nodes s.most s.arena.now s.head = c.into_iter-node-iterator.ensures.into_iter_gives ∙ c.iter-node-items.ensures in
    record { rest = rw all (search_is s.wanted (nodes s.most s.arena.now s.head)); few = rw all (omega (arith, nodes-few s.most s.arena.now s.head)); not_found = refl }

pub overflow_add-search : goal.overflow_add-search
overflow_add-search c =
    omega (arith, c.loop-node.invariant.few, ap length c.in-Some.ensures.steps)

pub returns-then-node-wanted : goal.returns-then-node-wanted
returns-then-node-wanted c =
    let l = c.loop-node in
    sym (search-hit c.args.wanted l.search l.node-iterator c.in-Some.node _ c.in-Some.ensures.steps c.if-node-wanted.true) ∙ l.invariant.rest

pub loop-node-preserved : goal.loop-node-preserved
loop-node-preserved c =
    let l = c.loop-node in
    record {
      rest = sym (search-miss c.args.wanted l.search l.node-iterator c.in-Some.node _ c.in-Some.ensures.steps c.if-node-wanted.false) ∙ l.invariant.rest;
      few = omega (arith, l.invariant.few, ap length c.in-Some.ensures.steps);
      not_found = l.invariant.not_found;
    }

pub returns : goal.returns
returns c =
    let l = c.loop-node in
    sym (search-end c.args.wanted l.search l.node-iterator c.in-None.ensures.steps.0 l.invariant.not_found) ∙ l.invariant.rest
