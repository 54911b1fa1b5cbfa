-- `heap_runs::walking::count_nodes` meets its contract: the reader's steps from the head on, as far as a node comes, are the list's. Assumes nothing.
use mathlib.Core.Path.{refl, ap, ◌∙◌}
use native.Mathlib.Omega.{arith}
use borrow.Author.Rules.{rules}
use borrow.Author.Tests.{tests}
use lib.ListN.{length}
use Rattle.heap_reader.specs.Reading.{step_at}
use Rattle.heap_reader.specs.declared.Step.{Step}
use Rattle.heap_reader.proofs.Yielding.{node-step}
use Rattle.heap_runs.proofs.Counting.{endless, run-counts}
use Rattle.heap_runs.proofs.walking.count_nodes.Goals as goal

pub returns : goal.returns
returns c =
    let arena = c.args.arena.now in
    let head = c.args.head in
    let p = c.count.ensures.runs in
    let t = c.take_while.ensures.runs p.0 p.0.seen p.1 in
    let k = c.take.ensures.runs t.0 t.0.seen t.1 in
    let r = k.1 in
    let s = c.successors.ensures.runs r.0 r.0.seen r.1 in
    let goes = s.2 (search rules) in
    let calls = t.2.2 (search rules) in
    p.3
    ∙ run-counts (length arena) p.0.len arena (λ x. (step_at arena x 0).at) (λ x q. ap (λ (y : Step). y.at) (node-step arena x q)) head p.0.at t.0.at
    (λ x q. search (rules, tests)) (λ x q. search (rules, tests))
    (λ w b. endless r.0.len r.0.at
    (λ z. let n = s.1 (r.2.1 w.0 (omega (arith, w.1))) z in cc) (λ j e. goes.1 j (r.2.1 w.0 (omega (arith, w.1))) e) (λ x q. search (rules, tests)))
    (omega (arith, t.2.0, k.0)) _ (λ j b. p.0.reads j 0 b) (λ j. rw (← r.2.0.2 j) (goes.2 (λ x. (step_at arena x 0).at) head j refl (λ x y q. search (rules, tests)))) t.2.1 calls.0 (calls.1 p.2)
