-- `heap_runs::walking::nodes_of` meets its contract: an unsound heap is refused, and of a sound one the nodes are counted. Assumes nothing.
use mathlib.Core.Path.{◌≡◌, sym, ap, ◌∙◌}
use native.Mathlib.Omega.{arith}
use Rattle.heap_state.specs.State.{state}
use Rattle.heap_reader.specs.Reading.{first_of}
use Rattle.heap_reader.specs.declared.Step.{Step}
use Rattle.heap_reader.proofs.Yielding.{refused-first, read_first}
use Rattle.heap_runs.proofs.Lending.{lists-unsound, lists-sound}
use Rattle.heap_runs.proofs.walking.nodes_of.Goals as goal

pub returns-then-start-ne0 : goal.returns-then-start-ne0
returns-then-start-ne0 c =
    let a = c.args in
    let e = ap (λ (s : Step). s.number) c.first-start.ensures in
    lists-unsound a.class (state a.heap a.arena.now a.ledger.now) (refused-first a.heap a.arena.now a.ledger.now a.class (λ z. omega (arith, z, e, c.if-start-ne0.true)))

pub returns : goal.returns
returns c =
    let a = c.args in
    let s = c.first-start in
    let n : (first_of a.heap a.arena.now a.ledger.now a.class).number ≡ 0 = sym (ap (λ (x : Step). x.number) s.ensures) ∙ omega (arith, c.if-start-ne0.false) in
    let r = read_first a.heap a.arena.now a.ledger.now a.class n in
    lists-sound a.class (state a.heap a.arena.now a.ledger.now) s.result.node c.count_nodes.result r.0 (ap (λ (x : Step). x.node) s.ensures ∙ r.1) c.count_nodes.ensures
