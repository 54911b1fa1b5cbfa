-- `linked_list::forward::NodesIterator::next` meets its contract: the first of the nodes left comes, and the others stay. Assumes nothing.
use mathlib.Core.Path.{◌≡◌, sym, ap, ◌∙◌}
use mathlib.Core.List.{[]}
use Prim.Native.Nat.{suc, ◌-◌}
use native.Mathlib.Omega.{arith}
use lib.ListN.{length}
use Rattle.linked_list.specs.Links.{nodes}
use Rattle.linked_list.proofs.Steps.{nodes-end, nodes-none, nodes-step}
use Rattle.linked_list.proofs.forward.NodesIterator.next.Goals as goal
use Rattle.linked_list.proofs.forward.NodesIterator.next.Goals.{then-self-eq0-via-then-self-eq0, then-self-eq0-via-else-self-eq0+then-self-eq0-2}

pub returns-then-self-eq0-clause-steps : goal.returns-then-self-eq0-clause-steps
returns-then-self-eq0-clause-steps c =
    let n = c.self.inside in
    elim c.then-self-eq0.branch [
      | then-self-eq0-via-then-self-eq0 w ↦
          let z = w.if-self-eq0.true in
          let e : c.args.self.now ≡ [] = sym c.self.view_is ∙ rw z (nodes-end n.left n.arena.now) in
          (e, e)
      | then-self-eq0-via-else-self-eq0+then-self-eq0-2 w ↦
          let e = sym c.self.view_is ∙ nodes-none n.left n.arena.now n.node (omega arith) in
          (e, e)
    ]

pub returns-clause-steps : goal.returns-clause-steps
returns-clause-steps c =
    let n = c.self.inside in
    let step = nodes-step n.left (n.left - 1) n.arena.now n.node (omega arith) c.if-self-eq0.false in
    sym c.self.view_is ∙ step ∙ rw c.next-self-inside.ensures

pub returns-clause-goes : goal.returns-clause-goes
returns-clause-goes c =
    let n = c.self.inside in
    let step = nodes-step n.left (n.left - 1) n.arena.now n.node (omega arith) c.if-self-eq0.false in
    let more : length c.args.self.now ≡ suc (length (nodes (n.left - 1) n.arena.now c.next-self-inside.result)) =
    ap length (sym c.self.view_is ∙ step) ∙ rw c.next-self-inside.ensures in
    record { on = λ e. (tt, tt, omega arith); keeps = tt; rests = λ e. tt }
