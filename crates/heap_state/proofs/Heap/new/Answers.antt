-- `heap_state::Heap::new` meets its contract. Assumes nothing.
use mathlib.Core.Path.{sym, ◌∙◌}
use Rattle.heap_state.proofs.Made.{not-order, not-lengths, made}
use Rattle.heap_state.proofs.Heap.new.Goals as goal

pub returns-then-not-order_ok : goal.returns-then-not-order_ok
returns-then-not-order_ok c =
    let a = c.args in
    not-order a.order a.arena.now a.ledger.now _ (sym c.order_ok.ensures ∙ c.if-not-order_ok.true) c.fresh.ensures

pub returns-then-not-lengths_ok : goal.returns-then-not-lengths_ok
returns-then-not-lengths_ok c =
    let a = c.args in
    not-lengths a.order a.arena.now a.ledger.now _ (sym c.order_ok.ensures ∙ c.if-not-order_ok.false)
    (sym c.lengths_ok.ensures ∙ c.if-not-lengths_ok.true) c.fresh-then-not-lengths_ok.ensures

pub returns : goal.returns
returns c =
    let a = c.args in
    made a.order a.arena.now a.ledger.now _ _ (sym c.order_ok.ensures ∙ c.if-not-order_ok.false)
    (sym c.lengths_ok.ensures ∙ c.if-not-lengths_ok.false) c.fresh-2.ensures c.clear.ensures
