-- `heap_state::ranges::ranges_ok` meets its contract. Assumes nothing.
use mathlib.Core.Path.{sym, ◌∙◌}
use Rattle.heap_state.proofs.ranges.ranges_ok.Goals as goal

pub returns-then-not-lengths_ok : goal.returns-then-not-lengths_ok
returns-then-not-lengths_ok c = sym (rw (sym c.lengths_ok.ensures ∙ c.if-not-lengths_ok.true))

pub returns-then-not-order_ok : goal.returns-then-not-order_ok
returns-then-not-order_ok c =
    sym (rw (sym c.lengths_ok.ensures ∙ c.if-not-lengths_ok.false, sym c.order_ok.ensures ∙ c.if-not-order_ok.true))

pub returns : goal.returns
returns c =
    sym (rw (sym c.lengths_ok.ensures ∙ c.if-not-lengths_ok.false, sym c.order_ok.ensures ∙ c.if-not-order_ok.false))
