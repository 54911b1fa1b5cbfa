-- `heap_state::ranges::order_ok` meets its contract. Assumes nothing.
use mathlib.Core.Path.{sym}
use native.Mathlib.Omega.{arith}
use Rattle.words.proofs.Tests.{no}
use Rattle.heap_state.proofs.InRange.{order-fact, order-true}
use Rattle.heap_state.proofs.ranges.order_ok.Goals as goal

pub returns-then-order-lt-MIN_ORDER : goal.returns-then-order-lt-MIN_ORDER
returns-then-order-lt-MIN_ORDER c = sym (no _ (λ e. let l = order-fact c.args.order e in omega arith))

pub returns-then-order-gt-MAX_ORDER : goal.returns-then-order-gt-MAX_ORDER
returns-then-order-gt-MAX_ORDER c = sym (no _ (λ e. let l = order-fact c.args.order e in omega arith))

pub returns : goal.returns
returns c = sym (order-true c.args.order (omega arith) (omega arith))
