-- A sound heap's ledger is in order, and its record with what a grant or a release changes. Assumes nothing.
use mathlib.Core.List.{List}
use Prim.Native.Nat.{ℕ}
use Rattle.ledger.specs.Kept.{Kept}
use Rattle.heap_state.specs.declared.Heap.{Heap}
use Rattle.heap_state.specs.State.{State}
use Rattle.heap_blocks.proofs.Facts.{Sound}

pub kept : (st : State) → Sound st.heap st.arena st.ledger → Kept st.heap.order st.heap.count st.ledger
kept st s = record { room = s.ranges.room; short = s.ranges.ledger-high; fine = s.records; ascending = s.ascending; zeros = s.zeros }

-- the record with other heads, and other numbers of what is granted
abbrev pub granted_heap : List ℕ → ℕ → ℕ → ℕ → Heap → Heap
granted_heap heads count user allocated h = record { order = h.order; heads = heads; count = count; user = user; allocated = allocated; total = h.total }
