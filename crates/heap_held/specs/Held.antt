-- The promise of a call on a heap whose record is held in place, from docs/RULES.md, "The heap over an arena": "a thin layer holds the heap record in
-- place". What is said of the answer and of the record is what is said of the same call by value.
use Rattle.std.specs.Prelude.{List, ℕ, zero, suc}
use Rattle.answers.specs.Paper.{Answer}
use Rattle.heap_state.specs.declared.Heap.{Heap}
use Rattle.heap_state.specs.State.{State, state, Outcome, Says, making}

-- the answer, and the record and the words of arena and ledger afterwards, are the outcome's
abbrev pub Held : Outcome → Answer → Heap → List ℕ → List ℕ → Type 0
Held o a heap arena ledger = Says o (record { answer = a; heap = heap }) arena ledger

-- "Made in place, a refused making keeps the record's words" (docs/DECISIONS.md): number 0 alone is a heap that was made
abbrev pub kept_unless : ℕ → Heap → Heap → Heap
kept_unless zero kept made = made
kept_unless (suc n) kept made = kept

abbrev pub keeping : Heap → Outcome → Outcome
keeping h o = record { number = o.number; value = o.value; state = state (kept_unless o.number h o.state.heap) o.state.arena o.state.ledger }

-- making a heap over a record that is there
abbrev pub making_over : ℕ → State → Outcome
making_over order st = keeping st.heap (making order st.arena st.ledger)
