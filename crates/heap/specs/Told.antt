-- What the promises of the calls say: the answer, the record and every lent word afterwards are the outcome's.
use Rattle.std.specs.Prelude.{List, [], ◌∷◌, ℕ, set}
use Rattle.answers.specs.Paper.{Answer}
use Rattle.answers.specs.Paper.{Paper, paper}
use Rattle.heap_state.specs.declared.Heap.{Heap}
use Rattle.heap_state.specs.declared.Reply.{Reply}
use Rattle.heap_state.specs.State.{State, state, Says}
use Rattle.heap.specs.Outcome.{Call, outcome}

-- the promise of a call: from the state before to the reply and the words after
abbrev pub Told : Call → State → Reply → List ℕ → List ℕ → Type 0
Told call before r arena ledger = Says (outcome call before) r arena ledger

-- of a call that is lent record and words to read alone
abbrev pub Read : Call → Heap → List ℕ → List ℕ → Answer → Type 0
Read call h arena ledger a = Says (outcome call (state h arena ledger)) (record { answer = a; heap = h }) arena ledger

-- ---- what happens to a heap, one thing after the other: a call, or a word of the arena that somebody else writes

pub data Event : Type 0 where
  called : Call → Event
  wrote : ℕ → ℕ → Event

abbrev pub written : ℕ → ℕ → State → State
written i w st = state st.heap (set st.arena i w) st.ledger

-- what the definition answers to the calls, and the state at the end
abbrev pub replies : List Event → State → List Paper
replies [] st = []
replies (called c ∷ es) st = record { number = (outcome c st).number; value = (outcome c st).value } ∷ replies es (outcome c st).state
replies (wrote i w ∷ es) st = replies es (written i w st)

abbrev pub last : List Event → State → State
last [] st = st
last (called c ∷ es) st = last es (outcome c st).state
last (wrote i w ∷ es) st = last es (written i w st)

-- a chain of events in which each call meets its promise
pub data Chain : List Event → State → List Paper → State → Type 0 where
  done : {st : State} → Chain [] st [] st
  call : {c : Call} {es : List Event} {before after : State} {r : Reply} {arena ledger : List ℕ} {rs : List Paper} → Told c before r arena ledger
      → Chain es (state r.heap arena ledger) rs after → Chain (called c ∷ es) before (paper r.answer ∷ rs) after
  write : {i w : ℕ} {es : List Event} {before after : State} {rs : List Paper} → Chain es (written i w before) rs after → Chain (wrote i w ∷ es) before rs after
