-- The state of a heap, what a call leaves of it, and making, from docs/RULES.md, "The heap over an arena" and "Refusal numbers".
use Rattle.std.specs.Prelude.{◌≡◌, Bool, true, false, ◌&&◌, List, ℕ, leb, length, replicate}
use Rattle.answers.specs.declared.Refusal.{Refusal}
use Rattle.answers.specs.declared.Refusal.TheVariants.{BadOrder, BadSize}
use Rattle.answers.specs.Paper.{number_of, paper}
use Rattle.heap_state.specs.declared.Heap.{Heap}
use Rattle.heap_state.specs.declared.Reply.{Reply}

-- the heap record, and the words of the arena and of the ledger
pub record State : Type 0 where
  pub heap : Heap
  pub arena : List ℕ
  pub ledger : List ℕ

abbrev pub state : Heap → List ℕ → List ℕ → State
state h arena ledger = record { heap = h; arena = arena; ledger = ledger }

-- what a call comes to: its number and its value, and the state afterwards
pub record Outcome : Type 0 where
  pub number : ℕ
  pub value : ℕ
  pub state : State

-- an answer with its record, and the words afterwards, are those of an outcome
pub record Says (o : Outcome) (r : Reply) (arena ledger : List ℕ) : Type 0 where
  pub number_is : (paper r.answer).number ≡ o.number
  pub value_is : (paper r.answer).value ≡ o.value
  pub state_is : state r.heap arena ledger ≡ o.state

-- ---- lengths and ORDER

-- "The arena is 2 to 1,048,576 words"; "ORDER is 4 to 33"; "The ledger is 1 to 65,535 lent words"
abbrev pub lengthsb : ℕ → ℕ → Bool
lengthsb arena ledger = leb 2 arena && leb arena 1048576 && leb 1 ledger && leb ledger 65535

abbrev pub orderb : ℕ → Bool
orderb order = leb 4 order && leb order 33

-- ---- making: "`new` and `empty` make the same fresh heap record: ORDER, 33 list heads, ledger count, and three byte counters"
abbrev pub fresh_heap : ℕ → Heap
fresh_heap order = record { order = order; heads = replicate 33 0; count = 0; user = 0; allocated = 0; total = 0 }

-- "Refused, they return a record of zeros"
abbrev pub not_made : Refusal → List ℕ → List ℕ → Outcome
not_made r arena ledger = record { number = number_of r; value = 0; state = state (fresh_heap 0) arena ledger }

-- "Making a heap zeroes the ledger and does not touch the arena"; whether the ORDER is in range, and the lengths
abbrev pub made_if : Bool → Bool → ℕ → List ℕ → List ℕ → Outcome
made_if false lengths order arena ledger = not_made BadOrder arena ledger
made_if true false order arena ledger = not_made BadSize arena ledger
made_if true true order arena ledger = record { number = 0; value = 0; state = state (fresh_heap order) arena (replicate (length ledger) 0) }

unfoldable pub making : ℕ → List ℕ → List ℕ → Outcome
making order arena ledger = made_if (orderb order) (lengthsb (length arena) (length ledger)) order arena ledger
