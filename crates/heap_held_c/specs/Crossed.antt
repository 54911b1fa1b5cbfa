-- What crosses to C of a call on a heap whose record is held in place, from docs/RULES.md, "The heap over an arena": two numbers, the record and the words.
use Rattle.std.specs.Prelude.{◌≡◌, List, ℕ}
use Rattle.heap_state.specs.declared.Heap.{Heap}
use Rattle.heap_state.specs.State.{state, Outcome}

-- these two numbers, and the record and the words of arena and ledger afterwards, are the outcome's
pub record Crossed (o : Outcome) (number value : ℕ) (heap : Heap) (arena ledger : List ℕ) : Type 0 where
  pub number_is : number ≡ o.number
  pub value_is : value ≡ o.value
  pub state_is : state heap arena ledger ≡ o.state
