-- How a call decides on a sound heap, and what its decision comes to, from docs/RULES.md, "Refusal numbers" and "The heap over an arena". The
-- decisions themselves stand beside their code: heap_add/specs/Adding.antt, heap_grant/specs/Granting.antt, heap_release/specs/Releasing.antt.
use Rattle.std.specs.Prelude.{List, ℕ, ◌-◌, ◌*◌, max, length}
use Rattle.answers.specs.Judging as judging
use Rattle.answers.specs.Judging.{refused, done}
use Rattle.answers.specs.Paper.{number_of}
use Rattle.std.specs.Prelude.{Option, Some, None}
use Rattle.blocks.specs.Blocks.{rounded_aligned}
use Rattle.ledger.specs.Ledger.{Grant, grants, ledger_words}
use Rattle.heap_state.specs.Lists.{Memory}
use Rattle.heap_state.specs.declared.Reply.{Reply}
use Rattle.heap_state.specs.State.{State, Outcome, Says}

-- what a call decides on a sound heap: a refusal, or a value and the state afterwards
abbrev pub Decision : Type 0
Decision = judging.Decision ℕ State

-- ---- the parts of a state

abbrev pub memory : State → Memory
memory s = record { heads = s.heap.heads; arena = s.arena }

abbrev pub bytes : State → ℕ
bytes s = length s.arena * 8

abbrev pub top : State → ℕ
top s = s.heap.order - 1

abbrev pub granted : State → List Grant
granted s = grants s.heap.count s.ledger

-- "Sizes are in bytes, at least 8": the class of a size and an alignment; 33, a class of no heap, above every block
abbrev pub wanted : Option ℕ → ℕ
wanted (Some k) = max 3 k
wanted None = 33

abbrev pub class_for : ℕ → ℕ → ℕ
class_for size align = wanted (rounded_aligned size align)

-- the state after a grant or a release: the lists, the ledger with its count, and two of the counters
abbrev pub with_grants : State → Memory → List Grant → ℕ → ℕ → State
with_grants s m gs user allocated =
    record {
      heap = record { order = s.heap.order; heads = m.heads; count = length gs; user = user; allocated = allocated; total = s.heap.total };
      arena = m.arena;
      ledger = ledger_words (length s.ledger) gs;
    }

-- ---- what a decision comes to: "Each returns its number and 0, and changes no word. An accepted call returns number 0"
abbrev pub carried : State → Decision → Outcome
carried st (refused r) = record { number = number_of r; value = 0; state = st }
carried st (done v after) = record { number = 0; value = v; state = after }

-- the promise of a call on a sound heap: the reply and the words afterwards are what is decided
abbrev pub Carries : State → Decision → Reply → List ℕ → List ℕ → Type 0
Carries st d reply arena ledger = Says (carried st d) reply arena ledger
