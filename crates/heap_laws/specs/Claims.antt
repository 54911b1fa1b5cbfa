-- What is claimed of a sound heap whatever is called: its lists afterwards, by the rules of the lists, and that it stays sound.
use Rattle.std.specs.Prelude.{◌≡◌, true, ℕ, ◌+◌, ◌-◌, ◌*◌, ◌^◌, ◌≤◌, length, set}
use mathlib.Core.List.{List, Memᴰ}
use Rattle.ledger.specs.Ledger.{grant}
use Rattle.heap_state.specs.State.{State, making}
use Rattle.heap_blocks.specs.Sound.{is_sound}
use Rattle.heap_core.specs.Deciding.{memory, granted, top, class_for}
use Rattle.heap_add.specs.Adding.{round_up, round_down}
use Rattle.heap.specs.Outcome.{Call, Init, AddToHeap, Alloc, Dealloc, ZeroFill, StatsAllocUser, StatsAllocActual, StatsTotalBytes, outcome}
use Rattle.heap_laws.specs.ListRules.{lists, first, serving_l, grant_l, ReleasedL, release_l, add_l}

-- a sound heap, with the "33 list heads" that its record has
pub record Healthy (st : State) : Type 0 where
  pub heads_33 : length st.heap.heads ≡ 33
  pub sound : is_sound st ≡ true

-- ---- the lists, and the value that is answered, by the rules of the lists

-- the class that serves class k
abbrev pub served_by : ℕ → State → ℕ
served_by k st = serving_l (st.heap.order - k) k (lists (memory st))

abbrev pub after_adding : ℕ → ℕ → State → List (List ℕ)
after_adding s e st = add_l (round_down e - round_up s) (top st) (round_up s) (round_down e - round_up s) (lists (memory st))

abbrev pub after_release : ℕ → ℕ → State → ReleasedL
after_release k a st = release_l (top st) k a (lists (memory st))

-- the lists that an accepted call leaves
abbrev pub lists_after : Call → State → List (List ℕ)
lists_after (Init s n) st = after_adding s (s + n) st
lists_after (AddToHeap s e) st = after_adding s e st
lists_after (Alloc size align) st = grant_l (served_by (class_for size align) st) (class_for size align) (lists (memory st))
lists_after (Dealloc a size align) st = (after_release (class_for size align) a st).lists
lists_after (ZeroFill a size align) st = lists (memory st)
lists_after StatsAllocUser st = lists (memory st)
lists_after StatsAllocActual st = lists (memory st)
lists_after StatsTotalBytes st = lists (memory st)

-- what an accepted call answers: a grant, the first block of the class that serves; a release, the nodes compared
abbrev pub value_after : Call → State → ℕ
value_after (Init s n) st = 0
value_after (AddToHeap s e) st = 0
value_after (Alloc size align) st = first (served_by (class_for size align) st) (lists (memory st))
value_after (Dealloc a size align) st = (after_release (class_for size align) a st).nodes_compared
value_after (ZeroFill a size align) st = 0
value_after StatsAllocUser st = st.heap.user
value_after StatsAllocActual st = st.heap.allocated
value_after StatsTotalBytes st = st.heap.total

-- an answer and a state afterwards are those of the rules, and the heap is sound
pub record Follows (value : ℕ) (after : List (List ℕ)) (v : ℕ) (st : State) : Type 0 where
  pub value_is : v ≡ value
  pub lists_are : lists (memory st) ≡ after
  pub healthy : Healthy st

-- ---- what other programs write

-- the word w lies wholly in the block of class k at a
pub record Word (w k a : ℕ) : Type 0 where
  pub from : a ≤ 8 * w
  pub to : 8 * w + 8 ≤ a + 2 ^ k

abbrev pub stored : ℕ → ℕ → State → State
stored w v st = record { heap = st.heap; arena = set st.arena w v; ledger = st.ledger }

-- a state that another program left has the same lists, and is sound
pub record Undisturbed (st after : State) : Type 0 where
  pub lists_are : lists (memory after) ≡ lists (memory st)
  pub healthy : Healthy after

-- ---- the heaps that there are

-- made, then called and written to in granted blocks, any number of times
pub data Reached : State → Type 0 where
  made : (order : ℕ) (arena ledger : List ℕ) → (making order arena ledger).number ≡ 0 → Reached (making order arena ledger).state
  called : (call : Call) {st : State} → Reached st → Reached (outcome call st).state
  written : (k n a w v : ℕ) {st : State} → Reached st → Memᴰ (grant k n a) (granted st) → Word w k a → Reached (stored w v st)
