-- What each call on a heap answers and leaves, from docs/RULES.md, "The heap over an arena" and "Refusal numbers".
use Rattle.std.specs.Prelude.{true, false, ℕ, ◌+◌}
use Rattle.answers.specs.declared.Refusal.TheVariants.{BadState}
use Rattle.heap_state.specs.State.{State, Outcome}
use Rattle.heap_blocks.specs.Sound.{is_sound}
use Rattle.answers.specs.Judging.{refused, done}
use Rattle.heap_core.specs.Deciding.{Decision, carried}
use Rattle.heap_add.specs.Adding.{adding}
use Rattle.heap_grant.specs.Granting.{granting}
use Rattle.heap_release.specs.Releasing.{releasing, zeroing}

-- the calls on an existing heap
pub data Call : Type 0 where
  Init : ℕ → ℕ → Call
  AddToHeap : ℕ → ℕ → Call
  Alloc : ℕ → ℕ → Call
  Dealloc : ℕ → ℕ → ℕ → Call
  ZeroFill : ℕ → ℕ → ℕ → Call
  StatsAllocUser : Call
  StatsAllocActual : Call
  StatsTotalBytes : Call

-- ---- each call, on a sound heap
unfoldable pub decide : Call → State → Decision
decide (Init s n) st = adding s (s + n) st
decide (AddToHeap s e) st = adding s e st
decide (Alloc size align) st = granting size align st
decide (Dealloc a size align) st = releasing a size align st
decide (ZeroFill a size align) st = zeroing a size align st
decide StatsAllocUser st = done st.heap.user st
decide StatsAllocActual st = done st.heap.allocated st
decide StatsTotalBytes st = done st.heap.total st

-- "BAD_STATE: table or heap not sound", before everything else
unfoldable pub outcome : Call → State → Outcome
outcome call st = elim (is_sound st) [ true ↦ carried st (decide call st) | false ↦ carried st (refused BadState) ]
