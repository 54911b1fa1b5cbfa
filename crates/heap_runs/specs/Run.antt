-- What a command leaves, from docs/RULES.md, "The lines of `heap_calls`".
use Rattle.std.specs.Prelude.{Bool, true, cond, ◌||◌, List, ◌++◌, ◌≡◌, ℕ, ◌≤◌, eqb, ltb, length, take, drop, set, replicate, Result, Ok, Err}
use Rattle.heap_state.specs.State.{State, state, Outcome, fresh_heap, making}
use Rattle.heap_state.specs.declared.Heap.{Heap}
use Rattle.heap.specs.Outcome as heap
use Rattle.heap_lines.specs.declared.Call.{Call}
use Rattle.heap_lines.specs.declared.Call.TheVariants.{Add, Init, Alloc, Free, Zero}
use Rattle.heap_lines.specs.declared.Cell.{Cell}
use Rattle.heap_lines.specs.declared.Cell.TheVariants.{Arena, Ledger, Head, Count, User, Allocated, Total, Order}
use Rattle.heap_lines.specs.declared.Command.{Command}
use Rattle.heap_lines.specs.declared.Command.TheVariants.{Make, Remake, Call as OnHeap, List as ListOf, Stats, Set}
use Rattle.grammar.specs.declared.BadLine.{BadLine}
use Rattle.heap_runs.specs.declared.Lent.{Lent}

-- what the program holds: the record with how much is lent, and every word of its arena and of its ledger
pub record Machine : Type 0 where
  pub lent : Lent
  pub arena : List ℕ
  pub ledger : List ℕ

abbrev pub machine : Lent → List ℕ → List ℕ → Machine
machine lent arena ledger = record { lent = lent; arena = arena; ledger = ledger }

-- "At first the record is zeros and nothing is lent."
abbrev pub nothing_lent : Lent
nothing_lent = record { heap = fresh_heap 0; words = 0; records = 0 }

-- "over an arena of 4,096 words and a ledger of 512 of its own"
pub record Fits (lent : Lent) (arena ledger : List ℕ) : Type 0 where
  pub arena_is : length arena ≡ 4096
  pub ledger_is : length ledger ≡ 512
  pub words_fit : lent.words ≤ 4096
  pub records_fit : lent.records ≤ 512

-- the heap over the words that are lent
abbrev pub lent_state : Machine → State
lent_state m = state m.lent.heap (take m.lent.words m.arena) (take m.lent.records m.ledger)

abbrev pub with_heap : Heap → Lent → Lent
with_heap h l = record { heap = h; words = l.words; records = l.records }

-- a heap over the first words of both; the words after them stay
abbrev pub lending : ℕ → ℕ → State → Machine → Machine
lending words records s m =
    machine (record { heap = s.heap; words = words; records = records }) (s.arena ++ drop words m.arena) (s.ledger ++ drop records m.ledger)

-- the same over what is lent
abbrev pub relent : State → Machine → Machine
relent s m = lending m.lent.words m.lent.records s m

-- ---- making

-- "more than 4,096 or 512 is a bad line"
abbrev pub too_many : ℕ → ℕ → Bool
too_many words records = ltb 4096 words || ltb 512 records

-- "makes a heap over the first WORDS words of the arena, zeroed, and the first LEDGER words of the ledger"
abbrev pub made : ℕ → ℕ → ℕ → Machine → Outcome
made order words records m = making order (replicate words 0) (take records m.ledger)

-- "Refused, the record becomes zeros, and everything else stays, what was lent before too."
abbrev pub after_making : ℕ → ℕ → Outcome → Machine → Machine
after_making words records o m = cond (eqb o.number 0) (lending words records o.state m) (machine (with_heap o.state.heap m.lent) m.arena m.ledger)

-- "makes the heap again over what is lent; the arena is not touched"
abbrev pub remade : ℕ → Machine → Outcome
remade order m = making order (take m.lent.words m.arena) (take m.lent.records m.ledger)

-- ---- calls: "`add_to_heap`, `init`, `alloc`, `dealloc`, zero fill"
abbrev pub call_of : Call → heap.Call
call_of (Add s e) = heap.AddToHeap s e
call_of (Init s n) = heap.Init s n
call_of (Alloc size align) = heap.Alloc size align
call_of (Free a size align) = heap.Dealloc a size align
call_of (Zero a size align) = heap.ZeroFill a size align

-- ---- "puts a lent word of the arena, of the ledger, or a head, past every rule; outside it is a bad line"; "puts a field of the record"
abbrev pub inside : Cell → Lent → Bool
inside (Arena i) l = ltb i l.words
inside (Ledger i) l = ltb i l.records
inside (Head k) l = ltb k 33
inside Count l = true
inside User l = true
inside Allocated l = true
inside Total l = true
inside Order l = true

abbrev pub heap_with : Cell → ℕ → Heap → Heap
heap_with (Arena i) v h = h
heap_with (Ledger i) v h = h
heap_with (Head k) v h = record { order = h.order; heads = set h.heads k v; count = h.count; user = h.user; allocated = h.allocated; total = h.total }
heap_with Count v h = record { order = h.order; heads = h.heads; count = v; user = h.user; allocated = h.allocated; total = h.total }
heap_with User v h = record { order = h.order; heads = h.heads; count = h.count; user = v; allocated = h.allocated; total = h.total }
heap_with Allocated v h = record { order = h.order; heads = h.heads; count = h.count; user = h.user; allocated = v; total = h.total }
heap_with Total v h = record { order = h.order; heads = h.heads; count = h.count; user = h.user; allocated = h.allocated; total = v }
heap_with Order v h = record { order = v; heads = h.heads; count = h.count; user = h.user; allocated = h.allocated; total = h.total }

abbrev pub arena_with : Cell → ℕ → List ℕ → List ℕ
arena_with (Arena i) v arena = set arena i v
arena_with (Ledger i) v arena = arena
arena_with (Head k) v arena = arena
arena_with Count v arena = arena
arena_with User v arena = arena
arena_with Allocated v arena = arena
arena_with Total v arena = arena
arena_with Order v arena = arena

abbrev pub ledger_with : Cell → ℕ → List ℕ → List ℕ
ledger_with (Arena i) v ledger = ledger
ledger_with (Ledger i) v ledger = set ledger i v
ledger_with (Head k) v ledger = ledger
ledger_with Count v ledger = ledger
ledger_with User v ledger = ledger
ledger_with Allocated v ledger = ledger
ledger_with Total v ledger = ledger
ledger_with Order v ledger = ledger

abbrev pub with_cell : Cell → ℕ → Machine → Machine
with_cell cell v m = machine (with_heap (heap_with cell v m.lent.heap) m.lent) (arena_with cell v m.arena) (ledger_with cell v m.ledger)

-- ---- all that a command leaves
unfoldable pub after : Result Command BadLine → Machine → Machine
after (Ok (Make order words records)) m = cond (too_many words records) m (after_making words records (made order words records m) m)
after (Ok (Remake order)) m = relent (remade order m).state m
after (Ok (OnHeap call)) m = relent (heap.outcome (call_of call) (lent_state m)).state m
after (Ok (ListOf class)) m = m
after (Ok Stats) m = m
after (Ok (Set cell value)) m = cond (inside cell m.lent) (with_cell cell value m) m
after (Err e) m = m
