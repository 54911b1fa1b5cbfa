-- The cases of docs/RULES.md, "Case table", as a list, and what it is for one to hold of the definitions.
use Rattle.std.specs.Prelude.{◌≡◌, true, false, List, [], ◌∷◌, map, ℕ, ◌+◌, ◌-◌, ◌^◌, length, take, replicate}
use Rattle.rules.specs.Rules.{Block, blk}
use Rattle.table.specs.Layout.{blocks_of}
use Rattle.frame_core.specs.Carried.{Reply}
use Rattle.frame.specs.Outcome.{Call, Add, Alloc, AllocAt, Dealloc, outcome, making}
use Rattle.heap.specs.Outcome as heap
use Rattle.heap_state.specs.State as state
use Rattle.heap_blocks.specs.Sound as blocks

-- ---- what the paper says

-- of the table after a call: all its records, as blocks, or its first words
pub data Claim : Type 0 where
  Records : List Block → Claim
  Words : List ℕ → Claim

-- a call, its number and value, and what is said of the table afterwards, if anything
pub record Step : Type 0 where
  pub call : Call
  pub reply : Reply
  pub leaves : List Claim

-- a call on a heap, its number and value, and the free blocks afterwards, list after list, if anything is said of them
pub record HeapStep : Type 0 where
  pub call : heap.Call
  pub number : ℕ
  pub value : ℕ
  pub free : List (List blocks.Block)

-- calls one after the other on a table that was just made, of an ORDER and a number of words, or on a heap that was just made, of an ORDER, over an
-- arena of so many words, all zero, and a ledger of so many
pub data Run : Type 0 where
  frames : ℕ → ℕ → List Step → Run
  heaps : ℕ → ℕ → ℕ → List HeapStep → Run

-- a line of the case table: its number, and its runs, each from a table made anew
pub record Case : Type 0 where
  pub number : ℕ
  pub runs : List Run

-- ---- what it is to hold

-- a number and a value
abbrev pub replied : ℕ → ℕ → Reply
replied number value = record { number = number; values = value ∷ [] }

-- what the words say where the paper makes a claim
abbrev pub found : List ℕ → Claim → Claim
found ws (Records bs) = Records (blocks_of ws)
found ws (Words front) = Words (take (length front) ws)

-- the same calls with what the definitions say in the place of what the paper says, each on the words that the one before left
abbrev pub heard : List Step → List ℕ → List Step
heard [] ws = []
heard (s ∷ ss) ws =
    record { call = s.call; reply = (outcome s.call ws).reply; leaves = map (found (outcome s.call ws).words) s.leaves }
    ∷ heard ss (outcome s.call ws).words

abbrev pub heard_heap : List HeapStep → state.State → List HeapStep
heard_heap [] st = []
heard_heap (s ∷ ss) st =
    record {
      call = s.call;
      number = (heap.outcome s.call st).number;
      value = (heap.outcome s.call st).value;
      free = map (λ claim. blocks.free_blocks (heap.outcome s.call st).state.heap (heap.outcome s.call st).state.arena) s.free;
    }
    ∷ heard_heap ss (heap.outcome s.call st).state

-- whatever words are lent, making is accepted, and the definitions say what the paper says
abbrev pub Holds : Run → Type 0
Holds (frames order n steps) = (lent : List ℕ) → length lent ≡ n → ((making order lent).reply ≡ replied 0 0) × (heard steps (making order lent).words ≡ steps)
Holds (heaps order n m steps) = (ledger : List ℕ) → length ledger ≡ m
    → ((state.making order (replicate n 0) ledger).number ≡ 0) × (heard_heap steps (state.making order (replicate n 0) ledger).state ≡ steps)

-- each entry of a list has a property
abbrev pub Every : {A : Type 0} → (A → Type 0) → List A → Type 0
Every p [] = Unit {0}
Every p (x ∷ xs) = p x × Every p xs

-- a case holds if all its runs do
abbrev pub CaseHolds : Case → Type 0
CaseHolds c = Every Holds c.runs

-- ---- the list

-- a call of which the paper gives the answer and no more, and one of which it gives the table afterwards
abbrev pub says : Call → ℕ → ℕ → Step
says c number value = record { call = c; reply = replied number value; leaves = [] }

abbrev pub leaving : Call → ℕ → ℕ → List Claim → Step
leaving c number value claims = record { call = c; reply = replied number value; leaves = claims }

abbrev pub free : ℕ → ℕ → Block
free start class = blk false class start

abbrev pub held : ℕ → ℕ → Block
held start class = blk true class start

-- "ORDER 33 and a table of 4,096 words, unless said"
abbrev pub long : List Step → Run
long steps = frames 33 4096 steps

abbrev pub line : ℕ → List Run → Case
line number runs = record { number = number; runs = runs }

-- the one call of case 2, from which 3 and 4 go on
abbrev pub case2 : Step
case2 =
    leaving (Add 0 3) 0 0
    (Records (free 0 1 ∷ free 2 0 ∷ []) ∷ Words (0x8400_0800_0000_0000 ∷ 0x0200_0000_0000_0000 ∷ 0x0000_0000_0000_0002 ∷ []) ∷ [])

-- the grant of case 8, where it fits: the paper names the two free blocks, and the run that was granted stands between them
abbrev pub case8 : Step
case8 = leaving (AllocAt 2 2) 0 2 (Records (free 0 1 ∷ held 2 1 ∷ free 4 2 ∷ []) ∷ [])

-- the heap's calls, of which the paper gives the answer and no more, or the free blocks afterwards as well
abbrev pub heap_says : heap.Call → ℕ → ℕ → HeapStep
heap_says c number value = record { call = c; number = number; value = value; free = [] }

abbrev pub heap_leaves : heap.Call → ℕ → ℕ → List blocks.Block → HeapStep
heap_leaves c number value bs = record { call = c; number = number; value = value; free = bs ∷ [] }

abbrev pub case_table : List Case
case_table =
    -- "1. add [0,0): no records."
    line 1 (long (leaving (Add 0 0) 0 0 (Records [] ∷ []) ∷ []) ∷ [])
    -- "2. add [0,3): start 0 class 1, start 2 class 0. Words 8400080000000000, 0200000000000000, 0000000000000002 (hex)."
    ∷ line 2 (long (case2 ∷ []) ∷ [])
    -- "3. After 2: alloc 1 = 2, then alloc 2 = 0."
    ∷ line 3 (long (case2 ∷ says (Alloc 1) 0 2 ∷ says (Alloc 2) 0 0 ∷ []) ∷ [])
    -- "4. After 2: alloc 0 = 2."
    ∷ line 4 (long (case2 ∷ says (Alloc 0) 0 2 ∷ []) ∷ [])
    -- "5. add [1,8): 1 class 0, 2 class 1, 4 class 2."
    ∷ line 5 (long (leaving (Add 1 8) 0 0 (Records (free 1 0 ∷ free 2 1 ∷ free 4 2 ∷ []) ∷ []) ∷ []) ∷ [])
    -- "6. ORDER 2, add [0,8): 0, 2, 4, 6 in class 1; alloc 3: refusal 9."
    ∷ line 6
    (frames 2 4096 (leaving (Add 0 8) 0 0 (Records (free 0 1 ∷ free 2 1 ∷ free 4 1 ∷ free 6 1 ∷ []) ∷ []) ∷ says (Alloc 3) 9 0 ∷ []) ∷ [])
    -- "7. add [0,1), [1,2): alloc 2 refused 9; alloc 1 = 0; release (0,1); alloc 2 = 0."
    ∷ line 7
    (long (says (Add 0 1) 0 0 ∷ says (Add 1 2) 0 0 ∷ says (Alloc 2) 9 0 ∷ says (Alloc 1) 0 0 ∷ says (Dealloc 0 1) 0 0 ∷ says (Alloc 2) 0 0 ∷ []) ∷ [])
    -- "8. add [0,8), alloc_at(2,2) = 2: free 0 class 1, free 4 class 2. With 4 words it fits; with 3: refusal 11."
    ∷ line 8
    (long (says (Add 0 8) 0 0 ∷ case8 ∷ []) ∷ frames 33 4 (says (Add 0 8) 0 0 ∷ case8 ∷ [])
    ∷ frames 33 3 (says (Add 0 8) 0 0 ∷ says (AllocAt 2 2) 11 0 ∷ []) ∷ [])
    -- "9. After add [0,8): alloc_at(1,2): 8; alloc_at(1, 2^33): 9."
    ∷ line 9
    (long (says (Add 0 8) 0 0 ∷ says (AllocAt 1 2) 8 0 ∷ []) ∷ long (says (Add 0 8) 0 0 ∷ says (AllocAt 1 (2 ^ 33)) 9 0 ∷ []) ∷ [])
    -- "10. Grant of 4 at 0: release (0,2): 10; then release (0,3): accepted." Granted by either call
    ∷ line 10
    (long (says (Add 0 4) 0 0 ∷ says (Alloc 4) 0 0 ∷ says (Dealloc 0 2) 10 0 ∷ says (Dealloc 0 3) 0 0 ∷ [])
    ∷ long (says (Add 0 4) 0 0 ∷ says (AllocAt 0 4) 0 0 ∷ says (Dealloc 0 2) 10 0 ∷ says (Dealloc 0 3) 0 0 ∷ []) ∷ [])
    -- "11. add [2^32-1, 2^32) accepted; end 2^32+1: 4; add [5,4): 4." On one table, where the second range overlaps too, and each by itself
    ∷ line 11
    (long (says (Add (2 ^ 32 - 1) (2 ^ 32)) 0 0 ∷ says (Add (2 ^ 32 - 1) (2 ^ 32 + 1)) 4 0 ∷ says (Add 5 4) 4 0 ∷ [])
    ∷ long (says (Add (2 ^ 32 - 1) (2 ^ 32 + 1)) 4 0 ∷ []) ∷ long (says (Add 5 4) 4 0 ∷ []) ∷ [])
    -- "12. Heap ORDER 4, 8 words, add 8..64: seven blocks; alloc(8,8) = 56."
    ∷ line 12
    (heaps 4 8 8
    (heap_leaves (heap.AddToHeap 8 64) 0 0 (blocks.blk 3 56 ∷ blocks.blk 3 48 ∷ blocks.blk 3 40 ∷ blocks.blk 3 32 ∷ blocks.blk 3 24 ∷ blocks.blk 3 16 ∷ blocks.blk 3 8 ∷ [])
    ∷ heap_says (heap.Alloc 8 8) 0 56 ∷ [])
    ∷ [])
    -- "13. Heap ORDER 7, 8 words, add 8..64: 8, 16, 32 in classes 3, 4, 5. alloc(8,8) = 8, alloc(1,1) = 16; releasing 16 compares 3 nodes."
    ∷ line 13
    (heaps 7 8 8
    (heap_leaves (heap.AddToHeap 8 64) 0 0 (blocks.blk 3 8 ∷ blocks.blk 4 16 ∷ blocks.blk 5 32 ∷ []) ∷ heap_says (heap.Alloc 8 8) 0 8 ∷ heap_says (heap.Alloc 1 1) 0 16
    ∷ heap_says (heap.Dealloc 16 1 1) 0 3 ∷ [])
    ∷ [])
    ∷ []
