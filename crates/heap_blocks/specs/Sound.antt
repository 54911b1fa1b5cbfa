-- "A heap is sound if ..", from docs/RULES.md, "The heap over an arena", as a test that computes, in the order of that sentence.
use Rattle.std.specs.Prelude.{Bool, true, ◌&&◌, ◌||◌, List, [], ◌∷◌, ◌++◌, map, ℕ, zero, suc, ◌+◌, ◌-◌, ◌*◌, ◌%◌, ◌^◌, leb, ltb, eqb, length, take, drop}
use Rattle.linked_list.specs.Links.{next}
use Rattle.words.specs.Words.{zerosb}
use Rattle.ledger.specs.Ledger.{Grant, grant, requested, grants, recordsb, ascendingb}
use Rattle.heap_state.specs.declared.Heap.{Heap}
use Rattle.heap_state.specs.Lists.{Memory, list}
use Rattle.heap_state.specs.State.{State, lengthsb, orderb}

-- a block of bytes, free or granted: its class and its address
pub data Block : Type 0 where
  blk : ℕ → ℕ → Block

-- "lengths, ORDER and ledger count are in range"
unfoldable pub rangesb : Heap → List ℕ → List ℕ → Bool
rangesb h arena ledger = lengthsb (length arena) (length ledger) && orderb h.order && leb h.count (length ledger)

-- "heads below class 3 or from ORDER up are 0"; the list's head is that of class k
abbrev pub headsb : ℕ → ℕ → List ℕ → Bool
headsb order k [] = true
headsb order k (a ∷ rest) = ((leb 3 k && ltb k order) || eqb a 0) && headsb order (suc k) rest

-- "each list reaches 0 in fewer nodes than the arena has words": from a, 0 is reached after at most so many nodes
unfoldable pub reaches : ℕ → List ℕ → ℕ → Bool
reaches zero arena a = eqb a 0
reaches (suc most) arena a = eqb a 0 || reaches most arena (next arena a)

abbrev pub listsb : List ℕ → List ℕ → Bool
listsb arena [] = true
listsb arena (a ∷ rest) = reaches (length arena - 1) arena a && listsb arena rest

-- ---- the blocks

-- the free blocks: the nodes of each list, of class k and up
abbrev pub free_from : ℕ → ℕ → Memory → List Block
free_from zero k m = []
free_from (suc n) k m = map (blk k) (list k m) ++ free_from n (suc k) m

abbrev pub free_blocks : Heap → List ℕ → List Block
free_blocks h arena = free_from 33 0 (record { heads = h.heads; arena = arena })

abbrev pub block_of : Grant → Block
block_of (grant k n a) = blk k a

-- the granted blocks, as the ledger has them
abbrev pub granted_blocks : Heap → List ℕ → List Block
granted_blocks h ledger = map block_of (grants h.count ledger)

abbrev pub all_blocks : Heap → List ℕ → List ℕ → List Block
all_blocks h arena ledger = free_blocks h arena ++ granted_blocks h ledger

-- "free and granted blocks are aligned, above address 0, inside the arena"
abbrev pub placedb : ℕ → List Block → Bool
placedb bytes [] = true
placedb bytes (blk k a ∷ bs) = eqb (a % 2 ^ k) 0 && ltb 0 a && leb (a + 2 ^ k) bytes && placedb bytes bs

-- "and disjoint": no two of them have a byte in common
abbrev pub apart : Block → Block → Bool
apart (blk j a) (blk k b) = leb (a + 2 ^ j) b || leb (b + 2 ^ k) a

abbrev pub apart_from : Block → List Block → Bool
apart_from b [] = true
apart_from b (x ∷ xs) = apart b x && apart_from b xs

abbrev pub disjointb : List Block → Bool
disjointb [] = true
disjointb (b ∷ bs) = apart_from b bs && disjointb bs

-- ---- the counters

abbrev pub bytes_of : List Block → ℕ
bytes_of [] = 0
bytes_of (blk k a ∷ bs) = 2 ^ k + bytes_of bs

abbrev pub requests : List Grant → ℕ
requests [] = 0
requests (g ∷ gs) = requested g + requests gs

-- "user, allocated and total equal the sums of requested bytes, of granted blocks, and of granted and free blocks"
unfoldable pub countersb : Heap → List ℕ → List ℕ → Bool
countersb h arena ledger =
    eqb h.user (requests (grants h.count ledger)) && eqb h.allocated (bytes_of (granted_blocks h ledger)) && eqb h.total (bytes_of (all_blocks h arena ledger))

unfoldable pub soundb : Heap → List ℕ → List ℕ → Bool
soundb h arena ledger =
    rangesb h arena ledger && headsb h.order 0 h.heads && listsb arena h.heads
    && recordsb h.order (take h.count ledger) && ascendingb 0 (take h.count ledger) && zerosb (drop h.count ledger)
    && placedb (length arena * 8) (all_blocks h arena ledger) && disjointb (all_blocks h arena ledger) && countersb h arena ledger

abbrev pub is_sound : State → Bool
is_sound s = soundb s.heap s.arena s.ledger
