-- The parts of the soundness test, as the code goes over the words; heap_sound/proofs/Together.antt proves that they come to `soundb`.
use Rattle.std.specs.Prelude.{Bool, true, ◌&&◌, ◌||◌, List, [], ◌∷◌, map, ℕ, suc, ◌+◌, ◌-◌, ◌*◌, ◌%◌, ◌^◌, leb, ltb, eqb, length, drop}
use Rattle.linked_list.specs.Links.{nodes}
use Rattle.ledger.specs.Ledger.{grant_of, class_of, address_of, recordb, recordsb}
use Rattle.heap_blocks.specs.Sound.{Block, blk, block_of, headsb, reaches, listsb, free_from, placedb}

-- one block is "aligned, above address 0, inside the arena"
unfoldable pub blockb : ℕ → ℕ → ℕ → Bool
blockb bytes k a = eqb (a % 2 ^ k) 0 && ltb 0 a && leb (a + 2 ^ k) bytes

-- ---- the free blocks

abbrev pub list_blocks : ℕ → ℕ → List ℕ → ℕ → List Block
list_blocks k most arena a = map (blk k) (nodes most arena a)

-- a list of class k reaches 0 after so many nodes, and they are blocks in their place
unfoldable pub listb : ℕ → ℕ → ℕ → List ℕ → ℕ → Bool
listb bytes k fewer arena a = reaches fewer arena a && placedb bytes (list_blocks k (suc fewer) arena a)

-- a class's list: a class that may have none has none
unfoldable pub classb : ℕ → ℕ → List ℕ → ℕ → Bool
classb order k arena head = ((leb 3 k && ltb k order) || eqb head 0) && listb (length arena * 8) k (length arena - 1) arena head

abbrev pub free_up : ℕ → List ℕ → List ℕ → List Block
free_up k heads arena = free_from (33 - k) k (record { heads = heads; arena = arena })

-- the lists of class k and up
unfoldable pub freeb : ℕ → ℕ → List ℕ → List ℕ → Bool
freeb order k heads arena = headsb order k (drop k heads) && listsb arena (drop k heads) && placedb (length arena * 8) (free_up k heads arena)

-- ---- the granted blocks

abbrev pub blocks_of : List ℕ → List Block
blocks_of ws = map block_of (map grant_of ws)

-- each block starts where the one before it ends, or after
unfoldable pub endsb : ℕ → List ℕ → Bool
endsb floor [] = true
endsb floor (w ∷ ws) = leb floor (address_of w) && endsb (address_of w + 2 ^ class_of w) ws

-- a record after one whose block ends at `floor`
unfoldable pub nextb : ℕ → ℕ → ℕ → ℕ → Bool
nextb order bytes floor w = recordb order w && leb floor (address_of w) && blockb bytes (class_of w) (address_of w)

unfoldable pub grantedb : ℕ → ℕ → ℕ → List ℕ → Bool
grantedb order bytes floor ws = recordsb order ws && endsb floor ws && placedb bytes (blocks_of ws)
