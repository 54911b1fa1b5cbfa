-- Blocks compared in pairs, "and disjoint" of docs/RULES.md, "The heap over an arena", as the code goes over them; heap_sound/proofs/Together.antt
-- proves that this, with the order of the ledger, comes to `disjointb`.
use Rattle.std.specs.Prelude.{Bool, true, ◌&&◌, List, [], ◌∷◌, ◌++◌, ℕ, ◌+◌}
use Rattle.heap_blocks.specs.Sound.{Block, apart_from}
use Rattle.heap_blocks.specs.Parts.{free_up, blocks_of}

-- the blocks after those of class k, where the ledger's records are these
abbrev pub later_blocks : ℕ → List ℕ → List ℕ → List ℕ → List Block
later_blocks k heads arena ws = free_up (k + 1) heads arena ++ blocks_of ws

-- each block of the first list is apart from all that come after it
unfoldable pub crossb : List Block → List Block → Bool
crossb [] later = true
crossb (b ∷ bs) later = apart_from b (bs ++ later) && crossb bs later
