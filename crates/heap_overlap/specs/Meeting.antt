-- What it is for a range to have a byte of a block, from docs/RULES.md, "Refusal numbers", 6 OVERLAP.
use Rattle.std.specs.Prelude.{Bool, false, ◌&&◌, ◌||◌, List, [], ◌∷◌, ℕ, ◌+◌, ◌^◌, ltb}
use Rattle.heap_blocks.specs.Sound.{Block, blk}

-- a part of [s, e) is free or granted already
abbrev pub meets : ℕ → ℕ → List Block → Bool
meets s e [] = false
meets s e (blk k a ∷ bs) = (ltb s e && ltb a e && ltb s (a + 2 ^ k)) || meets s e bs

-- a block of `size` bytes at the address has a byte in [start, end), which is not empty
abbrev pub meets_block : ℕ → ℕ → ℕ → ℕ → Bool
meets_block address size start end = ltb address end && ltb start (address + size)
