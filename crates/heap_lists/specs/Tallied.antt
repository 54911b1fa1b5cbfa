-- Forms of the promises of src/: what was found of free blocks.
use Rattle.std.specs.Prelude.{◌≡◌, Bool, if◌then◌else◌, Option, Some, None, List, ℕ, ◌-◌, ◌*◌, ◌≤◌, length}
use Rattle.heap_blocks.specs.Sound.{bytes_of}
use Rattle.heap_blocks.specs.Parts.{list_blocks, listb, classb}

-- ORDER, and the words of an arena, as the test of free blocks asks for them: the bytes of all are then a number of 64 bits
abbrev pub InRange : ℕ → List ℕ → Type 0
InRange order arena = (order ≤ 33) × (2 ≤ length arena) × (length arena ≤ 1048576)

-- what a test of free blocks answers: their bytes, if all is well
abbrev pub Tallied : Bool → ℕ → Option ℕ → Type 0
Tallied ok bytes r = r ≡ (if ok then Some bytes else None)

abbrev pub Walked : ℕ → ℕ → List ℕ → Option ℕ → Type 0
Walked k head arena r = Tallied (listb (length arena * 8) k (length arena - 1) arena head) (bytes_of (list_blocks k (length arena) arena head)) r

abbrev pub Classed : ℕ → ℕ → ℕ → List ℕ → Option ℕ → Type 0
Classed order k head arena r = Tallied (classb order k arena head) (bytes_of (list_blocks k (length arena) arena head)) r
