-- Forms of the promises of src/: what was found of ledger records.
use Rattle.std.specs.Prelude.{◌≡◌, Bool, if◌then◌else◌, Option, Some, None, List, map, ℕ}
use Rattle.ledger.specs.Ledger.{grant_of}
use Rattle.heap_blocks.specs.Sound.{bytes_of, requests}
use Rattle.heap_blocks.specs.Parts.{blocks_of}
use Rattle.heap_records.specs.declared.Sums.{Sums}

-- what a test of ledger records answers: the sums of requested bytes and of block sizes, if all is well
abbrev pub Summed : Bool → List ℕ → Option Sums → Type 0
Summed ok ws r = r ≡ (if ok then Some (record { user = requests (map grant_of ws); allocated = bytes_of (blocks_of ws) }) else None)
