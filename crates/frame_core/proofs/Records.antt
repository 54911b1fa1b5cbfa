-- The records that a pass has still before it. Assumes nothing.
use Rattle.std.proofs.Common.{◌≡◌, ℕ, ◌+◌, ◌<◌, List, ◌∷◌, map, drop, length, get_or, refl, add-one, drop-cons}
use Rattle.table.specs.Layout.{block_of}

-- the blocks of the records from place i on begin with that of record i
pub from_step : (i : ℕ) (ws : List ℕ) → i < length ws → map block_of (drop i ws) ≡ block_of (get_or ws i 0) ∷ map block_of (drop (i + 1) ws)
from_step i ws h = rw (add-one, drop-cons ws i 0) refl
