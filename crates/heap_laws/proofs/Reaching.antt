-- Every heap that was made and used is sound. Assumes nothing.
use Rattle.heap_state.specs.State.{State}
use Rattle.heap_laws.specs.Claims.{Healthy, Reached, made, called, written}
use Rattle.heap_laws.proofs.Whole.{stays-sound}
use Rattle.heap_laws.proofs.Foreign.{foreign-store}
use Rattle.heap_laws.proofs.Made.{made-sound}

pub reached-sound : {st : State} → Reached st → Healthy st
reached-sound (made order arena ledger e) = made-sound order arena ledger e
reached-sound (called call {st} r) = stays-sound call st (reached-sound r)
reached-sound (written k n a w v {st} r held inside) = (foreign-store st (reached-sound r) k n a w v held inside).healthy
