-- Replies held to what was decided: a refused call's, and a done one's. Assumes nothing.
use mathlib.Core.Path.{◌≡◌, refl}
use mathlib.Core.List.{List}
use Prim.Native.Nat.{ℕ}
use Rattle.std.specs.Prelude.{Ok}
use Rattle.answers.specs.declared.Refusal.{Refusal}
use Rattle.heap_state.specs.declared.Heap.{Heap}
use Rattle.heap_state.specs.declared.Reply.{Reply}
use Rattle.heap_state.specs.State.{State, state, Says}
use Rattle.answers.specs.Judging.{refused, done}
use Rattle.heap_core.specs.Deciding.{Decision, carried}
use Rattle.heap_core.specs.Parts.{refused_with}

pub says-refused : (h : Heap) (arena ledger : List ℕ) (r : Refusal) (reply : Reply) (d : Decision) → d ≡ refused r → reply ≡ refused_with h r
    → Says (carried (state h arena ledger) d) reply arena ledger
says-refused h arena ledger r reply d e f = rw (e, f) (record { number_is = refl; value_is = refl; state_is = refl })

pub says-done : (before after : State) (h : Heap) (arena ledger : List ℕ) (value : ℕ) (d : Decision) → d ≡ done value after → state h arena ledger ≡ after
    → Says (carried before d) (record { answer = Ok value; heap = h }) arena ledger
says-done before after h arena ledger value d e f = rw e (record { number_is = refl; value_is = refl; state_is = f })
