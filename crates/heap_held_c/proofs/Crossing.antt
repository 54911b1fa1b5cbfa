-- What is promised to C of a call on a heap admits one answer, one record and one list of words each. Assumes nothing.
use mathlib.Core.Path.{◌≡◌, sym, ap, ◌∙◌}
use mathlib.Core.List.{List}
use Prim.Native.Nat.{ℕ}
use Rattle.heap_state.specs.declared.Heap.{Heap}
use Rattle.heap_state.specs.State.{State, Outcome}
use Rattle.heap_held_c.specs.Crossed.{Crossed}

-- one answer, one record, one list of words each
pub one-crossing : {o : Outcome} {n m v u : ℕ} {h g : Heap} {arena other ledger another : List ℕ} → Crossed o n v h arena ledger → Crossed o m u g other another
    → (n ≡ m) × (v ≡ u) × (h ≡ g) × (arena ≡ other) × (ledger ≡ another)
one-crossing a b =
    let e = a.state_is ∙ sym b.state_is in
    (a.number_is ∙ sym b.number_is, a.value_is ∙ sym b.value_is, ap (λ (s : State). s.heap) e, ap (λ (s : State). s.arena) e, ap (λ (s : State). s.ledger) e)
