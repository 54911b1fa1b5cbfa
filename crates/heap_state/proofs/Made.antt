-- What making answers, by the test that decides it. Assumes nothing.
use mathlib.Core.Path.{◌≡◌, refl, ap}
use mathlib.Core.Bool.{true, false}
use mathlib.Core.List.{List}
use Prim.Native.Nat.{ℕ}
use lib.ListN.{length, replicate}
use Rattle.std.specs.Prelude.{Ok, Err}
use Rattle.answers.specs.declared.Refusal.TheVariants.{BadOrder, BadSize}
use Rattle.heap_state.specs.declared.Heap.{Heap}
use Rattle.heap_state.specs.State.{lengthsb, orderb, state, Says, fresh_heap, making}

module _ (order : ℕ) (arena ledger : List ℕ) (h : Heap) where
  pub not-order : orderb order ≡ false → h ≡ fresh_heap 0 → Says (making order arena ledger) (record { answer = Err BadOrder; heap = h }) arena ledger
  unfolding making
  not-order e f = rw e (record { number_is = refl; value_is = refl; state_is = ap (λ (g : Heap). state g arena ledger) f })

  pub not-lengths : orderb order ≡ true → lengthsb (length arena) (length ledger) ≡ false → h ≡ fresh_heap 0 →
      Says (making order arena ledger) (record { answer = Err BadSize; heap = h }) arena ledger
  unfolding making
  not-lengths e l f = rw (e, l) (record { number_is = refl; value_is = refl; state_is = ap (λ (g : Heap). state g arena ledger) f })

  pub made : (words : List ℕ) → orderb order ≡ true → lengthsb (length arena) (length ledger) ≡ true → h ≡ fresh_heap order → words ≡ replicate (length ledger) 0 →
      Says (making order arena ledger) (record { answer = Ok 0; heap = h }) arena words
  unfolding making
  made words e l f w = rw (e, l) (record { number_is = refl; value_is = refl; state_is = λ i. state (f i) arena (w i) })
