-- From what is decided on a sound heap to the outcome: the soundness test comes first. Assumes nothing.
use mathlib.Core.Path.{◌≡◌, refl}
use mathlib.Core.Bool.{true, false}
use mathlib.Core.List.{List}
use Prim.Native.Nat.{ℕ, ◌+◌, ◌*◌, ◌^◌, ◌≤◌, ◌<◌}
use native.Mathlib.Decide.{dec_le}
use native.Mathlib.Omega.{arith}
use lib.ListN.{length}
use Rattle.std.specs.Prelude.{Ok, Err}
use Rattle.answers.specs.declared.Refusal.TheVariants.{BadState, BadRange}
use Rattle.heap_state.specs.declared.Heap.{Heap}
use Rattle.heap_state.specs.declared.Reply.{Reply}
use Rattle.heap_blocks.specs.Sound.{soundb}
use Rattle.heap_state.specs.State.{state, Says}
use Rattle.heap_blocks.proofs.Facts.{sound-fact}
use Rattle.answers.specs.Judging.{refused, done}
use Rattle.heap_core.specs.Deciding.{carried}
use Rattle.heap_add.specs.Adding.{adding}
use Rattle.heap_add.proofs.Adding.{start_outside, end-outside}
use Rattle.heap.specs.Outcome.{Call, Init, decide, outcome}

module _ (h : Heap) (arena ledger : List ℕ) where
  -- a heap that is not sound
  pub unsound : (call : Call) → soundb h arena ledger ≡ false → Says (outcome call (state h arena ledger)) (record { answer = Err BadState; heap = h }) arena ledger
  unfolding outcome
  unsound call e = rw (e, outcome) (record { number_is = refl; value_is = refl; state_is = refl })

  module _ (call : Call) (sound : soundb h arena ledger ≡ true) where
    pub decided : {r : Reply} {a l : List ℕ} → Says (carried (state h arena ledger) (decide call (state h arena ledger))) r a l → Says (outcome call (state h arena ledger)) r a l
    unfolding outcome
    decided w = rw (sound, outcome) w

    pub figure : (v : ℕ) → decide call (state h arena ledger) ≡ done v (state h arena ledger)
        → Says (outcome call (state h arena ledger)) (record { answer = Ok v; heap = h }) arena ledger
    figure v e = decided (rw e (record { number_is = refl; value_is = refl; state_is = refl }))

  -- an end that is no number of 64 bits is above every arena
  pub past-64-bits : (start size : ℕ) → start < 2 ^ 64 → soundb h arena ledger ≡ true → 2 ^ 64 ≤ start + size
      → Says (outcome (Init start size) (state h arena ledger)) (record { answer = Err BadRange; heap = h }) arena ledger
  unfolding decide
  past-64-bits start size p sound out = decided (Init start size) sound (rw above (record { number_is = refl; value_is = refl; state_is = refl }))
    where
      above : adding start (start + size) (state h arena ledger) ≡ refused BadRange
      above =
          let r = (sound-fact h arena ledger sound).ranges in
          elim (dec_le start (length arena * 8)) [
            | yes l ↦ end-outside start (start + size) (state h arena ledger) l (omega (arith, r.arena-high))
            | no q ↦ start_outside start (start + size) (state h arena ledger) (omega arith)
          ]
