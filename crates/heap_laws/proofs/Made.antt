-- A heap that was just made is sound. Assumes nothing.
use mathlib.Core.Path.{◌≡◌, refl}
use mathlib.Core.Bool.{Bool, true, false}
use mathlib.Core.List.{List, []}
use Prim.Native.Nat.{ℕ, zero, suc, ◌≤◌}
use native.Mathlib.Omega.{arith}
use lib.ListN.{length, get_or, replicate, length-replicate}
use borrow.Author.Tests.{le-leb}
use Rattle.words.specs.Words.{zerosb}
use Rattle.linked_list.specs.Chains.{Chain}
use Rattle.heap_state.specs.State.{lengthsb, orderb, State, state, fresh_heap, made_if, making}
use Rattle.heap_blocks.specs.Sound.{rangesb}
use Rattle.heap_blocks.proofs.Facts.{Ranges, ranges-fact}
use Rattle.heap_core.specs.Deciding.{memory}
use Rattle.heap_laws.specs.ListRules.{of_class}
use Rattle.heap_laws.specs.Claims.{Healthy}
use Rattle.heap_laws.proofs.Placing as placing
use Rattle.heap_laws.proofs.Managing.{Managed}
use Rattle.heap_laws.proofs.Sounds.{sounds}

-- each of n like things, and what is read after them
all_alike : {A : Type 0} (n j : ℕ) (x : A) → get_or (replicate n x) j x ≡ x
all_alike zero j x = refl
all_alike (suc n) zero x = refl
all_alike (suc n) (suc j) x = all_alike n j x

zeros : (n : ℕ) → zerosb (replicate n 0) ≡ true
zeros zero = refl
zeros (suc n) = zeros n

module _ (order : ℕ) (arena ledger : List ℕ) where
  abbrev fresh : State
  fresh = state (fresh_heap order) arena (replicate (length ledger) 0)

  fresh-chain : (j : ℕ) → Chain arena (get_or (replicate 33 0) j 0) (of_class j (replicate 33 []))
  unfolding Chain
  fresh-chain j = let none : List ℕ = [] in rw (all_alike 33 j none) (all_alike 33 j 0)

  fresh-managed : 2 ≤ length arena → order ≤ 33 → Managed order (length arena) 0 (memory fresh) (replicate 33 []) []
  fresh-managed low high = record {
    some = omega arith;
    classes = high;
    lists-33 = refl;
    heads_33 = refl;
    words = refl;
    chains = fresh-chain;
    placed = placing.none;
    bytes = refl;
  }

  fresh-sound : orderb order ≡ true → lengthsb (length arena) (length ledger) ≡ true → Healthy fresh
  unfolding rangesb
  fresh-sound o l =
      let e : length {A = ℕ} (replicate (length ledger) 0) ≡ length ledger = length-replicate (length ledger) 0 in
      let r : Ranges (fresh_heap order) arena (replicate (length ledger) 0) =
      ranges-fact (fresh_heap order) arena (replicate (length ledger) 0) (rw (e, l, o) (le-leb 0 (length ledger) (omega arith))) in
      record { heads_33 = refl; sound = sounds fresh (fresh-managed r.arena-low r.order-high) r refl refl (zeros (length ledger)) refl refl }

  pub made-sound : (making order arena ledger).number ≡ 0 → Healthy (making order arena ledger).state
  unfolding making
  made-sound e = go (orderb order) refl (lengthsb (length arena) (length ledger)) refl e
    where
      go : (t : Bool) → orderb order ≡ t → (u : Bool) → lengthsb (length arena) (length ledger) ≡ u → (made_if t u order arena ledger).number ≡ 0 →
          Healthy (made_if t u order arena ledger).state
      go true o true l q = fresh-sound o l
      go true o false l q = absurd (omega arith)
      go false o u l q = absurd (omega arith)
