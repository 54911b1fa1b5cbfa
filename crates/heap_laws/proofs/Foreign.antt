-- Another program's store into a granted block leaves the heap sound, with the same lists. Assumes nothing.
use mathlib.Core.Path.{◌≡◌, refl, sym, ap, ◌∙◌}
use mathlib.Core.Bool.{Bool, true, false}
use mathlib.Core.List.{List, ◌∷◌, Memᴰ}
use Prim.Native.Nat.{ℕ}
use borrow.Author.Tests.{eq-eqb}
use Rattle.ledger.specs.Ledger.{Grant, grant, some, same}
use Rattle.heap_state.specs.State.{State}
use Rattle.heap_core.specs.Deciding.{granted}
use Rattle.heap_laws.specs.Claims.{Healthy, Word, stored, Undisturbed}
use Rattle.heap_laws.proofs.Sounds.{lists-is}
use Rattle.heap_laws.proofs.Keeping.{kept-ledger}
use Rattle.heap_laws.proofs.ReleaseCalls.{word-stored}

some-here : (p : Grant → Bool) (g : Grant) (gs : List Grant) → p g ≡ true → some p (g ∷ gs) ≡ true
some-here p g gs e = rw (e, some)

some-later : (p : Grant → Bool) (g : Grant) (gs : List Grant) → some p gs ≡ true → some p (g ∷ gs) ≡ true
some-later p g gs e = go (p g) refl
  where
    go : (t : Bool) → p g ≡ t → some p (g ∷ gs) ≡ true
    go true h = rw (h, some)
    go false h = rw (h, some) e

same-itself : (k n a : ℕ) → same k n a (grant k n a) ≡ true
same-itself k n a = rw (eq-eqb k k refl, eq-eqb n n refl, eq-eqb a a refl)

member-found : (k n a : ℕ) {gs : List Grant} → Memᴰ (grant k n a) gs → some (same k n a) gs ≡ true
member-found k n a (Memᴰ.head {x} {xs} e) = some-here (same k n a) x xs (ap (same k n a) (sym e) ∙ same-itself k n a)
member-found k n a (Memᴰ.tail {x} {xs} m) = some-later (same k n a) x xs (member-found k n a m)

pub foreign-store : (st : State) → Healthy st → (k n a w v : ℕ) → Memᴰ (grant k n a) (granted st) → Word w k a → Undisturbed st (stored w v st)
foreign-store st h k n a w v granted-it inside =
    let g = word-stored st h k n a (member-found k n a granted-it) w v inside in
    record { lists_are = lists-is g; healthy = kept-ledger st h g }
