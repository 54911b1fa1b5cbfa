-- Lengths and ORDER in range, as numbers, and back. Assumes nothing.
use mathlib.Core.Path.{◌≡◌}
use mathlib.Core.Bool.{true}
use Prim.Native.Nat.{ℕ, ◌≤◌}
use borrow.Author.Tests.{leb-true, le-leb}
use Rattle.words.proofs.Tests.{both}
use Rattle.heap_state.specs.State.{lengthsb, orderb}

pub record Lengths (arena ledger : ℕ) : Type 0 where
  pub arena-low : 2 ≤ arena
  pub arena-high : arena ≤ 1048576
  pub ledger-low : 1 ≤ ledger
  pub ledger-high : ledger ≤ 65535

pub lengths-fact : (arena ledger : ℕ) → lengthsb arena ledger ≡ true → Lengths arena ledger
lengths-fact arena ledger e =
    let l3 = both _ _ e in
    let l2 = both _ _ l3.0 in
    let l1 = both _ _ l2.0 in
    record {
      arena-low = leb-true 2 arena l1.0;
      arena-high = leb-true arena 1048576 l1.1;
      ledger-low = leb-true 1 ledger l2.1;
      ledger-high = leb-true ledger 65535 l3.1;
    }

pub lengths-true : (arena ledger : ℕ) → Lengths arena ledger → lengthsb arena ledger ≡ true
lengths-true arena ledger l =
    rw (le-leb 2 arena l.arena-low, le-leb arena 1048576 l.arena-high, le-leb 1 ledger l.ledger-low, le-leb ledger 65535 l.ledger-high)

pub order-fact : (order : ℕ) → orderb order ≡ true → (4 ≤ order) × (order ≤ 33)
order-fact order e = let o = both _ _ e in (leb-true 4 order o.0, leb-true order 33 o.1)

pub order-true : (order : ℕ) → 4 ≤ order → order ≤ 33 → orderb order ≡ true
order-true order low high = rw (le-leb 4 order low, le-leb order 33 high)
