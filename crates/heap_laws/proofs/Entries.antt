-- A grant put into the ledger or struck out of it: the others stay, in their order. Assumes nothing.
use mathlib.Core.Path.{◌≡◌, refl, ap, ◌∙◌}
use mathlib.Core.Bool.{Bool, true, false}
use mathlib.Core.List.{List, [], ◌∷◌, map}
use Prim.Native.Nat.{ℕ}
use native.Mathlib.Omega.{arith}
use lib.Pow.{pow_pos}
use lib.Dec.{eqb, ltb}
use borrow.Author.Tests.{ne_eqb}
use Rattle.ledger.specs.Ledger as ledger
use Rattle.ledger.specs.Ledger.{Grant, grant, enter, strike, some}
use Rattle.ledger.specs.Kept.{stands_at}
use Rattle.ledger.proofs.Grants.{Fine, Records, none, next}
use Rattle.ledger.proofs.Searching.{same-fact}
use Rattle.heap_blocks.specs.Sound.{Block, blk, block_of, requests}
use Rattle.heap_laws.proofs.Shuffles.{◌~◌, same, keep, swap, then}
use Rattle.heap_laws.proofs.Placing as placing
use Rattle.heap_laws.proofs.Placing.{Apart, under, over, Beside, Placed}

abbrev pub blocks_of : List Grant → List Block
blocks_of gs = map block_of gs

pub same-requests : {gs hs : List Grant} → gs ~ hs → requests gs ≡ requests hs
same-requests same = refl
same-requests (keep (grant k n a) r) = omega (arith, same-requests r)
same-requests (swap (grant k n a) (grant j m b)) = omega arith
same-requests (then r s) = same-requests r ∙ same-requests s

-- ---- entering

module _ (k n a : ℕ) where
  pub entered : (gs : List Grant) → (grant k n a ∷ gs) ~ enter (grant k n a) gs
  entered [] = same
  entered (grant j m b ∷ gs) = go (ltb a b) refl (entered gs)
    where
      go : (t : Bool) → ltb a b ≡ t → (grant k n a ∷ gs) ~ enter (grant k n a) gs → (grant k n a ∷ grant j m b ∷ gs) ~ enter (grant k n a) (grant j m b ∷ gs)
      go true e rest = rw (e, enter) same
      go false e rest = rw (e, enter) (then (swap (grant k n a) (grant j m b)) (keep (grant j m b) rest))

-- a block beside the granted ones stands at an address of its own
pub beside-fresh : (k a : ℕ) (gs : List Grant) → Beside (blk k a) (blocks_of gs) → some (stands_at a) gs ≡ false
beside-fresh k a [] b = refl
beside-fresh k a (grant j m c ∷ gs) (placing.next h b) =
    let q : eqb c a ≡ false = ne_eqb c a (other h) in
    rw (q, some) (beside-fresh k a gs b)
  where
    other : Apart (blk k a) (blk j c) → c ≡ a → ⊥
    other (under l) e = omega (arith, pow_pos k)
    other (over l) e = omega (arith, pow_pos j)

-- ---- striking

module _ (k n a : ℕ) where
  abbrev test : Grant → Bool
  test g = ledger.same k n a g

  is-it : (j m b : ℕ) → test (grant j m b) ≡ true → grant j m b ≡ grant k n a
  is-it j m b e = let q = same-fact k n a j m b e in λ i. grant (q.0 i) (q.1 i) (q.2 i)

  -- no block is beside itself
  not-beside : Apart (blk k a) (blk k a) → ⊥
  not-beside (under h) = omega (arith, pow_pos k)
  not-beside (over h) = omega (arith, pow_pos k)

  struck-none : (gs : List Grant) → Beside (blk k a) (blocks_of gs) → strike test gs ≡ gs
  struck-none [] b = refl
  struck-none (grant j m c ∷ gs) (placing.next h b) = go (test (grant j m c)) refl (struck-none gs b)
    where
      go : (t : Bool) → test (grant j m c) ≡ t → strike test gs ≡ gs → strike test (grant j m c ∷ gs) ≡ grant j m c ∷ gs
      go true e ih = absurd (not-beside (rw (ap block_of (is-it j m c e)) at h))
      go false e ih = rw (e, strike) (ap {B = List Grant} (λ l. grant j m c ∷ l) ih)

  -- of grants whose blocks are apart, one is struck out
  pub struck : {order bytes : ℕ} (gs : List Grant) → some test gs ≡ true → Placed order bytes (blocks_of gs) → gs ~ (grant k n a ∷ strike test gs)
  struck [] e p = absurd (let z : ◌≡◌ {A = ℕ} 0 1 = cc in omega arith)
  struck (grant j m c ∷ gs) e (placing.next f b p) = go (test (grant j m c)) refl (λ found. struck gs found p)
    where
      go : (t : Bool) → test (grant j m c) ≡ t → (some test gs ≡ true → gs ~ (grant k n a ∷ strike test gs)) →
          (grant j m c ∷ gs) ~ (grant k n a ∷ strike test (grant j m c ∷ gs))
      go true h ih =
          let q : grant j m c ≡ grant k n a = is-it j m c h in
          let b' : Beside (blk k a) (blocks_of gs) = rw (ap block_of q) at b in
          rw (h, strike, struck-none gs b', q) same
      go false h ih = rw (h, strike) (then (keep (grant j m c) (ih (rw (h, some) at e))) (swap (grant j m c) (grant k n a)))

  pub fine_of : {order floor : ℕ} {gs : List Grant} → Records order floor gs → some test gs ≡ true → Fine order k n
  fine_of none e = absurd (let z : ◌≡◌ {A = ℕ} 0 1 = cc in omega arith)
  fine_of {order} (next {k = j} {n = m} {a = c} {gs} l s f rest) e = go (test (grant j m c)) refl (λ found. fine_of rest found)
    where
      go : (t : Bool) → test (grant j m c) ≡ t → (some test gs ≡ true → Fine order k n) → Fine order k n
      go true q ih = let w = same-fact k n a j m c q in rw (← w.0, ← w.1) f
      go false q ih = ih (rw (q, some) at e)
