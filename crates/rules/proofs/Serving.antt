-- The block that serves a grant, found in one pass over the list with the best block so far in hand. Assumes nothing.
use mathlib.Core.Path.{◌≡◌, refl, sym, ap, ◌∙◌}
use mathlib.Core.Bool.{true, false, true≢false}
use mathlib.Core.List.{List, [], ◌∷◌}
use Prim.Native.Nat.{ℕ, zero, suc, ◌+◌, ◌≤◌, ◌<◌}
use native.Mathlib.Nat.{add-zero}
use native.Mathlib.Omega.{arith}
use lib.ListN.{length}
use borrow.Author.Tests.{eqb-true, eq-eqb, ne_eqb}
use Rattle.rules.specs.Rules.{Block, blk, class, granted, block_at, first_from, free_in, or_else, smallest}
use Rattle.std.specs.Prelude.{Option, Some, None}
use Rattle.rules.proofs.Best.{first-at}

pub or_else-assoc : (f g h : Option ℕ) → or_else (or_else f g) h ≡ or_else f (or_else g h)
or_else-assoc (Some i) g h = refl
or_else-assoc None g h = refl

-- a free block is one of its own class alone
pub other-class : (k j s : ℕ) → (j ≡ k → ⊥) → free_in k (blk false j s) ≡ false
other-class k j s h = rw (ne_eqb j k h) refl

-- the head is free, of the class m above the wanted one: it serves unless a later block of a lower class does
pub better : (n c m i s : ℕ) (bs : List Block) → m < n → smallest n c i (blk false (c + m) s ∷ bs) ≡ or_else (smallest m c (i + 1) bs) (Some i)
better zero c m i s bs h = absurd (omega arith)
better (suc n) c zero i s bs h = rw (add-zero, eq-eqb c c refl, first_from) refl
better (suc n) c (suc m) i s bs h =
    let e : c + suc m ≡ suc c + m = omega arith in
    rw (other-class c (c + suc m) s (λ q. omega arith), first_from, e)
    (ap (or_else (first_from (free_in c) (i + 1) bs)) (better n (suc c) m i s bs (omega arith))
    ∙ sym (or_else-assoc (first_from (free_in c) (i + 1) bs) (smallest m (suc c) (i + 1) bs) (Some i)))

-- the head is free in none of the n classes from c up
pub not-better : (n c i : ℕ) (b : Block) (bs : List Block) → ((k : ℕ) → c ≤ k → k < c + n → free_in k b ≡ false) → smallest n c i (b ∷ bs) ≡ smallest n c (i + 1) bs
not-better zero c i b bs h = refl
not-better (suc n) c i b bs h =
    rw (h c (omega arith) (omega arith), first_from)
    (ap (or_else (first_from (free_in c) (i + 1) bs)) (not-better n (suc c) i b bs (λ k l g. h k (omega arith) (omega arith))))

pub granted-not-better : (k j s : ℕ) → free_in k (blk true j s) ≡ false
granted-not-better k j s = refl

pub none_left : (n c i : ℕ) → smallest n c i [] ≡ None
none_left zero c i = refl
none_left (suc n) c i = none_left n (suc c) i

-- ---- what was found: a place of the list, with a free block that is large enough

pub record Serves (k i : ℕ) (bs : List Block) : Type 0 where
  pub here : i < length bs
  pub large : k ≤ class (block_at i bs)
  pub free : granted (block_at i bs) ≡ false

in-class : (k : ℕ) (b : Block) → free_in k b ≡ true → (class b ≡ k) × (granted b ≡ false)
in-class k (blk true j s) e = absurd (true≢false (sym e))
in-class k (blk false j s) e = (eqb-true j k e, refl)

pub serves : (n k i : ℕ) (bs : List Block) → smallest n k 0 bs ≡ Some i → Serves k i bs
serves zero k i bs e = let z : ◌≡◌ {A = ℕ} 0 1 = cc in absurd (omega arith)
serves (suc n) k i bs e = go (first_from (free_in k) 0 bs) refl (serves n (suc k) i bs)
  where
    go : (f : Option ℕ) → first_from (free_in k) 0 bs ≡ f → (smallest n (suc k) 0 bs ≡ Some i → Serves (suc k) i bs) → Serves k i bs
    go (Some j) q ih =
        let g : Some j ≡ Some i = rw q at e in
        let h : j ≡ i = cc in
        let w = first-at (free_in k) 0 j bs q in
        let a : w.n ≡ i = omega (arith, w.at) in
        let p : free_in k (block_at i bs) ≡ true = rw a at w.passes in
        let c = in-class k (block_at i bs) p in
        record { here = omega (arith, w.here); large = omega (arith, c.0); free = c.1 }
    go None q ih =
        let w = ih (rw q at e) in
        record { here = w.here; large = omega (arith, w.large); free = w.free }
