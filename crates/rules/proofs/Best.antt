-- What a look-up finds: the first block that passes, and of the blocks that serve a grant the best. Assumes nothing.
use mathlib.Core.Path.{◌≡◌, refl, sym, ap, ◌∙◌}
use mathlib.Core.Bool.{Bool, true, false, true≢false}
use mathlib.Core.List.Memᴰ
use mathlib.Core.List.{List, [], ◌∷◌}
use Prim.Native.Nat.{ℕ, zero, suc, ◌+◌, ◌-◌, ◌^◌, ◌≤◌, ◌<◌}
use native.Mathlib.Omega.{arith}
use lib.Dec.{eqb}
use lib.ListN.{length}
use borrow.Author.Tests.{eqb-true, eqb-false, eq-eqb}
use Rattle.rules.specs.Rules.{Block, blk, class, start, Sound, next, block_at, first_from, free_in, smallest, serving}
use Rattle.std.specs.Prelude.{Option, Some, None}
use Rattle.rules.specs.Managed.{◌∈◌, Free, Best}
use Rattle.rules.proofs.Members.{is_block, at_place, member-low}

pub somewhere : {i : ℕ} → Some i ≡ None → ⊥
somewhere e = let z : ◌≡◌ {A = ℕ} 0 1 = cc in omega arith

-- ---- the first free block of a class has the lowest start

record FirstFree (k o i : ℕ) (bs : List Block) : Type 0 where
  n : ℕ
  at : i ≡ o + n
  here : n < length bs
  start : ℕ
  is : block_at n bs ≡ blk false k start
  lowest : (t : ℕ) → Free bs k t → start ≤ t

first-free : {top f : ℕ} (k o i : ℕ) (bs : List Block) → Sound top f bs → first_from (free_in k) o bs ≡ Some i → FirstFree k o i bs
first-free k o i [] r e = absurd (somewhere (sym e))
first-free {f = f} k o i (blk g j s ∷ bs) (next l h a w r) e = go (free_in k (blk g j s)) refl (first-free {f = s + 2 ^ j} k (o + 1) i bs r)
  where
    here : (g : Bool) → free_in k (blk g j s) ≡ true → blk g j s ≡ blk false k s
    here true q = absurd (true≢false (sym q))
    here false q = let p : j ≡ k = eqb-true j k q in cc

    go : (x : Bool) → free_in k (blk g j s) ≡ x → (first_from (free_in k) (o + 1) bs ≡ Some i → FirstFree k (o + 1) i bs) → FirstFree k o i (blk g j s ∷ bs)
    go true q ih =
        let c : Some o ≡ Some i = rw (q, first_from) at e in
        let p : o ≡ i = cc in
        record { n = 0; at = omega arith; here = omega arith; start = s; is = here g q; lowest = low }
      where
        low : (t : ℕ) → Free (blk g j s ∷ bs) k t → s ≤ t
        low t (Memᴰ.head d) = omega (arith, (is_block d).start)
        low t (Memᴰ.tail m) = omega (arith, member-low r m)
    go false q ih =
        let v = ih (rw (q, first_from) at e) in
        record { n = suc v.n; at = omega (arith, v.at); here = omega (arith, v.here); start = v.start; is = v.is; lowest = low v }
      where
        low : (v : FirstFree k (o + 1) i bs) (t : ℕ) → Free (blk g j s ∷ bs) k t → v.start ≤ t
        low v t (Memᴰ.head d) = absurd (true≢false (sym (eq-eqb k k refl) ∙ ap (free_in k) d ∙ q))
        low v t (Memᴰ.tail m) = v.lowest t m

-- ---- the first block that passes a test, and that none does where none is found

pub record FirstAt (p : Block → Bool) (o i : ℕ) (bs : List Block) : Type 0 where
  pub n : ℕ
  pub at : i ≡ o + n
  pub here : n < length bs
  pub passes : p (block_at n bs) ≡ true

pub first-at : (p : Block → Bool) (o i : ℕ) (bs : List Block) → first_from p o bs ≡ Some i → FirstAt p o i bs
first-at p o i [] e = let z : ◌≡◌ {A = ℕ} 0 1 = cc in absurd (omega arith)
first-at p o i (b ∷ bs) e = go (p b) refl (first-at p (o + 1) i bs)
  where
    go : (x : Bool) → p b ≡ x → (first_from p (o + 1) bs ≡ Some i → FirstAt p (o + 1) i bs) → FirstAt p o i (b ∷ bs)
    go true q ih =
        let g : Some o ≡ Some i = rw (q, first_from) at e in
        let h : o ≡ i = cc in
        record { n = 0; at = omega arith; here = omega arith; passes = q }
    go false q ih =
        let w = ih (rw (q, first_from) at e) in
        record { n = suc w.n; at = omega (arith, w.at); here = omega (arith, w.here); passes = w.passes }

pub not_first : (p : Block → Bool) (i : ℕ) (bs : List Block) {b : Block} → first_from p i bs ≡ None → b ∈ bs → p b ≡ false
not_first p i [] e m = absurd (Memᴰ.not-nil m)
not_first p i (x ∷ bs) {b} e m = go (p x) refl m (λ f n. not_first p (i + 1) bs f n)
  where
    go : (t : Bool) → p x ≡ t → b ∈ (x ∷ bs) → (first_from p (i + 1) bs ≡ None → b ∈ bs → p b ≡ false) → p b ≡ false
    go true q m ih = absurd (somewhere (rw (q, first_from) at e))
    go false q (Memᴰ.head h) ih = rw h q
    go false q (Memᴰ.tail n) ih = ih (rw (q, first_from) at e) n

-- where no free block of class k is found, one of that class or a higher one is of a higher one
pub higher : (k i : ℕ) (bs : List Block) {j t : ℕ} → first_from (free_in k) i bs ≡ None → Free bs j t → k ≤ j → k < j
higher k i bs {j} {t} e m l = side (eqb j k) refl
  where
    side : (b : Bool) → eqb j k ≡ b → k < j
    side true d = absurd (true≢false (sym d ∙ not_first (free_in k) i bs e m))
    side false d = omega (arith, eqb-false j k d)

-- ---- the block that serves

-- "The smallest class holding a free block that suffices; in it the lowest start"
pub serving-best : {top : ℕ} (c i : ℕ) (bs : List Block) → Sound top 0 bs → serving top c bs ≡ Some i → Best bs c (class (block_at i bs)) (start (block_at i bs))
unfolding serving
serving-best {top} c i bs r e = best (suc top - c) c e
  where
    best : (n k : ℕ) → smallest n k 0 bs ≡ Some i → Best bs k (class (block_at i bs)) (start (block_at i bs))
    best zero k e = absurd (somewhere (sym e))
    best (suc n) k e = go (first_from (free_in k) 0 bs) refl (best n (suc k))
      where
        found : FirstFree k 0 i bs → Best bs k (class (block_at i bs)) (start (block_at i bs))
        found v =
            let p : v.n ≡ i = omega (arith, v.at) in
            let q : block_at i bs ≡ blk false k v.start = rw p at v.is in
            let h : i < length bs = omega (arith, v.here) in
            rw q (record { free = rw q at (at_place i bs h); enough = omega arith; smallest = λ j t m l. l; lowest = v.lowest })

        go : (f : Option ℕ) → first_from (free_in k) 0 bs ≡ f → (smallest n (suc k) 0 bs ≡ Some i → Best bs (suc k) (class (block_at i bs)) (start (block_at i bs)))
            → Best bs k (class (block_at i bs)) (start (block_at i bs))
        go (Some j) q ih = let z : Some j ≡ Some i = rw q at e in let y : j ≡ i = cc in found (first-free k 0 i bs r (rw y at q))
        go None q ih =
            let w = ih (rw q at e) in
            record { free = w.free; enough = omega (arith, w.enough); smallest = λ j t m l. w.smallest j t m (higher k 0 bs q m l); lowest = w.lowest }
