-- A range held against the free blocks, list by list, at the numbers as the code has them. Assumes nothing.
use mathlib.Core.Path.{◌≡◌, refl, sym, ap, ◌∙◌}
use mathlib.Core.Bool.{Bool, true, false, ◌&&◌, ◌||◌}
use mathlib.Core.List.{List, [], ◌∷◌, ◌++◌, map}
use Prim.Native.Nat.{ℕ, suc, ◌+◌, ◌-◌, ◌^◌, ◌≤◌, ◌<◌}
use native.Mathlib.Omega.{arith}
use lib.Dec.{ltb}
use borrow.Author.Tests.{lt-ltb, le-ltb, ltb-true}
use Rattle.words.proofs.Tests.{same}
use Rattle.ledger.specs.Ledger.{class_of, address_of, grant_of}
use Rattle.heap_state.specs.Lists.{Memory, list}
use Rattle.heap_blocks.specs.Sound.{Block, blk, block_of, free_from}
use Rattle.heap_blocks.proofs.Asking.{some}
use Rattle.heap_overlap.specs.Meeting.{meets, meets_block}

-- ---- one block

module _ (address size start end : ℕ) where
  pub above-misses : end ≤ address → false ≡ meets_block address size start end
  above-misses h = rw (le-ltb address end h)

  pub below-meets : address < end → address ≤ start → ltb (start - address) size ≡ meets_block address size start end
  below-meets h l =
      rw (lt-ltb address end h)
      (same (ltb (start - address) size) (ltb start (address + size)) (λ e. lt-ltb start (address + size) (omega (arith, ltb-true (start - address) size e)))
      (λ e. lt-ltb (start - address) size (omega (arith, ltb-true start (address + size) e))))

  pub inside-meets : address < end → start < address → true ≡ meets_block address size start end
  inside-meets h l = rw (lt-ltb address end h, lt-ltb start (address + size) (omega arith))

-- ---- blocks one by one

module _ (start end : ℕ) (some-bytes : start < end) where
  pub meets-nodes : (k : ℕ) (xs : List ℕ) → meets start end (map (blk k) xs) ≡ some (λ x. meets_block x (2 ^ k) start end) xs
  meets-nodes k [] = refl
  meets-nodes k (x ∷ xs) = rw (lt-ltb start end some-bytes, meets-nodes k xs) refl

  pub meets-records : (ws : List ℕ) → meets start end (map block_of (map grant_of ws)) ≡ some (λ w. meets_block (address_of w) (2 ^ class_of w) start end) ws
  meets-records [] = refl
  meets-records (w ∷ ws) = rw (lt-ltb start end some-bytes, meets-records ws) refl

-- ---- all lists

pub meets-append : (s e : ℕ) (xs ys : List Block) → meets s e (xs ++ ys) ≡ meets s e xs || meets s e ys
meets-append s e [] ys = refl
meets-append s e (blk k a ∷ xs) ys = go (ltb s e && ltb a e && ltb s (a + 2 ^ k)) (meets-append s e xs ys)
  where
    go : (t : Bool) → meets s e (xs ++ ys) ≡ meets s e xs || meets s e ys → t || meets s e (xs ++ ys) ≡ t || meets s e xs || meets s e ys
    go true h = refl
    go false h = h

module _ (s e k : ℕ) (m : Memory) where
  abbrev from : ℕ → Bool
  from j = meets s e (free_from (33 - j) j m)

  pub free-none : 33 ≤ k → false ≡ from k
  free-none h = let z : 33 - k ≡ 0 = omega arith in rw z

  class-step : k < 33 → from k ≡ meets s e (map (blk k) (list k m)) || from (k + 1)
  class-step h =
      let z : 33 - k ≡ suc (33 - (k + 1)) = omega arith in
      let one : k + 1 ≡ suc k = omega arith in
      ap (λ (n : ℕ). meets s e (free_from n k m)) z ∙ meets-append s e (map (blk k) (list k m)) _
      ∙ ap (λ (j : ℕ). meets s e (map (blk k) (list k m)) || meets s e (free_from (33 - (k + 1)) j m)) (sym one)

  pub free-hit : (t : Bool) → k < 33 → t ≡ meets s e (map (blk k) (list k m)) → t ≡ true → true ≡ from k
  free-hit t h told e = sym (class-step h ∙ rw (← told, e))

  pub free-miss : (t : Bool) → k < 33 → t ≡ meets s e (map (blk k) (list k m)) → t ≡ false → from (k + 1) ≡ from k
  free-miss t h told e = sym (class-step h ∙ rw (← told, e))
