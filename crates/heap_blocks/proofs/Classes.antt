-- The lists of free blocks, class by class, at the loop's numbers. Assumes nothing.
use mathlib.Core.Path.{◌≡◌, ap, ◌∙◌}
use mathlib.Core.Bool.{Bool, true, false, ◌&&◌, ◌||◌, and_assoc, or-true}
use mathlib.Core.List.{List, ◌∷◌, ◌++◌}
use Prim.Native.Nat.{ℕ, suc, ◌+◌, ◌*◌, ◌-◌, ◌≤◌, ◌<◌}
use native.Mathlib.Numerals.{add-one}
use native.Mathlib.Omega.{arith}
use lib.Dec.{leb, ltb, eqb}
use lib.ListN.{length, get_or, drop, drop_of_length-le}
use lib.Seq.{drop-cons}
use borrow.Author.Tests.{lt-leb, le-leb, le-ltb, lt-ltb, eq-eqb, ne_eqb}
use Rattle.words.proofs.Tests.{and-false, and-swap}
use Rattle.heap_blocks.specs.Sound.{headsb, reaches, listsb, placedb, bytes_of}
use Rattle.heap_blocks.specs.Parts.{list_blocks, listb, classb, free_up, freeb}
use Rattle.heap_blocks.proofs.Heads.{placed-append}
use Rattle.heap_blocks.proofs.Counters.{bytes-append, free_bytes}
use Rattle.heap_blocks.proofs.Walks.{list-end}

-- ---- one class

module _ (order k : ℕ) (arena : List ℕ) (head : ℕ) where
  pub class-empty : head ≡ 0 → classb order k arena head ≡ true
  unfolding classb
  class-empty e = rw (list-end (length arena * 8) k (length arena - 1) arena head e, eq-eqb head 0 e, or-true (leb 3 k && ltb k order))

  pub class_low : (head ≡ 0 → ⊥) → k < 3 → classb order k arena head ≡ false
  unfolding classb
  class_low q h = rw (ne_eqb head 0 q, lt-leb 3 k h)

  pub class-high : (head ≡ 0 → ⊥) → order ≤ k → classb order k arena head ≡ false
  unfolding classb
  class-high q h = rw (ne_eqb head 0 q, le-ltb k order h, and-false (leb 3 k))

  pub class-own : 3 ≤ k → k < order → classb order k arena head ≡ listb (length arena * 8) k (length arena - 1) arena head
  unfolding classb
  class-own low high = rw (le-leb 3 k low, lt-ltb k order high)

-- ---- all classes from k up

regroup : (c h r l p q : Bool) → ((c && h) && (r && l)) && (p && q) ≡ (c && (r && p)) && ((h && l) && q)
regroup c h r l p q =
    ap (λ (t : Bool). t && (p && q)) (and-swap c h r l) ∙ and-swap (c && r) (h && l) p q ∙ ap (λ (t : Bool). t && ((h && l) && q)) (and_assoc c r p)

module _ (order : ℕ) (heads arena : List ℕ) where
  pub up_step : (k : ℕ) → k < 33 → free_up k heads arena ≡ list_blocks k (length arena) arena (get_or heads k 0) ++ free_up (k + 1) heads arena
  up_step k h =
      let e : 33 - k ≡ suc (33 - (k + 1)) = omega arith in
      rw (e, add-one k)

  pub free_step : (k : ℕ) → k < 33 → length heads ≡ 33 → 1 ≤ length arena →
      freeb order k heads arena ≡ classb order k arena (get_or heads k 0) && freeb order (k + 1) heads arena
  unfolding freeb classb listb
  free_step k h l n =
      let a = get_or heads k 0 in
      let bytes = length arena * 8 in
      let d : drop k heads ≡ a ∷ drop (k + 1) heads = rw (add-one k) (drop-cons heads k 0 (omega arith)) in
      let e : suc (length arena - 1) ≡ length arena = omega arith in
      rw (d, up_step k h, placed-append bytes (list_blocks k (length arena) arena a) (free_up (k + 1) heads arena), e, add-one k)
      (regroup ((leb 3 k && ltb k order) || eqb a 0) (headsb order (suc k) (drop (suc k) heads))
      (reaches (length arena - 1) arena a) (listsb arena (drop (suc k) heads))
      (placedb bytes (list_blocks k (length arena) arena a)) (placedb bytes (free_up (suc k) heads arena)))

  pub free-end : (k : ℕ) → 33 ≤ k → length heads ≡ 33 → freeb order k heads arena ≡ true
  unfolding freeb
  free-end k h l =
      let e : 33 - k ≡ 0 = omega arith in
      rw (e, drop_of_length-le heads {i = k} (omega arith))

  pub sum_step : (k : ℕ) → k < 33 → bytes_of (free_up k heads arena) ≡ bytes_of (list_blocks k (length arena) arena (get_or heads k 0)) + bytes_of (free_up (k + 1) heads arena)
  sum_step k h = ap bytes_of (up_step k h) ∙ bytes-append (list_blocks k (length arena) arena (get_or heads k 0)) (free_up (k + 1) heads arena)

  pub sum-end : (k : ℕ) → 33 ≤ k → bytes_of (free_up k heads arena) ≡ 0
  sum-end k h = let e : 33 - k ≡ 0 = omega arith in rw e

  pub sum-small : length arena ≤ 1048576 → bytes_of (free_up 0 heads arena) ≤ 148618787703226368
  sum-small h = omega (arith, free_bytes 33 0 (record { heads = heads; arena = arena }) (omega arith))
