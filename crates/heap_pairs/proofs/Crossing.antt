-- Blocks compared in pairs, at the loops' numbers. Assumes nothing.
use mathlib.Core.Path.{◌≡◌, refl, sym, ap, ◌∙◌}
use mathlib.Core.Bool.{Bool, true, ◌&&◌, ◌||◌, and_assoc, or-false}
use mathlib.Core.List.{List, [], ◌∷◌, ◌++◌, append_assoc}
use Prim.Native.Nat.{ℕ, suc, ◌+◌, ◌-◌, ◌≤◌, ◌<◌}
use native.Mathlib.Omega.{arith}
use lib.Dec.{leb}
use lib.ListN.{length, get_or}
use borrow.Author.Tests.{leb-true, le-leb, lt-leb}
use Rattle.words.proofs.Tests.{same}
use Rattle.linked_list.specs.Links.{next}
use Rattle.linked_list.proofs.Steps.{nodes-none}
use Rattle.ledger.specs.Ledger.{class_of, address_of}
use Rattle.heap_blocks.specs.Sound.{Block, blk, apart, apart_from, disjointb}
use Rattle.heap_blocks.specs.Parts.{list_blocks, free_up, blocks_of}
use Rattle.heap_pairs.specs.Pairs.{crossb}
use Rattle.heap_blocks.proofs.Walks.{blocks_end, blocks_step}
use Rattle.heap_blocks.proofs.Classes.{up_step}
use Rattle.heap_blocks.proofs.Asking.{every}

-- ---- two blocks, by differences

pub apart_below : (a size b other : ℕ) → 0 < other → a ≤ b → leb size (b - a) ≡ leb (a + size) b || leb (b + other) a
apart_below a size b other some h =
    rw (lt-leb (b + other) a (omega arith), or-false (leb (a + size) b))
    (same _ _ (λ e. le-leb (a + size) b (omega (arith, leb-true size (b - a) e))) (λ e. le-leb size (b - a) (omega (arith, leb-true (a + size) b e))))

pub apart_above : (a size b other : ℕ) → b < a → leb other (a - b) ≡ leb (a + size) b || leb (b + other) a
apart_above a size b other h =
    rw (lt-leb (a + size) b (omega arith))
    (same _ _ (λ e. le-leb (b + other) a (omega (arith, leb-true other (a - b) e))) (λ e. le-leb other (a - b) (omega (arith, leb-true (b + other) a e))))

-- ---- a block and those after it

pub from-append : (b : Block) (xs ys : List Block) → apart_from b (xs ++ ys) ≡ apart_from b xs && apart_from b ys
from-append b [] ys = refl
from-append b (x ∷ xs) ys =
    ap (λ (t : Bool). apart b x && t) (from-append b xs ys) ∙ sym (and_assoc (apart b x) (apart_from b xs) (apart_from b ys))

module _ (b : Block) (k left : ℕ) (arena : List ℕ) (node : ℕ) where
  pub from_end : node ≡ 0 → apart_from b (list_blocks k left arena node) ≡ true
  from_end e = ap (apart_from b) (blocks_end k left arena node e)

  pub from_out : left ≡ 0 → apart_from b (list_blocks k left arena node) ≡ true
  from_out e = rw (nodes-none left arena node (omega arith))

  pub from_step : (less : ℕ) → left ≡ suc less → (node ≡ 0 → ⊥) → apart_from b (list_blocks k left arena node) ≡ apart b (blk k node) && apart_from b (list_blocks k less arena (next arena node))
  from_step less e q = ap (apart_from b) (blocks_step k left less arena node e q)

pub from-records : (b : Block) (ws : List ℕ) → apart_from b (blocks_of ws) ≡ every (λ w. apart b (blk (class_of w) (address_of w))) ws
from-records b [] = refl
from-records b (w ∷ ws) = ap (λ (t : Bool). apart b (blk (class_of w) (address_of w)) && t) (from-records b ws)

module _ (b : Block) (heads arena : List ℕ) where
  pub lists-step : (k : ℕ) → k < 33 → apart_from b (free_up k heads arena) ≡ apart_from b (list_blocks k (length arena) arena (get_or heads k 0)) && apart_from b (free_up (k + 1) heads arena)
  lists-step k h = ap (apart_from b) (up_step 0 heads arena k h) ∙ from-append b (list_blocks k (length arena) arena (get_or heads k 0)) (free_up (k + 1) heads arena)

  pub lists-end : (k : ℕ) → 33 ≤ k → apart_from b (free_up k heads arena) ≡ true
  lists-end k h = let e : 33 - k ≡ 0 = omega arith in rw e

-- ---- each block and those after it

pub cross-append : (xs ys later : List Block) → crossb (xs ++ ys) later ≡ crossb xs (ys ++ later) && crossb ys later
unfolding crossb
cross-append [] ys later = refl
cross-append (x ∷ xs) ys later =
    ap (λ (zs : List Block). apart_from x zs && crossb (xs ++ ys) later) (append_assoc xs ys later)
    ∙ ap (λ (t : Bool). apart_from x (xs ++ (ys ++ later)) && t) (cross-append xs ys later)
    ∙ sym (and_assoc (apart_from x (xs ++ (ys ++ later))) (crossb xs (ys ++ later)) (crossb ys later))

-- all pairs: those that a first block is in, and those of the second list
pub disjoint-append : (xs ys : List Block) → disjointb (xs ++ ys) ≡ crossb xs ys && disjointb ys
unfolding crossb
disjoint-append [] ys = refl
disjoint-append (x ∷ xs) ys =
    ap (λ (t : Bool). apart_from x (xs ++ ys) && t) (disjoint-append xs ys) ∙ sym (and_assoc (apart_from x (xs ++ ys)) (crossb xs ys) (disjointb ys))

module _ (k left : ℕ) (arena : List ℕ) (node : ℕ) (later : List Block) where
  pub cross-end : node ≡ 0 → crossb (list_blocks k left arena node) later ≡ true
  unfolding crossb
  cross-end e = rw (blocks_end k left arena node e)

  pub cross-out : left ≡ 0 → crossb (list_blocks k left arena node) later ≡ true
  unfolding crossb
  cross-out e = rw (nodes-none left arena node (omega arith))

  pub cross-step : (less : ℕ) → left ≡ suc less → (node ≡ 0 → ⊥) →
      crossb (list_blocks k left arena node) later ≡ apart_from (blk k node) (list_blocks k less arena (next arena node) ++ later) && crossb (list_blocks k less arena (next arena node)) later
  unfolding crossb
  cross-step less e q = rw (blocks_step k left less arena node e q)

module _ (heads arena : List ℕ) (later : List Block) where
  pub classes-step : (k : ℕ) → k < 33 →
      crossb (free_up k heads arena) later ≡ crossb (list_blocks k (length arena) arena (get_or heads k 0)) (free_up (k + 1) heads arena ++ later) && crossb (free_up (k + 1) heads arena) later
  classes-step k h =
      ap (λ (bs : List Block). crossb bs later) (up_step 0 heads arena k h)
      ∙ cross-append (list_blocks k (length arena) arena (get_or heads k 0)) (free_up (k + 1) heads arena) later

  pub classes-end : (k : ℕ) → 33 ≤ k → crossb (free_up k heads arena) later ≡ true
  unfolding crossb
  classes-end k h = let e : 33 - k ≡ 0 = omega arith in rw e

-- a block apart from three lists one after the other
pub from-three : (b : Block) (xs ys zs : List Block) → apart_from b (xs ++ (ys ++ zs)) ≡ apart_from b xs && (apart_from b ys && apart_from b zs)
from-three b xs ys zs = from-append b xs (ys ++ zs) ∙ ap (λ (t : Bool). apart_from b xs && t) (from-append b ys zs)
