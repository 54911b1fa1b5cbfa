-- The free blocks of all lists: one more or one less, and words that are no node's. Assumes nothing.
use mathlib.Core.Path.{◌≡◌}
use mathlib.Core.List.{List, [], ◌∷◌, ◌++◌, map}
use Prim.Native.Nat.{ℕ, zero, suc, ◌+◌, ◌*◌, ◌/◌, ◌^◌, ◌≤◌, ◌<◌}
use native.Mathlib.Omega.{arith}
use lib.Pow.{pow_mono}
use lib.ListN.{length, set}
use Rattle.blocks.proofs.Powers.{multiple-le}
use Rattle.linked_list.specs.Chains.{Away, Within}
use Rattle.heap_blocks.specs.Sound.{Block, blk}
use Rattle.heap_laws.specs.ListRules.{of_class}
use Rattle.heap_laws.specs.Claims.{Word}
use Rattle.heap_laws.proofs.Shuffles.{◌~◌, same, keep, swap, then, bring, before}
use Rattle.heap_laws.proofs.Placing.{Fits, Apart, under, over, Beside, Placed, none, next, beside-front, beside-rest, placed-front, placed-rest}

-- the blocks of the lists, of class i and up
abbrev pub free_of : ℕ → List (List ℕ) → List Block
free_of i [] = []
free_of i (l ∷ ls) = map (blk i) l ++ free_of (suc i) ls

-- ---- a node in the middle of a list is a block beside the others

map-middle : (k a : ℕ) (us zs : List ℕ) (rest : List Block) → (map (blk k) (us ++ a ∷ zs) ++ rest) ~ (blk k a ∷ (map (blk k) (us ++ zs) ++ rest))
map-middle k a [] zs rest = same
map-middle k a (u ∷ us) zs rest = then (keep (blk k u) (map-middle k a us zs rest)) (swap (blk k u) (blk k a))

pub free-middle : (i k c a : ℕ) (us zs : List ℕ) (ls : List (List ℕ)) → i + k ≡ c → k < length ls →
    free_of i (set ls k (us ++ a ∷ zs)) ~ (blk c a ∷ free_of i (set ls k (us ++ zs)))
free-middle i k c a us zs [] e h = absurd (omega arith)
free-middle i zero c a us zs (l ∷ ls) e h =
    let d : c ≡ i = omega arith in
    rw d (map-middle i a us zs (free_of (suc i) ls))
free-middle i (suc k) c a us zs (l ∷ ls) e h =
    then (before (map (blk i) l) (free-middle (suc i) k c a us zs ls (omega arith) (omega arith)))
    (bring (blk c a) (map (blk i) l) (free_of (suc i) (set ls k (us ++ zs))))

-- ---- the blocks of one class

-- what holds of the front and of the rest of any list of blocks of which it holds, holds of the blocks of one class
module _ (P : List Block → Type 0) (at_none : P []) (front : (xs ys : List Block) → P (xs ++ ys) → P xs) (rest : (xs ys : List Block) → P (xs ++ ys) → P ys) where
  one_class : (i j : ℕ) (ls : List (List ℕ)) → P (free_of i ls) → P (map (blk (i + j)) (of_class j ls))
  one_class i j [] p = at_none
  one_class i zero (l ∷ ls) p =
      let e : i + 0 ≡ i = omega arith in
      rw e (front (map (blk i) l) (free_of (suc i) ls) p)
  one_class i (suc j) (l ∷ ls) p =
      let e : i + suc j ≡ suc i + j = omega arith in
      rw e (one_class (suc i) j ls (rest (map (blk i) l) (free_of (suc i) ls) p))

beside-class : {b : Block} (j : ℕ) (ls : List (List ℕ)) → Beside b (free_of 0 ls) → Beside b (map (blk (0 + j)) (of_class j ls))
beside-class {b} j ls p = one_class (Beside b) none beside-front beside-rest 0 j ls p

placed-class : {order bytes : ℕ} (j : ℕ) (ls : List (List ℕ)) → Placed order bytes (free_of 0 ls) → Placed order bytes (map (blk (0 + j)) (of_class j ls))
placed-class {order} {bytes} j ls p = one_class (Placed order bytes) none placed-front placed-rest 0 j ls p

-- ---- words

-- a block's first word is its own
pub first_word : {order bytes k a : ℕ} → Fits order bytes k a → Word (a / 8) k a
first_word {k} {a} f =
    let p : 2 ^ 3 ≤ 2 ^ k = pow_mono f.low in
    let m = multiple-le 3 k a f.low f.aligned in
    record { from = omega arith; to = omega arith }

other_word : {order bytes k a i x w : ℕ} → Word w k a → Fits order bytes i x → Apart (blk k a) (blk i x) → x / 8 ≡ w → ⊥
other_word {i} h f (under g) e = omega (arith, h.to)
other_word {i} h f (over g) e = let p : 2 ^ 3 ≤ 2 ^ i = pow_mono f.low in omega (arith, h.from)

away-nodes : {order bytes w k a : ℕ} (i : ℕ) (xs : List ℕ) → Word w k a → Beside (blk k a) (map (blk i) xs) → Placed order bytes (map (blk i) xs) → Away w xs
unfolding Away
away-nodes i [] h b p = tt
away-nodes i (x ∷ xs) h (next g b) (next f c p) = (other_word h f g, away-nodes i xs h b p)

-- a word of a block beside the free ones is the word of no node
pub away-class : {order bytes w k a : ℕ} (j : ℕ) (ls : List (List ℕ)) → Word w k a → Beside (blk k a) (free_of 0 ls) → Placed order bytes (free_of 0 ls) →
    Away w (of_class j ls)
away-class j ls h b p = away-nodes (0 + j) (of_class j ls) h (beside-class j ls b) (placed-class j ls p)

-- the nodes lie in the arena, and none in its first word
nodes-within : {order : ℕ} (n i : ℕ) (xs : List ℕ) → Placed order (n * 8) (map (blk i) xs) → Within n xs × Away 0 xs
unfolding Away Within
nodes-within n i [] p = (tt, tt)
nodes-within n i (x ∷ xs) (next f c p) =
    let l : 2 ^ 3 ≤ 2 ^ i = pow_mono f.low in
    let m = multiple-le 3 i x f.low f.aligned in
    let rest = nodes-within n i xs p in
    ((omega (arith, f.inside), rest.0), ((λ e. omega (arith, f.above)), rest.1))

pub class-within : {order : ℕ} (n j : ℕ) (ls : List (List ℕ)) → Placed order (n * 8) (free_of 0 ls) → Within n (of_class j ls) × Away 0 (of_class j ls)
class-within n j ls p = nodes-within n (0 + j) (of_class j ls) (placed-class j ls p)
