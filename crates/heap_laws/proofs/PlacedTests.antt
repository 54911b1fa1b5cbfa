-- From the tests of a heap's blocks to their places, and back. Assumes nothing.
use mathlib.Core.Path.{◌≡◌, refl}
use mathlib.Core.Logic.{◌⊎◌, inl, inr}
use mathlib.Core.Bool.{true, ◌&&◌}
use mathlib.Core.List.{List, [], ◌∷◌, ◌++◌, map}
use Prim.Native.Nat.{ℕ, zero, suc, ◌+◌, ◌%◌, ◌^◌}
use lib.Dec.{eqb, leb, ltb}
use lib.ListN.{length}
use borrow.Author.Tests.{eqb-true, eq-eqb, leb-true, le-leb, ltb-true, lt-ltb}
use Rattle.words.proofs.Tests.{both, join, either, or_left, or_right}
use Rattle.linked_list.proofs.Steps.{nodes-end}
use Rattle.heap_state.specs.Lists.{Memory, head, list}
use Rattle.heap_blocks.specs.Sound.{Block, blk, placedb, apart, apart_from, disjointb}
use Rattle.heap_laws.specs.ListRules.{lists_from}
use Rattle.heap_laws.proofs.Placing.{Fits, Apart, under, over, Beside, Placed, none, next}
use Rattle.heap_laws.proofs.Free.{free_of}
use Rattle.heap_laws.proofs.Tested.{Listed}

-- every block is of a class that has lists
pub data Classed (order : ℕ) : List Block → Type 0 where
  nothing : Classed order []
  also : {k a : ℕ} {bs : List Block} → Listed order k → Classed order bs → Classed order (blk k a ∷ bs)

pub classed-append : {order : ℕ} {xs ys : List Block} → Classed order xs → Classed order ys → Classed order (xs ++ ys)
classed-append nothing q = q
classed-append (also l p) q = also l (classed-append p q)

classed-list : {order k : ℕ} (xs : List ℕ) → Listed order k → Classed order (map (blk k) xs)
classed-list [] l = nothing
classed-list (x ∷ xs) l = also l (classed-list xs l)

module _ (order : ℕ) (m : Memory) (heads : (j : ℕ) → (head j m ≡ 0) ⊎ Listed order j) where
  classed-class : (k : ℕ) → (head k m ≡ 0) ⊎ Listed order k → Classed order (map (blk k) (list k m))
  classed-class k (inl e) = rw (e, nodes-end (length m.arena) m.arena) nothing
  classed-class k (inr l) = classed-list (list k m) l

  pub classed-free : (c i : ℕ) → Classed order (free_of i (lists_from c i m))
  classed-free zero i = nothing
  classed-free (suc c) i = classed-append (classed-class i (heads i)) (classed-free c (suc i))

-- ---- apart

apart-fact : (x y : Block) → apart x y ≡ true → Apart x y
apart-fact (blk j a) (blk k b) e = go (either (leb (a + 2 ^ j) b) (leb (b + 2 ^ k) a) e)
  where
    go : (leb (a + 2 ^ j) b ≡ true) ⊎ (leb (b + 2 ^ k) a ≡ true) → Apart (blk j a) (blk k b)
    go (inl h) = under (leb-true (a + 2 ^ j) b h)
    go (inr h) = over (leb-true (b + 2 ^ k) a h)

apart-true : (x y : Block) → Apart x y → apart x y ≡ true
apart-true (blk j a) (blk k b) (under h) = or_left (leb (a + 2 ^ j) b) (leb (b + 2 ^ k) a) (le-leb (a + 2 ^ j) b h)
apart-true (blk j a) (blk k b) (over h) = or_right (leb (a + 2 ^ j) b) (leb (b + 2 ^ k) a) (le-leb (b + 2 ^ k) a h)

beside_fact : (b : Block) (xs : List Block) → apart_from b xs ≡ true → Beside b xs
beside_fact b [] e = none
beside_fact b (x ∷ xs) e = let p = both (apart b x) (apart_from b xs) e in next (apart-fact b x p.0) (beside_fact b xs p.1)

beside-true : (b : Block) (xs : List Block) → Beside b xs → apart_from b xs ≡ true
beside-true b [] p = refl
beside-true b (x ∷ xs) (next h p) = join (apart b x) (apart_from b xs) (apart-true b x h) (beside-true b xs p)

-- ---- placed

pub placed-fact : {order : ℕ} (bytes : ℕ) (bs : List Block) → Classed order bs → placedb bytes bs ≡ true → disjointb bs ≡ true → Placed order bytes bs
placed-fact bytes [] c p d = none
placed-fact {order} bytes (blk k a ∷ bs) (also l c) p d =
    let p3 = both (eqb (a % 2 ^ k) 0 && ltb 0 a && leb (a + 2 ^ k) bytes) (placedb bytes bs) p in
    let p2 = both (eqb (a % 2 ^ k) 0 && ltb 0 a) (leb (a + 2 ^ k) bytes) p3.0 in
    let p1 = both (eqb (a % 2 ^ k) 0) (ltb 0 a) p2.0 in
    let q = both (apart_from (blk k a) bs) (disjointb bs) d in
    let f : Fits order bytes k a = record {
      low = l.low;
      high = l.high;
      aligned = eqb-true (a % 2 ^ k) 0 p1.0;
      above = ltb-true 0 a p1.1;
      inside = leb-true (a + 2 ^ k) bytes p2.1;
    } in
    next f (beside_fact (blk k a) bs q.0) (placed-fact bytes bs c p3.1 q.1)

pub placed-true : {order : ℕ} (bytes : ℕ) (bs : List Block) → Placed order bytes bs → placedb bytes bs ≡ true
placed-true bytes [] p = refl
placed-true bytes (blk k a ∷ bs) (next f b p) =
    rw (eq-eqb (a % 2 ^ k) 0 f.aligned, lt-ltb 0 a f.above, le-leb (a + 2 ^ k) bytes f.inside) (placed-true bytes bs p)

pub disjoint-true : {order bytes : ℕ} (bs : List Block) → Placed order bytes bs → disjointb bs ≡ true
disjoint-true [] p = refl
disjoint-true (blk k a ∷ bs) (next f b p) = join (apart_from (blk k a) bs) (disjointb bs) (beside-true (blk k a) bs b) (disjoint-true bs p)
