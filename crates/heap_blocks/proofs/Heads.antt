-- The head of a list of a sound heap is the address of a block of its class, in its place. Assumes nothing.
use mathlib.Core.Path.{◌≡◌, refl, sym, ap, ◌∙◌}
use mathlib.Core.Bool.{Bool, true, false, ◌&&◌, ◌||◌, and_assoc}
use mathlib.Core.List.{List, [], ◌∷◌, ◌++◌, map}
use Prim.Native.Nat.{ℕ, zero, suc, ◌+◌, ◌*◌, ◌%◌, ◌^◌, ◌≤◌, ◌<◌}
use native.Mathlib.Nat.{not-suc-le-zero}
use native.Mathlib.Omega.{arith}
use lib.Dec.{leb, ltb, eqb}
use lib.ListN.{length, get_or}
use borrow.Author.Tests.{leb-true, ltb-true, eqb-true, le-leb, lt-ltb, eq-eqb}
use Rattle.words.proofs.Tests.{both}
use Rattle.linked_list.specs.Links.{next, nodes}
use Rattle.heap_state.specs.declared.Heap.{Heap}
use Rattle.heap_state.specs.Lists.{Memory, list}
use Rattle.heap_blocks.specs.Sound.{Block, blk, headsb, free_from, free_blocks, granted_blocks, placedb}
use Rattle.heap_blocks.specs.Parts.{blockb}
use Rattle.heap_blocks.proofs.Facts.{Sound}

-- a block of class k at a in its place, of an arena of so many bytes
pub record Placed (bytes k a : ℕ) : Type 0 where
  pub aligned : a % 2 ^ k ≡ 0
  pub above : 0 < a
  pub inside : a + 2 ^ k ≤ bytes

pub block-fact : (bytes k a : ℕ) → blockb bytes k a ≡ true → Placed bytes k a
unfolding blockb
block-fact bytes k a e =
    let q = both _ _ e in
    let r = both _ _ q.0 in
    record { aligned = eqb-true (a % 2 ^ k) 0 r.0; above = ltb-true 0 a r.1; inside = leb-true (a + 2 ^ k) bytes q.1 }

pub block-true : (bytes k a : ℕ) → Placed bytes k a → blockb bytes k a ≡ true
unfolding blockb
block-true bytes k a p = rw (eq-eqb (a % 2 ^ k) 0 p.aligned, lt-ltb 0 a p.above, le-leb (a + 2 ^ k) bytes p.inside)

pub placed-cons : (bytes k a : ℕ) (bs : List Block) → placedb bytes (blk k a ∷ bs) ≡ blockb bytes k a && placedb bytes bs
unfolding blockb
placed-cons bytes k a bs = refl

pub placed-fact : (bytes k a : ℕ) (bs : List Block) → placedb bytes (blk k a ∷ bs) ≡ true → Placed bytes k a × (placedb bytes bs ≡ true)
placed-fact bytes k a bs e =
    let p = both (blockb bytes k a) (placedb bytes bs) (sym (placed-cons bytes k a bs) ∙ e) in
    (block-fact bytes k a p.0, p.1)

pub placed-append : (bytes : ℕ) (xs ys : List Block) → placedb bytes (xs ++ ys) ≡ placedb bytes xs && placedb bytes ys
placed-append bytes [] ys = refl
placed-append bytes (blk k a ∷ xs) ys =
    placed-cons bytes k a (xs ++ ys) ∙ ap (λ (t : Bool). blockb bytes k a && t) (placed-append bytes xs ys)
    ∙ sym (and_assoc (blockb bytes k a) (placedb bytes xs) (placedb bytes ys))
    ∙ ap (λ (t : Bool). t && placedb bytes ys) (sym (placed-cons bytes k a xs))

pub placed-parts : (bytes : ℕ) (xs ys : List Block) → placedb bytes (xs ++ ys) ≡ true → (placedb bytes xs ≡ true) × (placedb bytes ys ≡ true)
placed-parts bytes xs ys e = both (placedb bytes xs) (placedb bytes ys) (sym (placed-append bytes xs ys) ∙ e)

-- the class of a list that has a node
either : (b c : Bool) → b || c ≡ true → (c ≡ true → ⊥) → b ≡ true
either true c e q = refl
either false c e q = absurd (q e)

pub heads-at : (order j : ℕ) (heads : List ℕ) (k : ℕ) → headsb order j heads ≡ true → (get_or heads k 0 ≡ 0 → ⊥) → (3 ≤ j + k) × (j + k < order)
heads-at order j [] k e q = absurd (q refl)
heads-at order j (a ∷ heads) zero e q =
    let e0 = both ((leb 3 j && ltb j order) || eqb a 0) (headsb order (suc j) heads) e in
    let p = both (leb 3 j) (ltb j order) (either (leb 3 j && ltb j order) (eqb a 0) e0.0 (λ z. q (eqb-true a 0 z))) in
    (omega (arith, leb-true 3 j p.0), omega (arith, ltb-true j order p.1))
heads-at order j (a ∷ heads) (suc k) e q =
    let e0 = both ((leb 3 j && ltb j order) || eqb a 0) (headsb order (suc j) heads) e in
    let rest = heads-at order (suc j) heads k e0.1 q in
    (omega (arith, rest.0), omega (arith, rest.1))

-- the blocks of one list among all free ones
pub free-placed : (bytes n j k : ℕ) (m : Memory) → placedb bytes (free_from n j m) ≡ true → k < n → placedb bytes (map (blk (j + k)) (list (j + k) m)) ≡ true
free-placed bytes zero j k m e h = absurd (not-suc-le-zero h)
free-placed bytes (suc n) j zero m e h =
    let z : j + 0 ≡ j = omega arith in
    rw z (placed-parts bytes (map (blk j) (list j m)) (free_from n (suc j) m) e).0
free-placed bytes (suc n) j (suc k) m e h =
    let z : j + suc k ≡ suc j + k = omega arith in
    rw z (free-placed bytes n (suc j) k m (placed-parts bytes (map (blk j) (list j m)) (free_from n (suc j) m) e).1 (omega arith))

first-placed : (bytes k most : ℕ) (arena : List ℕ) (a : ℕ) → placedb bytes (map (blk k) (nodes most arena a)) ≡ true → 0 < most → (a ≡ 0 → ⊥) → Placed bytes k a
unfolding nodes
first-placed bytes k zero arena a e h q = absurd (not-suc-le-zero h)
first-placed bytes k (suc most) arena zero e h q = absurd (q refl)
first-placed bytes k (suc most) arena (suc a) e h q = (placed-fact bytes k (suc a) (map (blk k) (nodes most arena (next arena (suc a)))) e).0

pub record HeadPlaced (h : Heap) (arena : List ℕ) (k : ℕ) : Type 0 where
  pub class_low : 3 ≤ k
  pub class-high : k < h.order
  pub aligned : get_or h.heads k 0 % 2 ^ k ≡ 0
  pub above : 0 < get_or h.heads k 0
  pub inside : get_or h.heads k 0 + 2 ^ k ≤ length arena * 8

pub head-placed : (h : Heap) (arena ledger : List ℕ) (k : ℕ) → Sound h arena ledger → (get_or h.heads k 0 ≡ 0 → ⊥) → HeadPlaced h arena k
head-placed h arena ledger k s q =
    let c = heads-at h.order 0 h.heads k s.heads q in
    let r = s.ranges in
    let z : 0 + k ≡ k = omega arith in
    let free = (placed-parts (length arena * 8) (free_blocks h arena) (granted_blocks h ledger) s.placed).0 in
    let mine = free-placed (length arena * 8) 33 0 k (record { heads = h.heads; arena = arena }) free (omega arith) in
    let p = first-placed (length arena * 8) k (length arena) arena (get_or h.heads k 0) (rw z at mine) (omega arith) q in
    record { class_low = omega (arith, c.0); class-high = omega (arith, c.1); aligned = p.aligned; above = p.above; inside = p.inside }
