-- From the tests of a heap's heads and walks to its lists, and back. Assumes nothing.
use mathlib.Core.Path.{◌≡◌, refl, ap}
use mathlib.Core.Logic.{◌⊎◌, inl, inr}
use mathlib.Core.Bool.{true, false, ◌&&◌, ◌||◌}
use mathlib.Core.List.{List, [], ◌∷◌, ◌++◌, map}
use Prim.Native.Nat.{ℕ, zero, suc, ◌+◌, ◌-◌, ◌≤◌, ◌<◌}
use native.Mathlib.Omega.{arith}
use lib.Dec.{eqb, leb, ltb}
use lib.ListN.{length, get_or}
use borrow.Author.Tests.{eqb-true, eq-eqb, ne_eqb, leb-true, le-leb, ltb-true, lt-ltb}
use Rattle.words.proofs.Tests.{both, join, either, or_left, or_right}
use Rattle.linked_list.specs.Links.{next, nodes}
use Rattle.linked_list.specs.Chains.{Chain}
use Rattle.heap_state.specs.Lists.{Memory, list}
use Rattle.heap_blocks.specs.Sound.{Block, blk, headsb, reaches, listsb, free_from}
use Rattle.heap_blocks.proofs.Walks.{reaches_end}
use Rattle.heap_laws.specs.ListRules.{lists_from, of_class}
use Rattle.heap_laws.proofs.Free.{free_of}

-- ---- the classes that have lists

pub record Listed (order k : ℕ) : Type 0 where
  pub low : 3 ≤ k
  pub high : k < order

-- each list that is not empty is one of a class that has lists
pub heads-fact : (order i : ℕ) (heads : List ℕ) → headsb order i heads ≡ true → (j : ℕ) → (get_or heads j 0 ≡ 0) ⊎ Listed order (i + j)
heads-fact order i [] e j = inl refl
heads-fact order i (a ∷ heads) e zero = go (either (leb 3 i && ltb i order) (eqb a 0) (both ((leb 3 i && ltb i order) || eqb a 0) (headsb order (suc i) heads) e).0)
  where
    go : (leb 3 i && ltb i order ≡ true) ⊎ (eqb a 0 ≡ true) → (a ≡ 0) ⊎ Listed order (i + 0)
    go (inl h) = let p = both (leb 3 i) (ltb i order) h in inr (record { low = omega (arith, leb-true 3 i p.0); high = omega (arith, ltb-true i order p.1) })
    go (inr h) = inl (eqb-true a 0 h)
heads-fact order i (a ∷ heads) e (suc j) =
    let z : i + suc j ≡ suc i + j = omega arith in
    rw z (heads-fact order (suc i) heads (both ((leb 3 i && ltb i order) || eqb a 0) (headsb order (suc i) heads) e).1 j)

pub heads-true : (order i : ℕ) (heads : List ℕ) → ((j : ℕ) → (get_or heads j 0 ≡ 0) ⊎ Listed order (i + j)) → headsb order i heads ≡ true
heads-true order i [] f = refl
heads-true order i (a ∷ heads) f =
    join _ _ (go (f 0)) (heads-true order (suc i) heads (λ j. let z : suc i + j ≡ i + suc j = omega arith in rw z (f (suc j))))
  where
    go : (a ≡ 0) ⊎ Listed order (i + 0) → (leb 3 i && ltb i order) || eqb a 0 ≡ true
    go (inl e) = or_right (leb 3 i && ltb i order) (eqb a 0) (eq-eqb a 0 e)
    go (inr l) = or_left (leb 3 i && ltb i order) (eqb a 0) (join _ _ (le-leb 3 i (omega (arith, l.low))) (lt-ltb i order (omega (arith, l.high))))

-- ---- the walks

pub reaches-chain : (fewer : ℕ) (arena : List ℕ) (a : ℕ) → reaches fewer arena a ≡ true → Chain arena a (nodes (suc fewer) arena a)
unfolding reaches Chain nodes
reaches-chain zero arena zero e = refl
reaches-chain (suc fewer) arena zero e = refl
reaches-chain zero arena (suc a) e = absurd (let z = eqb-true (suc a) 0 e in omega arith)
reaches-chain (suc fewer) arena (suc a) e =
    let n : eqb (suc a) 0 ≡ false = ne_eqb (suc a) 0 (λ z. omega arith) in
    (refl, (λ z. omega arith), reaches-chain fewer arena (next arena (suc a)) (rw n at e))

pub chain-reaches : (fewer : ℕ) (arena : List ℕ) (a : ℕ) (xs : List ℕ) → Chain arena a xs → length xs ≤ fewer → reaches fewer arena a ≡ true
unfolding reaches Chain
chain-reaches fewer arena a [] c h = let z : a ≡ 0 = c in rw z (reaches_end fewer arena)
chain-reaches zero arena a (x ∷ xs) c h = absurd (omega arith)
chain-reaches (suc fewer) arena a (x ∷ xs) c h =
    or_right (eqb a 0) (reaches fewer arena (next arena a)) (chain-reaches fewer arena (next arena a) xs (rw c.0 c.2) (omega arith))

pub lists-true : (arena heads : List ℕ) → ((j : ℕ) → reaches (length arena - 1) arena (get_or heads j 0) ≡ true) → listsb arena heads ≡ true
lists-true arena [] f = refl
lists-true arena (a ∷ heads) f = join _ _ (f 0) (lists-true arena heads (λ j. f (suc j)))

-- ---- the lists of a memory

pub listed_at : (c i j : ℕ) (m : Memory) → j < c → of_class j (lists_from c i m) ≡ list (i + j) m
listed_at zero i j m h = absurd (omega arith)
listed_at (suc c) i zero m h = let z : i + 0 ≡ i = omega arith in rw z
listed_at (suc c) i (suc j) m h = let z : i + suc j ≡ suc i + j = omega arith in rw z (listed_at c (suc i) j m (omega arith))

pub listed-length : (c i : ℕ) (m : Memory) → length (lists_from c i m) ≡ c
listed-length zero i m = refl
listed-length (suc c) i m = ap suc (listed-length c (suc i) m)

pub free-is : (c i : ℕ) (m : Memory) → free_from c i m ≡ free_of i (lists_from c i m)
free-is zero i m = refl
free-is (suc c) i m = ap (λ (bs : List Block). map (blk i) (list i m) ++ bs) (free-is c (suc i) m)
