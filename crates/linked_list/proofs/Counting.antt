-- A list whose nodes have words of their own has no more nodes than there are words. Assumes nothing.
use mathlib.Core.Path.{◌≡◌, refl, ap}
use mathlib.Core.Bool.{Bool, true, false}
use mathlib.Core.List.{List, [], ◌∷◌}
use Prim.Native.Nat.{ℕ, zero, suc, ◌/◌, ◌<◌, ◌≤◌}
use native.Mathlib.Nat.{not-suc-le-zero}
use native.Mathlib.Omega.{arith}
use lib.Dec.{eqb}
use lib.ListN.{length}
use borrow.Author.Tests.{eqb-true, eqb-false, ne_eqb}
use Rattle.linked_list.specs.Chains.{Chain, Away, Distinct, Within, pick_l}
use Rattle.linked_list.proofs.Chains.{distinct}

-- the nodes with their links in other words than this one
others : ℕ → List ℕ → List ℕ
others word [] = []
others word (x ∷ xs) = pick_l (eqb (x / 8) word) (others word xs) (x ∷ others word xs)

away-others : (w word : ℕ) (xs : List ℕ) → Away w xs → Away w (others word xs)
unfolding others Away
away-others w word [] a = tt
away-others w word (x ∷ xs) a = go (eqb (x / 8) word) (away-others w word xs a.1)
  where
    go : (t : Bool) → Away w (others word xs) → Away w (pick_l t (others word xs) (x ∷ others word xs))
    go true rest = rest
    go false rest = (a.0, rest)

distinct-others : (word : ℕ) (xs : List ℕ) → Distinct xs → Distinct (others word xs)
unfolding others Distinct
distinct-others word [] d = tt
distinct-others word (x ∷ xs) d = go (eqb (x / 8) word) (distinct-others word xs d.1)
  where
    go : (t : Bool) → Distinct (others word xs) → Distinct (pick_l t (others word xs) (x ∷ others word xs))
    go true rest = rest
    go false rest = (away-others (x / 8) word xs d.0, rest)

within-others : (word : ℕ) (xs : List ℕ) → Within (suc word) xs → Within word (others word xs)
unfolding others Within
within-others word [] h = tt
within-others word (x ∷ xs) h = go (eqb (x / 8) word) refl (within-others word xs h.1)
  where
    go : (t : Bool) → eqb (x / 8) word ≡ t → Within word (others word xs) → Within word (pick_l t (others word xs) (x ∷ others word xs))
    go true e rest = rest
    go false e rest = let q : x / 8 ≡ word → ⊥ = eqb-false (x / 8) word e in let l = h.0 in (omega arith, rest)

away-all : (word : ℕ) (xs : List ℕ) → Away word xs → others word xs ≡ xs
unfolding others Away
away-all word [] a = refl
away-all word (x ∷ xs) a =
    let e : eqb (x / 8) word ≡ false = ne_eqb (x / 8) word a.0 in
    rw (e, away-all word xs a.1)

-- one node at most has its link in a word
one_less : (word : ℕ) (xs : List ℕ) → Distinct xs → length xs ≤ suc (length (others word xs))
unfolding others Distinct
one_less word [] d = omega arith
one_less word (x ∷ xs) d = go (eqb (x / 8) word) refl (one_less word xs d.1)
  where
    go : (t : Bool) → eqb (x / 8) word ≡ t → length xs ≤ suc (length (others word xs)) → suc (length xs) ≤ suc (length (pick_l t (others word xs) (x ∷ others word xs)))
    go true e rest =
        let same : length (others word xs) ≡ length xs = ap length (away-all word xs (rw (eqb-true (x / 8) word e) at d.0)) in
        omega arith
    go false e rest = omega arith

none : (xs : List ℕ) → Within 0 xs → length xs ≤ 0
unfolding Within
none [] h = omega arith
none (x ∷ xs) h = absurd (not-suc-le-zero h.0)

pub few : (words : ℕ) (xs : List ℕ) → Distinct xs → Within words xs → length xs ≤ words
few zero xs d h = none xs h
few (suc words) xs d h =
    omega (arith, one_less words xs d, few words (others words xs) (distinct-others words xs d) (within-others words xs h))

-- with no node in word 0, a list in the arena has fewer nodes than the arena has words
pub chain-few : (arena : List ℕ) (head : ℕ) (xs : List ℕ) → Chain arena head xs → Within (length arena) xs → Away 0 xs → 0 < length arena → length xs < length arena
unfolding Distinct Within
chain-few arena head xs c h w some = few (length arena) (0 ∷ xs) (w, distinct arena head xs c) (some, h)
