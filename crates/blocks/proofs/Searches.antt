-- The two searches of the definitions: what they find is determined by what it is. Assumes nothing.
use Rattle.std.proofs.Common.{◌≡◌, ℕ, zero, suc, ◌+◌, ◌^◌, ◌<◌, ◌≤◌, Bool, true, false, leb, ◌⊎◌, sym, refl, ap, ◌∙◌, inl, inr, true≢false, le_of_suc-le-suc, eq-or-lt_of_le, arith, leb-false, leb-true}
use borrow.Author.Tests.{lt-leb}
use Rattle.blocks.specs.Blocks.{largest_power, first_holding}
use Rattle.std.specs.Prelude.{Some, None}

-- a power that passes, above which none does, is the largest that passes
pub largest_is : (passes : ℕ → Bool) (w k : ℕ) → k < w → passes (2 ^ k) ≡ true → ((j : ℕ) → j < w → passes (2 ^ j) ≡ true → j ≤ k)
    → largest_power passes w ≡ 2 ^ k
unfolding largest_power
largest_is passes zero k h p top = absurd (omega arith)
largest_is passes (suc w) k h p top = go (passes (2 ^ w)) refl (eq-or-lt_of_le (le_of_suc-le-suc h)) (λ l. largest_is passes w k l p (λ j m. top j (omega arith)))
  where
    go : (b : Bool) → passes (2 ^ w) ≡ b → (k ≡ w) ⊎ (k < w) → (k < w → largest_power passes w ≡ 2 ^ k) → largest_power passes (suc w) ≡ 2 ^ k
    go true e c ih = let l : w ≤ k = top w (omega arith) e in let s : w ≡ k = omega arith in rw (e, largest_power) (ap (λ (x : ℕ). 2 ^ x) s)
    go false e (inr l) ih = rw (e, largest_power) (ih l)
    go false e (inl s) ih = absurd (true≢false (sym p ∙ rw s e))

-- where no power passes there is none
pub largest-none : (passes : ℕ → Bool) (w : ℕ) → ((j : ℕ) → j < w → passes (2 ^ j) ≡ false) → largest_power passes w ≡ 0
unfolding largest_power
largest-none passes zero n = refl
largest-none passes (suc w) n = rw (n w (omega arith), largest_power) (largest-none passes w (λ j l. n j (omega arith)))

-- the class that holds the count, below which none does, is the first that holds it
pub first-is : (tries i count k : ℕ) → i ≤ k → k < i + tries → count ≤ 2 ^ k → ((j : ℕ) → count ≤ 2 ^ j → k ≤ j) → first_holding tries i count ≡ Some k
unfolding first_holding
first-is zero i count k l h c least = absurd (omega arith)
first-is (suc tries) i count k l h c least =
    go (leb count (2 ^ i)) refl (eq-or-lt_of_le l) (λ m. first-is tries (suc i) count k m (omega arith) c least)
  where
    go : (b : Bool) → leb count (2 ^ i) ≡ b → (i ≡ k) ⊎ (i < k) → (i < k → first_holding tries (suc i) count ≡ Some k) → first_holding (suc tries) i count ≡ Some k
    go true e m ih = let g : k ≤ i = least i (leb-true count (2 ^ i) e) in let s : i ≡ k = omega arith in rw (e, first_holding) (ap Some s)
    go false e (inr m) ih = rw (e, first_holding) (ih m)
    go false e (inl s) ih = absurd (omega (arith, leb-false count (2 ^ i) e, ap (λ (x : ℕ). 2 ^ x) s))

-- a count that no class holds finds none
pub first-none : (tries i count : ℕ) → ((j : ℕ) → j < i + tries → 2 ^ j < count) → first_holding tries i count ≡ None
unfolding first_holding
first-none zero i count n = refl
first-none (suc tries) i count n = rw (lt-leb count (2 ^ i) (n i (omega arith)), first_holding) (first-none tries (suc i) count (λ j l. n j (omega arith)))
