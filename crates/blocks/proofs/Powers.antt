-- Powers of two and their multiples. Assumes nothing.
use Rattle.std.proofs.Common.{◌≡◌, ℕ, suc, ◌+◌, ◌-◌, ◌*◌, ◌/◌, ◌%◌, ◌^◌, ◌<◌, ◌≤◌, ap, ◌∙◌, le_of_suc-le-suc, lt_of_not-le, div-add-mod', arith, pow_mono, pow-add}
use native.Mathlib.Nat.{mul-mod_left}
use lib.Pow.{pow-lt}

-- the order of two powers is that of their exponents
pub exp-le : (i j : ℕ) → 2 ^ i < 2 * 2 ^ j → i ≤ j
exp-le i j h = le_of_suc-le-suc (lt_of_not-le less)
  where
    less : suc j ≤ i → ⊥
    less l = let m : 2 ^ suc j ≤ 2 ^ i = pow_mono l in omega arith

pub exp-lt : (i j : ℕ) → 2 ^ i < 2 ^ j → i < j
exp-lt i j h = lt_of_not-le (λ (g : j ≤ i). absurd (let m : 2 ^ j ≤ 2 ^ i = pow_mono g in omega arith))

-- `1 << k`
pub one_shl : (k : ℕ) → k < 64 → (1 * 2 ^ k) % 2 ^ 64 ≡ 2 ^ k
one_shl k h = let l : 2 ^ k < 2 ^ 64 = pow-lt h in omega arith

-- a multiple, as a product and back
pub quotient : (s p : ℕ) → s % p ≡ 0 → s ≡ s / p * p
quotient s p h = omega (arith, div-add-mod' s p)

pub multiple : (s q p : ℕ) → s ≡ q * p → s % p ≡ 0
multiple s q p e = rw e (mul-mod_left q p)

-- a multiple of a power of two is one of each lower power
pub multiple-le : (i j s : ℕ) → i ≤ j → s % 2 ^ j ≡ 0 → s % 2 ^ i ≡ 0
multiple-le i j s l h =
    let e : 2 ^ j ≡ 2 ^ (j - i) * 2 ^ i = ap (λ (x : ℕ). 2 ^ x) {x = j} {y = j - i + i} (omega arith) ∙ pow-add 2 (j - i) i in
    multiple s (s / 2 ^ j * 2 ^ (j - i)) (2 ^ i) (quotient s (2 ^ j) h ∙ rw e (omega arith))
