-- How long a number is in decimal, and two texts in a row.
use mathlib.Core.Bool.{Bool, true, false, cond}
use mathlib.Core.List.{List, [], ◌∷◌, ◌++◌}
use Prim.Native.Nat.{ℕ, zero, suc, ◌+◌, ◌/◌, ◌%◌, ◌≤◌}
use native.Mathlib.Omega.{arith}
use lib.Dec.{eqb}
use lib.ListN.{length, length-append}
use Rattle.texts.specs.Text.{digits, decimal}

length_digits : (k n : ℕ) → length (digits k n) ≤ k
unfolding digits
length_digits zero n = omega arith
length_digits (suc k) n = by_cases (eqb n 0) (length_digits k (n / 10))
  where
    by_cases : (t : Bool) → length (digits k (n / 10)) ≤ k → length (cond t [] (digits k (n / 10) ++ ((48 + n % 10) ∷ []))) ≤ suc k
    by_cases true h = omega arith
    by_cases false h = omega (arith, length-append (digits k (n / 10)) ((48 + n % 10) ∷ []))

pub length-decimal : (n : ℕ) → length (decimal n) ≤ 20
unfolding decimal
length-decimal n = by_cases (eqb n 0)
  where
    by_cases : (t : Bool) → length (cond t (48 ∷ []) (digits 20 n)) ≤ 20
    by_cases true = omega arith
    by_cases false = length_digits 20 n

-- two texts in a row, each within a bound
pub both : (xs ys : List ℕ) (a b : ℕ) → length xs ≤ a → length ys ≤ b → length (xs ++ ys) ≤ a + b
both xs ys a b h k = omega (arith, length-append xs ys)
