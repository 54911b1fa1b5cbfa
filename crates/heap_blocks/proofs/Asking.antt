-- What `all` and `any` of a chain answer, item by item. Assumes nothing.
use mathlib.Core.Path.{◌≡◌, refl, sym, ◌∙◌}
use mathlib.Core.Bool.{Bool, true, false, ◌&&◌, ◌||◌, or-true}
use mathlib.Core.List.{List, [], ◌∷◌}
use Prim.Native.Nat.{ℕ, zero, suc, ◌≤◌, ◌<◌}
use native.Mathlib.Omega.{arith}
use lib.ListN.{length, get_or}
use Rattle.words.proofs.Tests.{and-false}
use Rattle.std.specs.Bool.{MatchBool}
use Rattle.std.specs.List.{AllWithin, HoldsAt}

abbrev pub every : (ℕ → Bool) → List ℕ → Bool
every t [] = true
every t (x ∷ xs) = t x && every t xs

abbrev pub some : (ℕ → Bool) → List ℕ → Bool
some t [] = false
some t (x ∷ xs) = t x || some t xs

module _ (t : ℕ → Bool) where
  every-all : (xs : List ℕ) → ((k : ℕ) → k < length xs → t (get_or xs k 0) ≡ true) → every t xs ≡ true
  every-all [] h = refl
  every-all (x ∷ xs) h = rw (h 0 (omega arith)) (every-all xs (λ k l. h (suc k) (omega arith)))

  every-but : (xs : List ℕ) (k : ℕ) → k < length xs → t (get_or xs k 0) ≡ false → every t xs ≡ false
  every-but [] k l e = absurd (omega arith)
  every-but (x ∷ xs) zero l e = rw e
  every-but (x ∷ xs) (suc k) l e = rw (every-but xs k (omega arith) e) (and-false (t x))

  some-none : (xs : List ℕ) → ((k : ℕ) → k < length xs → t (get_or xs k 0) ≡ false) → some t xs ≡ false
  some-none [] h = refl
  some-none (x ∷ xs) h = rw (h 0 (omega arith)) (some-none xs (λ k l. h (suc k) (omega arith)))

  some-at : (xs : List ℕ) (k : ℕ) → k < length xs → t (get_or xs k 0) ≡ true → some t xs ≡ true
  some-at [] k l e = absurd (omega arith)
  some-at (x ∷ xs) zero l e = rw e
  some-at (x ∷ xs) (suc k) l e = rw (some-at xs k (omega arith) e) (or-true (t x))

  pub every-is : (r : Bool) (xs : List ℕ) → MatchBool r (AllWithin (λ x. t x ≡ true) xs 0 (length xs)) ((k : ℕ) × (k < length xs) × HoldsAt (λ x. t x ≡ false) xs k)
      → r ≡ every t xs
  every-is true xs m = sym (every-all xs (λ k l. m k 0 (omega arith) l))
  every-is false xs m = sym (every-but xs m.0 m.1 (m.2 0))

  pub some-is : (r : Bool) (xs : List ℕ) → MatchBool r ((k : ℕ) × (k < length xs) × HoldsAt (λ x. t x ≡ true) xs k) (AllWithin (λ x. t x ≡ false) xs 0 (length xs))
      → r ≡ some t xs
  some-is true xs m = sym (some-at xs m.0 m.1 (m.2 0))
  some-is false xs m = sym (some-none xs (λ k l. m k 0 (omega arith) l))

-- two tests that agree on each item
pub every-same : (t u : ℕ → Bool) (xs : List ℕ) → ((k : ℕ) → k < length xs → t (get_or xs k 0) ≡ u (get_or xs k 0)) → every t xs ≡ every u xs
every-same t u [] h = refl
every-same t u (x ∷ xs) h = rw (h 0 (omega arith), every-same t u xs (λ k l. h (suc k) (omega arith))) refl

pub some-same : (t u : ℕ → Bool) (xs : List ℕ) → ((k : ℕ) → k < length xs → t (get_or xs k 0) ≡ u (get_or xs k 0)) → some t xs ≡ some u xs
some-same t u [] h = refl
some-same t u (x ∷ xs) h = rw (h 0 (omega arith), some-same t u xs (λ k l. h (suc k) (omega arith))) refl
