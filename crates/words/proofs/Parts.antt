-- Parts of a list: one past its end, of a mapped list, and of one whose words are below a bound. Assumes nothing.
use mathlib.Core.Path.{◌≡◌, refl, ap}
use mathlib.Core.List.{List, [], ◌∷◌, map}
use Prim.Native.Nat.{ℕ, zero, suc, ◌≤◌, ◌<◌}
use native.Mathlib.Omega.{arith}
use lib.ListN.{take, drop, get_or, length-take, drop_of_length-le}
use lib.Seq.{slice}

pub slice-past : (i e : ℕ) (ws : List ℕ) → e ≤ i → slice i e ws ≡ []
slice-past i e ws h = drop_of_length-le (take e ws) {i = i} (simp length-take (omega arith))

module _ {A B : Type 0} (f : A → B) where
  pub map-take : (n : ℕ) (xs : List A) → map f (take n xs) ≡ take n (map f xs)
  map-take zero xs = refl
  map-take (suc n) [] = refl
  map-take (suc n) (x ∷ xs) = ap (λ (l : List B). f x ∷ l) (map-take n xs)

  pub map-drop : (n : ℕ) (xs : List A) → map f (drop n xs) ≡ drop n (map f xs)
  map-drop zero xs = refl
  map-drop (suc n) [] = refl
  map-drop (suc n) (x ∷ xs) = map-drop n xs

-- where all words are below a bound, those of a front are
pub front_below : (n : ℕ) (ws : List ℕ) (bound : ℕ) → 0 < bound → ((i : ℕ) → get_or ws i 0 < bound) → (i : ℕ) → get_or (take n ws) i 0 < bound
front_below zero ws bound p h i = p
front_below (suc n) [] bound p h i = p
front_below (suc n) (w ∷ ws) bound p h zero = h 0
front_below (suc n) (w ∷ ws) bound p h (suc i) = front_below n ws bound p (λ k. h (suc k)) i
