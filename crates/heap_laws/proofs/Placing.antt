-- Blocks that are placed as a heap's are, any two of them apart, in any order. Assumes nothing.
use mathlib.Core.Path.{◌≡◌}
use mathlib.Core.List.{List, [], ◌∷◌, ◌++◌}
use Prim.Native.Nat.{ℕ, ◌+◌, ◌%◌, ◌^◌, ◌≤◌, ◌<◌}
use Rattle.heap_blocks.specs.Sound.{Block, blk}
use Rattle.heap_laws.proofs.Shuffles.{◌~◌, same, keep, swap, then}

-- a block may stand in an arena of so many bytes
pub record Fits (order bytes k a : ℕ) : Type 0 where
  pub low : 3 ≤ k
  pub high : k < order
  pub aligned : a % 2 ^ k ≡ 0
  pub above : 0 < a
  pub inside : a + 2 ^ k ≤ bytes

-- two blocks have no byte in common
pub data Apart : Block → Block → Type 0 where
  under : {j a k b : ℕ} → a + 2 ^ j ≤ b → Apart (blk j a) (blk k b)
  over : {j a k b : ℕ} → b + 2 ^ k ≤ a → Apart (blk j a) (blk k b)

pub data Beside (b : Block) : List Block → Type 0 where
  none : Beside b []
  next : {x : Block} {xs : List Block} → Apart b x → Beside b xs → Beside b (x ∷ xs)

pub data Placed (order bytes : ℕ) : List Block → Type 0 where
  none : Placed order bytes []
  next : {k a : ℕ} {bs : List Block} → Fits order bytes k a → Beside (blk k a) bs → Placed order bytes bs → Placed order bytes (blk k a ∷ bs)

pub apart-sym : {x y : Block} → Apart x y → Apart y x
apart-sym (under h) = over h
apart-sym (over h) = under h

pub beside-shuffled : {b : Block} {xs ys : List Block} → xs ~ ys → Beside b xs → Beside b ys
beside-shuffled same p = p
beside-shuffled (keep x r) (next h p) = next h (beside-shuffled r p)
beside-shuffled (swap x y) (next h (next g p)) = next g (next h p)
beside-shuffled (then r s) p = beside-shuffled s (beside-shuffled r p)

-- what stands beside a whole list stands beside a part
pub beside-front : {b : Block} (xs ys : List Block) → Beside b (xs ++ ys) → Beside b xs
beside-front [] ys p = none
beside-front (x ∷ xs) ys (next h p) = next h (beside-front xs ys p)

pub beside-rest : {b : Block} (xs ys : List Block) → Beside b (xs ++ ys) → Beside b ys
beside-rest [] ys p = p
beside-rest (x ∷ xs) ys (next h p) = beside-rest xs ys p

module _ {order bytes : ℕ} where
  pub placed-shuffled : {xs ys : List Block} → xs ~ ys → Placed order bytes xs → Placed order bytes ys
  placed-shuffled same p = p
  placed-shuffled (keep x r) (next f b p) = next f (beside-shuffled r b) (placed-shuffled r p)
  placed-shuffled (swap x y) (next f (next h b) (next g c p)) = next g (next (apart-sym h) c) (next f b p)
  placed-shuffled (then r s) p = placed-shuffled s (placed-shuffled r p)

  pub placed-front : (xs ys : List Block) → Placed order bytes (xs ++ ys) → Placed order bytes xs
  placed-front [] ys p = none
  placed-front (blk k a ∷ xs) ys (next f b p) = next f (beside-front xs ys b) (placed-front xs ys p)

  pub placed-rest : (xs ys : List Block) → Placed order bytes (xs ++ ys) → Placed order bytes ys
  placed-rest [] ys p = p
  placed-rest (blk k a ∷ xs) ys (next f b p) = placed-rest xs ys p
