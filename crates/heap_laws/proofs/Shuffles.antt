-- Lists in another order, and what stays the same. Assumes nothing.
use mathlib.Core.Path.{◌≡◌, refl, ap, ◌∙◌}
use mathlib.Core.List.{List, [], ◌∷◌, ◌++◌, map}
use Prim.Native.Nat.{suc}
use native.Mathlib.Omega.{arith}
use lib.ListN.{length}
use Rattle.heap_blocks.specs.Sound.{Block, blk, bytes_of}

infix 40 ◌~◌
pub data ◌~◌ {A : Type 0} : List A → List A → Type 0 where
  same : {xs : List A} → xs ~ xs
  keep : (x : A) {xs ys : List A} → xs ~ ys → (x ∷ xs) ~ (x ∷ ys)
  swap : (x y : A) {xs : List A} → (x ∷ y ∷ xs) ~ (y ∷ x ∷ xs)
  then : {xs ys zs : List A} → xs ~ ys → ys ~ zs → xs ~ zs

module _ {A : Type 0} where
  pub back : {xs ys : List A} → xs ~ ys → ys ~ xs
  back same = same
  back (keep x r) = keep x (back r)
  back (swap x y) = swap y x
  back (then r s) = then (back s) (back r)

  -- an element in the middle comes to the front
  pub bring : (x : A) (us bs : List A) → (us ++ x ∷ bs) ~ (x ∷ (us ++ bs))
  bring x [] bs = same
  bring x (u ∷ us) bs = then (keep u (bring x us bs)) (swap u x)

  pub before : (us : List A) {xs ys : List A} → xs ~ ys → (us ++ xs) ~ (us ++ ys)
  before [] r = r
  before (u ∷ us) r = keep u (before us r)

  pub after : {xs ys : List A} (bs : List A) → xs ~ ys → (xs ++ bs) ~ (ys ++ bs)
  after bs same = same
  after bs (keep x r) = keep x (after bs r)
  after bs (swap x y) = swap x y
  after bs (then r s) = then (after bs r) (after bs s)

  pub same_length : {xs ys : List A} → xs ~ ys → length xs ≡ length ys
  same_length same = refl
  same_length (keep x r) = ap suc (same_length r)
  same_length (swap x y) = refl
  same_length (then r s) = same_length r ∙ same_length s

  pub mapped : {B : Type 0} (f : A → B) {xs ys : List A} → xs ~ ys → map f xs ~ map f ys
  mapped f same = same
  mapped f (keep x r) = keep (f x) (mapped f r)
  mapped f (swap x y) = swap (f x) (f y)
  mapped f (then r s) = then (mapped f r) (mapped f s)

-- the same bytes in all
pub same_bytes : {xs ys : List Block} → xs ~ ys → bytes_of xs ≡ bytes_of ys
same_bytes same = refl
same_bytes (keep (blk k a) r) = omega (arith, same_bytes r)
same_bytes (swap (blk j a) (blk k b)) = omega arith
same_bytes (then r s) = same_bytes r ∙ same_bytes s
