-- The class of a request, at the numbers as the code has them. Assumes nothing.
use mathlib.Core.Path.{◌≡◌, refl, sym, ◌∙◌}
use Prim.Native.Nat.{ℕ, ◌^◌, ◌≤◌, ◌<◌, max}
use native.Mathlib.Omega.{arith}
use lib.Pow.{pow_mono}
use Rattle.std.specs.Prelude.{Option, Some, None}
use Rattle.blocks.specs.Blocks.{rounded_aligned}
use Rattle.blocks.specs.Laws.{Least}
use Rattle.blocks.proofs.Rounding.{least-class, aligned-is}
use Rattle.heap_core.specs.Deciding.{wanted, class_for}

pub class-word : (size align : ℕ) → 3 ≤ class_for size align
class-word size align = go (rounded_aligned size align)
  where
    go : (r : Option ℕ) → 3 ≤ wanted r
    go (Some k) = omega arith
    go None = omega arith

-- a class below 33 holds the request
pub class-holds : (size align : ℕ) → class_for size align < 33 → size ≤ 2 ^ class_for size align
class-holds size align h = go (rounded_aligned size align) refl h
  where
    go : (r : Option ℕ) → rounded_aligned size align ≡ r → wanted r < 33 → size ≤ 2 ^ wanted r
    go (Some k) e l =
        let least : Least (max size align) k = least-class (max size align) k (sym (aligned-is size align) ∙ e) in
        let m : 2 ^ k ≤ 2 ^ max 3 k = pow_mono (omega arith) in
        omega (arith, least.holds)
    go None e l = let z : 34 ≤ 33 = l in omega arith
