-- A bit by a shift. Assumes nothing.
use mathlib.Core.Path.{◌≡◌, ◌∙◌}
use Prim.Native.Nat.{ℕ, ◌*◌, ◌%◌, ◌^◌, ◌<◌}
use native.Mathlib.Nat.{one-mul}
use native.Mathlib.Omega.{arith}
use lib.Pow.{shl_exact}

-- `1 << k`, of 32 or 64 bits
pub bit : (k width : ℕ) → k < width → 1 * 2 ^ k % 2 ^ width ≡ 2 ^ k
bit k width h = shl_exact 1 k width (omega arith) (omega arith) ∙ simp one-mul
