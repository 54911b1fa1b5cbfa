-- Two numbers or-ed. Assumes nothing.
use mathlib.Core.Path.{◌≡◌}
use Prim.Native.Nat.{ℕ, ◌≤◌}
use native.Mathlib.Omega.{arith}
use lib.Bits.{bit_or, or_add_and, and_le_l, and_le_r}

-- each of two numbers or-ed is at most the result
pub or-le : (a b : ℕ) → (a ≤ bit_or a b) × (b ≤ bit_or a b)
or-le a b =
    let s = or_add_and a b in
    let l = and_le_l a b in
    let r = and_le_r a b in
    (omega arith, omega arith)

pub or-zero : (a b : ℕ) → bit_or a b ≡ 0 → (a ≡ 0) × (b ≡ 0)
or-zero a b e = let h = or-le a b in (omega arith, omega arith)
