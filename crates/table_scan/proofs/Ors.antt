-- The fields of words or-ed together. Assumes nothing.
use mathlib.Core.Path.{◌≡◌}
use Prim.Native.Nat.{ℕ, ◌/◌, ◌^◌}
use lib.Bits.{bit_or, or_shr, or_mod}
use Rattle.table.specs.Layout.{class_of, gap_of}

pub or-gap : (a b : ℕ) → gap_of (bit_or a b) ≡ bit_or (gap_of a) (gap_of b)
or-gap a b = rw (or_shr a b 32) (or_mod (a / 2 ^ 32) (b / 2 ^ 32) 25)

pub or-class : (a b : ℕ) → class_of (bit_or a b) ≡ bit_or (class_of a) (class_of b)
or-class a b = rw (or_shr a b 57) (or_mod (a / 2 ^ 57) (b / 2 ^ 57) 6)
