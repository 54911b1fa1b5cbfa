-- What the pass over the records in src/picking.rt tests of each. Internal to that pass.
use Rattle.std.specs.Prelude.{ℕ, ◌/◌, Bool, ◌&&◌, nat_le, nat_lt}

-- the mark and the class of a record's word, as one number: below 64 where it is free
abbrev pub key_of : ℕ → ℕ
key_of w = w / 0x200_0000_0000_0000

unfoldable pub betterb : ℕ → ℕ → ℕ → Bool
betterb class low w = nat_le class (key_of w) && nat_lt (key_of w) low
