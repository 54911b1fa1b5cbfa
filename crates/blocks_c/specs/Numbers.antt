-- What crosses to C and Rust as a number.
use Rattle.std.specs.Prelude.{Bool, true, false, ℕ}
use Rattle.std.specs.Prelude.{Option, Some, None}

-- a class as itself, and None as 64
abbrev pub class_number : Option ℕ → ℕ
class_number (Some k) = k
class_number None = 64

-- yes as 1, and no as 0
abbrev pub flag : Bool → ℕ
flag true = 1
flag false = 0
