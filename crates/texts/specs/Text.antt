-- The pieces of what both programs print, from docs/RULES.md, "The lines of `calls`": numbers in decimal and in hexadecimal, and `bad line`.
use Rattle.std.specs.Prelude.{cond, List, [], ◌∷◌, ◌++◌, ℕ, zero, suc, ◌+◌, ◌/◌, ◌%◌, eqb, ltb}
use Rattle.texts.specs.Bytes.{bytes}

-- the last k digits of a number, the most significant first, without leading zeros
unfoldable pub digits : ℕ → ℕ → List ℕ
digits zero n = []
digits (suc k) n = cond (eqb n 0) [] (digits k (n / 10) ++ ((48 + n % 10) ∷ []))

-- a number of 64 bits has 20 digits at most; 0 is `0`
unfoldable pub decimal : ℕ → List ℕ
decimal n = cond (eqb n 0) (bytes "0") (digits 20 n)

-- "16 hexadecimal digits in lower case", from "The lines of `heap_calls`": `0` to `9` are the bytes from 48 on, `a` to `f` those from 97 on
abbrev pub hex_digit : ℕ → ℕ
hex_digit d = cond (ltb d 10) (48 + d) (87 + d)

-- the last k digits of a number, the most significant first
unfoldable pub hex_digits : ℕ → ℕ → List ℕ
hex_digits zero n = []
hex_digits (suc k) n = hex_digits k (n / 16) ++ (hex_digit (n % 16) ∷ [])

abbrev pub hex : ℕ → List ℕ
hex w = hex_digits 16 w

abbrev pub line_feed : List ℕ
line_feed = bytes "\n"

-- "else it prints `bad line`", each program
abbrev pub bad_line : List ℕ
bad_line = bytes "bad line\n"
