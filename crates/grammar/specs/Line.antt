-- A line, from docs/RULES.md, "The lines of `calls`": "one space between words, decimal numbers below 2^64, at most 80 bytes".
use Rattle.std.specs.Prelude.{Bool, true, false, cond, ◌&&◌, List, [], ◌∷◌, ℕ, ◌+◌, ◌-◌, ◌*◌, ◌^◌, eqb, leb, ltb, length, take, Option, Some, None, Result, Ok, Err}
use Rattle.lines.specs.Pieces.{cut}
use Rattle.grammar.specs.declared.BadLine.{BadLine}
use Rattle.grammar.specs.declared.Said.{Said}
use Rattle.grammar.specs.declared.Said.TheVariants.{Name, One, Two, Three}

-- ---- "decimal numbers below 2^64"

-- `0` to `9`, the bytes 48 to 57
abbrev pub is_digit : ℕ → Bool
is_digit b = leb 48 b && leb b 57

abbrev pub all_digits : List ℕ → Bool
all_digits [] = true
all_digits (b ∷ bs) = is_digit b && all_digits bs

-- the number that goes on with these digits after v
abbrev pub value_on : ℕ → List ℕ → ℕ
value_on v [] = v
value_on v (b ∷ bs) = value_on (v * 10 + (b - 48)) bs

-- a word of digits alone, one or more; zeros may lead
unfoldable pub number_of : List ℕ → Option ℕ
number_of w = cond (ltb 0 (length w) && all_digits w && ltb (value_on 0 w) (2 ^ 64)) (Some (value_on 0 w)) None

-- ---- a name, and the numbers after it

-- words as numbers, where all of them are
pub data Numbers : Type 0 where
  all : List ℕ → Numbers
  not_all : Numbers

abbrev pub before : Option ℕ → Numbers → Numbers
before (Some n) (all ns) = all (n ∷ ns)
before (Some n) not_all = not_all
before None ns = not_all

abbrev pub numbers_of : List (List ℕ) → Numbers
numbers_of [] = all []
numbers_of (w ∷ ws) = before (number_of w) (numbers_of ws)

pub data Line : Type 0 where
  said : List ℕ → List ℕ → Line
  bad : Line

abbrev pub saying : List ℕ → Numbers → Line
saying name (all ns) = said name ns
saying name not_all = bad

-- one name, then at most three numbers
abbrev pub of_words : List (List ℕ) → Line
of_words [] = bad
of_words (name ∷ ws) = cond (leb (length ws) 3) (saying name (numbers_of ws)) bad

-- "one space between words" (a space is the byte 32), "at most 80 bytes"
unfoldable pub line_of : List ℕ → Line
line_of bs = cond (leb (length bs) 80) (of_words (cut 32 bs)) bad

-- ---- what the code answers, on paper: it gives the name by its length

abbrev pub line_said : List ℕ → Result Said BadLine → Line
line_said bs (Ok (Name n)) = said (take n bs) []
line_said bs (Ok (One n a)) = said (take n bs) (a ∷ [])
line_said bs (Ok (Two n a b)) = said (take n bs) (a ∷ b ∷ [])
line_said bs (Ok (Three n a b c)) = said (take n bs) (a ∷ b ∷ c ∷ [])
line_said bs (Err e) = bad

abbrev pub name_length : Result Said BadLine → ℕ
name_length (Ok (Name n)) = n
name_length (Ok (One n a)) = n
name_length (Ok (Two n a b)) = n
name_length (Ok (Three n a b c)) = n
name_length (Err e) = 0

-- the same bytes
abbrev pub same : List ℕ → List ℕ → Bool
same [] [] = true
same [] (y ∷ ys) = false
same (x ∷ xs) [] = false
same (x ∷ xs) (y ∷ ys) = eqb x y && same xs ys
