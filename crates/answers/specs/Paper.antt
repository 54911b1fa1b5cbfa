-- An answer on paper, from docs/RULES.md, "Refusal numbers": the number and the value that each case stands for.
use Rattle.std.specs.Prelude.{ℕ, Result, Ok, Err}
use Rattle.answers.specs.declared.Refusal.{Refusal}
use Rattle.answers.specs.declared.Refusal.TheVariants.{BadOrder, BadSize, BadState, BadRange, NullStart, Overlap, BadAlign, Misaligned, NoBlock, NotGranted, NoRoom}

-- the table's column "no."
abbrev pub number_of : Refusal → ℕ
number_of BadOrder = 1
number_of BadSize = 2
number_of BadState = 3
number_of BadRange = 4
number_of NullStart = 5
number_of Overlap = 6
number_of BadAlign = 7
number_of Misaligned = 8
number_of NoBlock = 9
number_of NotGranted = 10
number_of NoRoom = 11

-- what a call answers: a value, or a refusal
abbrev pub Answer : Type 0
Answer = Result ℕ Refusal

pub record Paper : Type 0 where
  pub number : ℕ
  pub value : ℕ

-- "Each returns its number and 0"; "An accepted call returns number 0 and" what it was asked for
abbrev pub paper : Answer → Paper
paper (Ok v) = record { number = 0; value = v }
paper (Err r) = record { number = number_of r; value = 0 }
