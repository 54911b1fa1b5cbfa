-- What adding, granting and releasing share in what they decide over the blocks of a sound table, from docs/RULES.md, "Blocks of frames" and "Refusal numbers".
use Rattle.std.specs.Prelude.{◌≡◌, ◌≤◌, true, ℕ, List, length, nat_lt}
use Rattle.answers.specs.declared.Refusal.TheVariants.{NoRoom}
use Rattle.answers.specs.Judging as judging
use Rattle.answers.specs.Judging.{Check, refuse}
use Rattle.std.specs.Prelude.{Option, Some, None}
use Rattle.rules.specs.Rules.{Block}
use Rattle.table.specs.Sound.{soundb}

-- what a call decides over blocks: a refusal, or what it answers and the blocks afterwards
abbrev pub Decision : Type 0
Decision = judging.Decision (List ℕ) (List Block)

-- the class that is asked for; 33, a class of no table, where the rounded count is above every block
abbrev pub wanted : Option ℕ → ℕ
wanted (Some k) = k
wanted None = 33

-- what the parts are asked with: a sound table, and a size that was rounded to one of its classes, or to none
abbrev pub Asked : List ℕ → Option ℕ → Type 0
Asked words size = (soundb words ≡ true) × (wanted size ≤ 33)

-- "NO_ROOM: blocks after the call would exceed the capacity"
abbrev pub no_room : ℕ → List Block → Check
no_room capacity after = refuse (nat_lt capacity (length after)) NoRoom
