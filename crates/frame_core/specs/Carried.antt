-- What a decision over blocks is over words: the reply, and the words that the table is left with. From docs/RULES.md, "Refusal numbers".
use Rattle.std.specs.Prelude.{◌≡◌, ℕ, List, [], ◌∷◌, length}
use Rattle.answers.specs.Paper.{Answer}
use Rattle.answers.specs.Paper.{paper, number_of}
use Rattle.answers.specs.Judging.{refused, done}
use Rattle.table.specs.Layout.{state_of, words_of}
use Rattle.frame_core.specs.Deciding.{Decision}

-- an answer on paper: its number, and its value or, of a summary, its three figures
pub record Reply : Type 0 where
  pub number : ℕ
  pub values : List ℕ

pub record Outcome : Type 0 where
  pub reply : Reply
  pub words : List ℕ

-- "Each returns its number and 0 (every figure of a summary 0)": `none` is what a refused call returns beside its number
-- ", and changes no word. An accepted call returns number 0"
abbrev pub carried : List ℕ → List ℕ → Decision → Outcome
carried none ws (refused r) = record { reply = record { number = number_of r; values = none }; words = ws }
carried none ws (done vs bs) = record { reply = record { number = 0; values = vs }; words = words_of (length ws) (record { order = (state_of ws).order; blocks = bs }) }

abbrev pub reply_of : Answer → Reply
reply_of a = record { number = (paper a).number; values = (paper a).value ∷ [] }

-- a reply and the words after are those of an outcome
pub record Says (o : Outcome) (r : Reply) (after : List ℕ) : Type 0 where
  pub reply : r ≡ o.reply
  pub words : after ≡ o.words

-- the promise of a call on a sound table: the answer and every word afterwards are what is decided
abbrev pub Carries : Decision → List ℕ → Answer → List ℕ → Type 0
Carries d before a after = Says (carried (0 ∷ []) before d) (reply_of a) after
