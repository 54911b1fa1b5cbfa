-- What crosses to C: an answer as its two numbers, and the promise of a call in them.
use Rattle.std.specs.Prelude.{List, [], ◌∷◌, ℕ}
use Rattle.answers_c.specs.declared.CAnswer.{CAnswer}
use Rattle.frame_core.specs.Carried.{Reply, Outcome, Says}

-- what C gets, as a reply on paper
abbrev pub reply_of_c : CAnswer → Reply
reply_of_c r = record { number = r.number; values = r.value ∷ [] }

-- this C answer and these words are the outcome's
abbrev pub Crossed : Outcome → CAnswer → List ℕ → Type 0
Crossed o r after = Says o (reply_of_c r) after

-- of a summary, this number and these figures; it leaves the words as they are
abbrev pub CrossedFigures : Outcome → ℕ → List ℕ → List ℕ → Type 0
CrossedFigures o number figures words = Says o (record { number = number; values = figures }) words
