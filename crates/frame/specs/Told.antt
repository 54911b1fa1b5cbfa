-- What the promises of the calls say: the answer and every lent word afterwards are the outcome's.
use Rattle.std.specs.Prelude.{List, [], ◌∷◌, ℕ, Result, Ok, Err}
use Rattle.answers.specs.declared.Refusal.{Refusal}
use Rattle.answers.specs.Paper.{Answer, number_of}
use Rattle.frame_core.specs.declared.Figures.{Figures}
use Rattle.frame.specs.Outcome.{Call, Summary, outcome, making}
use Rattle.frame_core.specs.Carried.{Reply, reply_of, Says}

-- the promise of a call: from the words before to the words after, with the answer a
abbrev pub Told : Call → List ℕ → Answer → List ℕ → Type 0
Told call before a after = Says (outcome call before) (reply_of a) after

-- of the making of a table, whose words before are any
abbrev pub Made : ℕ → List ℕ → Answer → List ℕ → Type 0
Made order before a after = Says (making order before) (reply_of a) after

-- what a summary answers: its figures, or a refusal
abbrev pub Report : Type 0
Report = Result Figures Refusal

-- the same on paper: its number, and its three figures
abbrev pub reply_of_report : Report → Reply
reply_of_report (Ok f) = record { number = 0; values = f.granted ∷ f.managed ∷ f.largest ∷ [] }
reply_of_report (Err r) = record { number = number_of r; values = 0 ∷ 0 ∷ 0 ∷ [] }

-- of a summary, which is lent the words to read alone
abbrev pub Summed : List ℕ → Report → Type 0
Summed words s = Says (outcome Summary words) (reply_of_report s) words

-- ---- runs of calls: what the definition replies, one call after the other, and the words at the end

abbrev pub replies : List Call → List ℕ → List Reply
replies [] ws = []
replies (c ∷ cs) ws = (outcome c ws).reply ∷ replies cs (outcome c ws).words

abbrev pub last : List Call → List ℕ → List ℕ
last [] ws = ws
last (c ∷ cs) ws = last cs (outcome c ws).words

-- a chain of calls that each meet the promise
pub data Chain : List Call → List ℕ → List Reply → List ℕ → Type 0 where
  done : {ws : List ℕ} → Chain [] ws [] ws
  call : {c : Call} {cs : List Call} {before middle after : List ℕ} {r : Reply} {rs : List Reply} → Says (outcome c before) r middle → Chain cs middle rs after
      → Chain (c ∷ cs) before (r ∷ rs) after
