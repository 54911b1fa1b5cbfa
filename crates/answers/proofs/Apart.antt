-- No two answers are the same on paper: number and value tell which answer it was. Assumes nothing.
use mathlib.Core.Path.{◌≡◌, refl, sym, ap, ◌∙◌}
use mathlib.Core.Bool.{true, false}
use mathlib.Core.List.{List, [], ◌∷◌}
use Prim.Native.Nat.{ℕ, ◌-◌}
use lib.Dec.{eqb}
use lib.ListN.{get_or}
use Rattle.answers.specs.Paper.{Answer, Paper, paper, number_of}
use Rattle.std.specs.Prelude.{Ok, Err}
use Rattle.answers.specs.declared.Refusal.{Refusal}
use Rattle.answers.specs.declared.Refusal.TheVariants.{BadOrder, BadSize, BadState, BadRange, NullStart, Overlap, BadAlign, Misaligned, NoBlock, NotGranted, NoRoom}

-- the refusals in the order of their numbers, from 1
abbrev refusals : List Refusal
refusals =
    BadOrder ∷ BadSize ∷ BadState ∷ BadRange ∷ NullStart ∷ Overlap ∷ BadAlign ∷ Misaligned ∷ NoBlock ∷ NotGranted ∷ NoRoom ∷ []

-- the answer that a number and a value stand for: the way back from paper
abbrev pub answer_of : ℕ → ℕ → Answer
answer_of number value = elim (eqb number 0) [ true ↦ Ok value | false ↦ Err (get_or refusals (number - 1) BadOrder) ]

refusal-back : (r : Refusal) → answer_of (number_of r) 0 ≡ Err r
refusal-back BadOrder = refl
refusal-back BadSize = refl
refusal-back BadState = refl
refusal-back BadRange = refl
refusal-back NullStart = refl
refusal-back Overlap = refl
refusal-back BadAlign = refl
refusal-back Misaligned = refl
refusal-back NoBlock = refl
refusal-back NotGranted = refl
refusal-back NoRoom = refl

pub back : (a : Answer) → answer_of (paper a).number (paper a).value ≡ a
back (Ok v) = refl
back (Err r) = refusal-back r

pub tells-apart : (a b : Answer) → paper a ≡ paper b → a ≡ b
tells-apart a b e = sym (back a) ∙ ap (λ (p : Paper). answer_of p.number p.value) e ∙ back b
