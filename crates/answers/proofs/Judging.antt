-- Checks one by one: the first that holds refuses, one that does not is passed over. Assumes nothing.
use mathlib.Core.Path.{◌≡◌}
use mathlib.Core.Bool.{Bool, true, false}
use mathlib.Core.List.{List, ◌∷◌}
use Rattle.answers.specs.declared.Refusal.{Refusal}
use Rattle.answers.specs.Judging.{Decision, refused, Check, refuse, judge}

module _ {Value After : Type 0} (t : Bool) (r : Refusal) (cs : List Check) (d : Decision Value After) where
  pub judged-yes : t ≡ true → judge (refuse t r ∷ cs) d ≡ refused r
  judged-yes e = rw e

  pub judged-no : t ≡ false → judge (refuse t r ∷ cs) d ≡ judge cs d
  judged-no e = rw e
