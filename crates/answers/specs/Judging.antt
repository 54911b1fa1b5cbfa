-- What a call decides, from docs/RULES.md, "Refusal numbers": its checks in their order, and what it does where none holds.
use Rattle.std.specs.Prelude.{Bool, true, false, List, [], ◌∷◌}
use Rattle.answers.specs.declared.Refusal.{Refusal}

-- a refusal, or what the call answers and what it leaves
pub data Decision (Value After : Type 0) : Type 0 where
  refused : Refusal → Decision Value After
  done : Value → After → Decision Value After

-- "Checks run in the order of the table": the first test that holds gives its refusal
pub data Check : Type 0 where
  refuse : Bool → Refusal → Check

abbrev pub judge : {Value After : Type 0} → List Check → Decision Value After → Decision Value After
judge [] d = d
judge (refuse test r ∷ cs) d = elim test [ true ↦ refused r | false ↦ judge cs d ]
