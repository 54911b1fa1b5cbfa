-- An answer as C gets it, from docs/RULES.md, "Refusal numbers": the number and the value of the answer on paper.
use Rattle.answers.specs.Paper.{Answer}
use Rattle.answers.specs.Paper.{paper}
use Rattle.answers_c.specs.declared.CAnswer.{CAnswer}

abbrev pub numbers_of : Answer → CAnswer
numbers_of a = record { number = (paper a).number; value = (paper a).value }
