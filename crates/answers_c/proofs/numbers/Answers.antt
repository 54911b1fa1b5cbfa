-- `answers_c::numbers` meets its contract. Assumes nothing.
use mathlib.Core.Path.{refl}
use Rattle.answers_c.proofs.numbers.Goals as goal

pub returns : goal.returns
returns c = rw (c.number-number.ensures, c.value-value.ensures) refl
