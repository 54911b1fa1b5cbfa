-- `room` meets its contract: behind the place that is kept there is room. Assumes nothing.
use native.Mathlib.Omega.{arith}
use Rattle.texts.proofs.Output.room.Goals as goal

pub returns-clause-made : goal.returns-clause-made
returns-clause-made g c = omega (arith, c.in_ok-self.ensures.made)
