-- `texts::waiting::room` meets its contract: behind the place there is room, at the front of the buffer or where the test of it failed. Assumes nothing.
use native.Mathlib.Omega.{arith}
use Rattle.texts.proofs.waiting.room.Goals as goal

pub returns-then-out-at-lt-LONGEST-clause-made : goal.returns-then-out-at-lt-LONGEST-clause-made
returns-then-out-at-lt-LONGEST-clause-made g c = omega arith

pub returns-clause-made : goal.returns-clause-made
returns-clause-made g c = omega arith
