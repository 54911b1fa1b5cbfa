-- `blocks_c::lavikety_blocks_round_aligned` meets its contract. Assumes nothing.
use mathlib.Core.Path.{ap, ◌∙◌}
use Rattle.blocks_c.specs.Numbers.{class_number}
use Rattle.blocks_c.proofs.lavikety_blocks_round_aligned.Goals as goal

pub returns : goal.returns
returns c = c.class_number.ensures ∙ ap class_number c.round_aligned.ensures
