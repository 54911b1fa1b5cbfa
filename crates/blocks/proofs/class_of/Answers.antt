-- `blocks::class_of` meets its contract. Assumes nothing.
use Rattle.blocks.specs.Blocks.{size_class}
use Rattle.blocks.proofs.class_of.Goals as goal

pub returns : goal.returns
unfolding size_class
returns c = c.from.ensures
