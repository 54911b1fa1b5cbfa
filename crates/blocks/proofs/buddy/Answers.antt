-- `blocks::buddy` meets its contract. Assumes nothing.
use Rattle.blocks.proofs.Buddies.{flipped}
use Rattle.blocks.proofs.buddy.Goals as goal

pub returns : goal.returns
returns c = rw c.size_of.ensures (flipped c.args.class c.args.start)
