-- `blocks::lowest_bit` meets its contract. Assumes nothing.
use Rattle.std.proofs.Common.{arith}
use Rattle.blocks.proofs.Bits.{mask}
use Rattle.blocks.proofs.lowest_bit.Goals as goal

pub returns : goal.returns
returns c = mask c.args.start c.wrapping_neg.result c.ranges.start.fits (omega arith) c.wrapping_neg.ensures
