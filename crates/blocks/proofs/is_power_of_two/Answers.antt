-- `blocks::is_power_of_two` meets its contract. Assumes nothing.
use Rattle.std.proofs.Common.{◌≡◌, false, refl, arith}
use Rattle.blocks.specs.Blocks.{is_power_of_two, largest_power}
use Rattle.blocks.proofs.Bits.{masked}
use Rattle.blocks.proofs.is_power_of_two.Goals as goal

at-0 : false ≡ is_power_of_two 0
unfolding is_power_of_two largest_power
at-0 = refl

pub returns-then-num-eq0 : goal.returns-then-num-eq0
returns-then-num-eq0 c = rw c.if-num-eq0.true at-0

pub returns : goal.returns
returns c = masked c.args.num (omega arith) c.ranges.num.fits
