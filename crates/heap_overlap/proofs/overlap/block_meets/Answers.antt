-- `heap_overlap::overlap::block_meets` meets its contract, by where the block starts. Assumes nothing.
use Rattle.heap_overlap.proofs.Overlaps.{above-misses, below-meets, inside-meets}
use Rattle.heap_overlap.proofs.overlap.block_meets.Goals as goal

pub returns-then-end-address : goal.returns-then-end-address
returns-then-end-address c = let s = c.args in above-misses s.address s.size s.start s.end c.if-end-address.true

pub returns-then-address-start : goal.returns-then-address-start
returns-then-address-start c = let s = c.args in below-meets s.address s.size s.start s.end c.if-end-address.false c.if-address-start.true

pub returns : goal.returns
returns c = let s = c.args in inside-meets s.address s.size s.start s.end c.if-end-address.false c.if-address-start.false
