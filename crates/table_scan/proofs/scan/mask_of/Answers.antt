-- `table_scan::scan::mask_of` meets its contract. Assumes nothing.
use Prim.Native.Nat.{◌/◌, ◌%◌}
use mathlib.Core.Path.{◌≡◌}
use native.Mathlib.Omega.{arith}
use lib.Pow.{pow_pos}
use Rattle.table.specs.Layout.{class_of}
use Rattle.table.proofs.Words.{bit}
use Rattle.table_scan.proofs.scan.mask_of.Goals as goal

pub overflow_sub-result : goal.overflow_sub-result
overflow_sub-result c =
    let k = c.args.w / 0x200_0000_0000_0000 % 32 in
    omega (arith, bit k 32 (omega arith), pow_pos k)

pub returns : goal.returns
returns c =
    let k = c.args.w / 0x200_0000_0000_0000 % 32 in
    let q : c.args.w / 0x200_0000_0000_0000 % 32 ≡ class_of c.args.w % 32 = omega arith in
    rw (bit k 32 (omega arith), q)
