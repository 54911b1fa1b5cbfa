-- `blocks::round` meets its contract. Assumes nothing.
use Rattle.std.proofs.Common.{◌≡◌, ◌-◌, sym, refl, arith}
use lib.Count.{count_leading_zeros, leading_le}
use Rattle.blocks.specs.Blocks.{rounded, first_holding}
use Rattle.std.specs.Prelude.{Some}
use Rattle.blocks.proofs.Rounding.{size_is, counted, class-is, above-is}
use Rattle.blocks.proofs.round.Goals as goal

at-0 : Some 0 ≡ rounded 0
unfolding rounded first_holding
at-0 = refl

pub returns-then-size_of-count : goal.returns-then-size_of-count
returns-then-size_of-count c = sym (above-is c.args.count (omega (arith, c.size_of.ensures, size_is 32 (omega arith))))

pub returns-then-count-eq0 : goal.returns-then-count-eq0
returns-then-count-eq0 c = rw c.if-count-eq0.true at-0

pub overflow_sub-count-2 : goal.overflow_sub-count-2
overflow_sub-count-2 c = leading_le 64 (c.args.count - 1)

pub returns : goal.returns
returns c =
    let n = c.args.count in
    rw c.from.ensures (sym (class-is n (64 - count_leading_zeros 64 (n - 1)) (counted n (omega (arith, c.size_of.ensures, size_is 32 (omega arith))))))
