-- `blocks::prev_power_of_two` meets its contract. Assumes nothing.
use Rattle.std.proofs.Common.{◌≡◌, ℕ, ◌-◌, ◌*◌, ◌%◌, ◌^◌, ◌<◌, ◌≤◌, sym, refl, arith}
use lib.Count.{count_leading_zeros, leading_top}
use Rattle.blocks.specs.Blocks.{prev_power_of_two, largest_power}
use Rattle.blocks.proofs.Powers.{one_shl}
use Rattle.blocks.proofs.Rounding.{prev-is}
use Rattle.blocks.proofs.prev_power_of_two.Goals as goal

at-0 : 0 ≡ prev_power_of_two 0
unfolding prev_power_of_two largest_power
at-0 = refl

zeros-le : (n : ℕ) → 0 < n → n < 2 ^ 64 → count_leading_zeros 64 n ≤ 63
zeros-le n p h = let t = leading_top 64 n p h in omega arith

shifted : (n : ℕ) → 0 < n → n < 2 ^ 64 → (1 * 2 ^ (63 - count_leading_zeros 64 n)) % 2 ^ 64 ≡ prev_power_of_two n
shifted n p h =
    let t = leading_top 64 n p h in
    let e : 63 - count_leading_zeros 64 n ≡ t.0 = omega arith in
    rw (e, one_shl t.0 (omega arith)) (sym (prev-is n t.0 (omega arith) t.2 t.3))

pub returns-then-num-eq0 : goal.returns-then-num-eq0
returns-then-num-eq0 c = rw c.if-num-eq0.true at-0

pub overflow_sub-result : goal.overflow_sub-result
overflow_sub-result c = zeros-le c.args.num (omega arith) c.ranges.num.fits

pub returns : goal.returns
returns c = shifted c.args.num (omega arith) c.ranges.num.fits
