-- `blocks::round_aligned` meets its contract. Assumes nothing.
use Rattle.std.proofs.Common.{◌≡◌, ℕ, max, sym, ap, ◌∙◌, arith}
use Rattle.blocks.specs.Blocks.{rounded, rounded_aligned}
use Rattle.blocks.proofs.Rounding.{aligned-is}
use Rattle.blocks.proofs.round_aligned.Goals as goal

-- whichever is the larger
by : (size align n : ℕ) → n ≡ max size align → rounded n ≡ rounded_aligned size align
by size align n e = ap rounded e ∙ sym (aligned-is size align)

pub returns-then-size-align : goal.returns-then-size-align
returns-then-size-align c = c.round.ensures ∙ by c.args.size c.args.align c.args.align (omega arith)

pub returns : goal.returns
returns c = c.round-2.ensures ∙ by c.args.size c.args.align c.args.size (omega arith)
