-- `blocks::piece` meets its contract. Assumes nothing.
use Rattle.std.proofs.Common.{◌≡◌, ℕ, ◌<◌, min, arith}
use Rattle.blocks.specs.Blocks.{size_of, prev_power_of_two, lowest_bit, piece_size}
use Rattle.blocks.proofs.Pieces.{piece-at-0, piece-above-0}
use Rattle.blocks.proofs.piece.Goals as goal

-- the least of the limits, as the code takes them
least-at-0 : (top left : ℕ) {r p m : ℕ} → r ≡ min p m → p ≡ prev_power_of_two left → m ≡ size_of top → r ≡ piece_size top 0 left
least-at-0 top left a b c = omega (arith, piece-at-0 top left)

least-above-0 : (top start left : ℕ) {r l w p m : ℕ} → 0 < start → r ≡ min l w → l ≡ lowest_bit start → w ≡ min p m → p ≡ prev_power_of_two left → m ≡ size_of top
    → r ≡ piece_size top start left
least-above-0 top start left h a b c d e = omega (arith, piece-above-0 top start left h)

pub returns-then-start-eq0 : goal.returns-then-start-eq0
returns-then-start-eq0 c =
    let top = c.args.top in
    let left = c.args.left in
    rw c.if-start-eq0.true (least-at-0 top left c.min-within.ensures c.prev_power_of_two.ensures c.size_of.ensures)

pub returns : goal.returns
returns c =
    let top = c.args.top in
    let start = c.args.start in
    let left = c.args.left in
    least-above-0 top start left (omega arith) c.min.ensures c.lowest_bit-low.ensures c.min-within.ensures
    c.prev_power_of_two.ensures c.size_of.ensures
