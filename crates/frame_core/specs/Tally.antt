-- What the pass of src/tally.rt says of the blocks: the three figures of a summary.
use Rattle.std.specs.Prelude.{◌≡◌, ℕ, true, false, List, ◌==◌}
use Rattle.rules.specs.Rules.{Block, granted, frames_of, largest_free}
use Rattle.table.specs.Layout.{mark_of}

pub record Tallied (bs : List Block) (of_granted of_all largest : ℕ) : Type 0 where
  pub granted_are : of_granted ≡ frames_of granted bs
  pub managed_are : of_all ≡ frames_of (λ b. true) bs
  pub largest_is : largest ≡ largest_free bs

-- the free frames of a record of this size
abbrev pub free_of : ℕ → ℕ → ℕ
free_of w size = elim (mark_of w == 1) [ true ↦ 0 | false ↦ size ]
