-- What the functions of src/release.rt ask and say. Internal to the release.
use Rattle.std.specs.Prelude.{◌≡◌, true, false, List, [], ◌∷◌, ◌++◌, ℕ, ◌+◌, ◌-◌, ◌^◌, ◌≤◌, ◌<◌, get_or, take, drop}
use Rattle.answers.specs.Judging.{done}
use Rattle.rules.specs.Rules.{Block, blk, granted, class, start, block_at, released}
use Rattle.table.specs.Layout.{order_of, count_of, blocks_of}
use Rattle.table.specs.Sound.{soundb}
use Rattle.frame_core.specs.Deciding.{Decision}

-- the block at place i of a sound table is granted
pub record Releasable (ws : List ℕ) (i : ℕ) : Type 0 where
  pub sound : soundb ws ≡ true
  pub here : i < count_of (get_or ws 0 0)
  pub marked : granted (block_at i (blocks_of ws)) ≡ true

-- the blocks after the release of the block at place i
abbrev pub after_release : List ℕ → ℕ → List Block
after_release ws i = released (order_of (get_or ws 0 0) - 1) (class (block_at i (blocks_of ws))) (start (block_at i (blocks_of ws))) (blocks_of ws)

abbrev pub released_at : List ℕ → ℕ → Decision
released_at ws i = done (0 ∷ []) (after_release ws i)

-- the span [from, to) about i gives way to the free block of class k at s
pub record Joins (ws : List ℕ) (i from to k s : ℕ) : Type 0 where
  pub low : from ≤ i
  pub high : i < to
  pub within : to ≤ count_of (get_or ws 0 0)
  pub small : k ≤ 32
  pub ends : s + 2 ^ k ≤ 2 ^ 32
  pub after : after_release ws i ≡ take from (blocks_of ws) ++ ((blk false k s ∷ []) ++ drop to (blocks_of ws))
