-- Aligned blocks, from docs/RULES.md: "A block of class k starts at a multiple of 2^k and covers 2^k frames."
use Rattle.std.specs.Prelude.{◌≡◌, ℕ, ◌+◌, ◌%◌, ◌^◌, ◌≤◌, ◌<◌}

-- a block of class k may start at s
pub record Aligned (k s : ℕ) : Type 0 where
  pub multiple : s % 2 ^ k ≡ 0

-- the block of class k at s covers the frame x
pub record Covers (k s x : ℕ) : Type 0 where
  pub from : s ≤ x
  pub to : x < s + 2 ^ k

-- the block of class j at t holds that of class k at s: it covers all of its frames
pub record Holds (j t k s : ℕ) : Type 0 where
  pub low : t ≤ s
  pub high : s + 2 ^ k ≤ t + 2 ^ j

-- the block of class j at t and that of class k at s have a frame in common
pub record Meets (j t k s : ℕ) : Type 0 where
  pub left : s < t + 2 ^ j
  pub right : t < s + 2 ^ k
