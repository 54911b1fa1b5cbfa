-- The forms in which the laws of Blocks.antt are stated; each names the law and what it is proved for. (The fields `near` say nothing
-- that the others do not: they say it so that `omega` reads it.)
use Rattle.std.specs.Prelude.{◌≡◌, ℕ, suc, ◌+◌, ◌-◌, ◌*◌, ◌%◌, ◌^◌, ◌<◌, ◌≤◌}

-- r is a power of two
pub record Power (r : ℕ) : Type 0 where
  pub class : ℕ
  pub is : r ≡ 2 ^ class

-- k is the least class that holds the count, and one of the 33. `least-class`: where `rounded count` is `Class k`
pub record Least (count k : ℕ) : Type 0 where
  pub small : k ≤ 32
  pub holds : count ≤ 2 ^ k
  pub near : 2 ^ k ≤ 2 * (count - 1) + 1
  pub least : (j : ℕ) → count ≤ 2 ^ j → k ≤ j

-- r is the largest power of two that is at most n. `floor`: `prev_power_of_two n`, for n from 1 to 2 ^ 64 - 1
pub record Floor (n r : ℕ) : Type 0 where
  pub power : Power r
  pub within : r ≤ n
  pub near : n < 2 * r
  pub largest : (j : ℕ) → 2 ^ j ≤ n → 2 ^ j ≤ r

-- r is the largest power of two that divides s. `lowest`: `lowest_bit s`, for s from 1 to 2 ^ 64 - 1
pub record Lowest (s r : ℕ) : Type 0 where
  pub power : Power r
  pub within : r ≤ s
  pub divides : s % r ≡ 0
  pub largest : (j : ℕ) → s % 2 ^ j ≡ 0 → 2 ^ j ≤ r

-- the blocks of class k at s and at b are the halves of one block of class k + 1: a pair of buddies. `pair`: `buddy_of k s`, for k up to 32 and
-- s a multiple of 2 ^ k
pub data Buddies (k s b : ℕ) : Type 0 where
  upper : s % 2 ^ suc k ≡ 0 → b ≡ s + 2 ^ k → Buddies k s b
  lower : b % 2 ^ suc k ≡ 0 → s ≡ b + 2 ^ k → Buddies k s b

-- r is the size of a block that may stand at s, fits into n frames and is no larger than the top block; no larger one does and is. `piece`:
-- `piece_size top s n`, for top up to 32, s below 2 ^ 64, and n from 1 to 2 ^ 64 - 1
pub record Piece (top s n r : ℕ) : Type 0 where
  pub power : Power r
  pub never_0 : 0 < r
  pub within : r ≤ n
  pub small : r ≤ 2 ^ top
  pub divides : s % r ≡ 0
  pub largest : (j : ℕ) → j ≤ top → s % 2 ^ j ≡ 0 → 2 ^ j ≤ n → 2 ^ j ≤ r
