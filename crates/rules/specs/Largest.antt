-- Sets of blocks, as a predicate of class and start, and the largest aligned blocks of a set of frames.
use Rattle.std.specs.Prelude.{◌≡◌, ℕ, ◌≤◌, ◌<◌}
use Rattle.rules.specs.Aligned.{Aligned, Covers, Holds, Meets}
use Rattle.blocks.specs.Laws.{Buddies}

-- the frame x lies in a block of B
pub record Covered (B : ℕ → ℕ → Type 0) (x : ℕ) : Type 0 where
  pub class : ℕ
  pub start : ℕ
  pub member : B class start
  pub covers : Covers class start x

-- every frame of the block of class k at s is in F
abbrev pub Whole : (ℕ → Type 0) → ℕ → ℕ → Type 0
Whole F k s = (x : ℕ) → Covers k s x → F x

-- the block of class k at s is a largest aligned block, up to class top, of the frames F
pub record Largest (top : ℕ) (F : ℕ → Type 0) (k s : ℕ) : Type 0 where
  pub small : k ≤ top
  pub aligned : Aligned k s
  pub whole : Whole F k s
  pub no_larger : (j t : ℕ) → j ≤ top → Aligned j t → Holds j t k s → k < j → Whole F j t → ⊥

-- the blocks of B are aligned, of classes up to top, and no two have a frame in common
pub record Tidy (top : ℕ) (B : ℕ → ℕ → Type 0) : Type 0 where
  pub small : {k s : ℕ} → B k s → k ≤ top
  pub aligned : {k s : ℕ} → B k s → Aligned k s
  pub apart : {j t k s : ℕ} → B j t → B k s → Meets j t k s → (j ≡ k) × (t ≡ s)

-- no two blocks of B are buddies of a class below top: nothing is left to join
pub record Joined (top : ℕ) (B : ℕ → ℕ → Type 0) : Type 0 where
  pub never : {k s b : ℕ} → k < top → Buddies k s b → B k s → B k b → ⊥

-- a block of B that holds the one of class k at s
pub record Held (B : ℕ → ℕ → Type 0) (k s : ℕ) : Type 0 where
  pub class : ℕ
  pub start : ℕ
  pub member : B class start
  pub holds : Holds class start k s
