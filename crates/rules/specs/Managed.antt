-- What a list of blocks says of frames: which are managed, granted, spare; and when nothing is left to join.
use Rattle.std.specs.Prelude.{◌≡◌, ◌↔◌, Bool, true, false, ℕ, suc, ◌≤◌, ◌<◌, length}
use mathlib.Core.List.{List, [], ◌∷◌, Memᴰ}
use Rattle.rules.specs.Aligned.{Aligned, Covers, Holds}
use Rattle.rules.specs.Largest.{Covered, Joined}
use Rattle.rules.specs.Rules.{Block, blk, granted, class, start, Sound, is_granted, some, block_at, released}

infix 40 ◌∈◌
abbrev pub ◌∈◌ : Block → List Block → Type 0
b ∈ bs = Memᴰ b bs

-- the list has the block of class k at s as a free one; as a granted one
abbrev pub Free : List Block → ℕ → ℕ → Type 0
Free bs k s = blk false k s ∈ bs

abbrev pub Granted : List Block → ℕ → ℕ → Type 0
Granted bs k s = blk true k s ∈ bs

-- the block of class j at t is that of class k at s
pub record Is (k s j t : ℕ) : Type 0 where
  pub class : j ≡ k
  pub start : t ≡ s

-- the frame x lies in a block of the list
pub record Managed (bs : List Block) (x : ℕ) : Type 0 where
  pub granted : Bool
  pub class : ℕ
  pub start : ℕ
  pub member : blk granted class start ∈ bs
  pub covers : Covers class start x

-- the frame x lies in [s, e)
pub record Within (s e x : ℕ) : Type 0 where
  pub from : s ≤ x
  pub to : x < e

-- "frames added and not granted": these are the frames of the free blocks
pub record Spare (bs : List Block) (x : ℕ) : Type 0 where
  pub managed : Managed bs x
  pub not_granted : Covered (Granted bs) x → ⊥

-- "a frame of that run is not free", where the run is [s, e)
pub record Lacks (bs : List Block) (s e : ℕ) : Type 0 where
  pub frame : ℕ
  pub within : Within s e frame
  pub not_spare : Spare bs frame → ⊥

-- a managed frame lies in [s, e), or next to it
pub record Touches (s e : ℕ) (bs : List Block) : Type 0 where
  pub frame : ℕ
  pub managed : Managed bs frame
  pub from : s ≤ suc frame
  pub to : frame ≤ e

-- a sound list of which nothing is left to join
pub record Kept (top : ℕ) (bs : List Block) : Type 0 where
  pub sound : Sound top 0 bs
  pub joined : Joined top (Free bs)

-- the block at place i is free and holds the aligned run of class c
pub record Offers (c run i : ℕ) (bs : List Block) : Type 0 where
  pub here : i < length bs
  pub free : granted (block_at i bs) ≡ false
  pub aligned : Aligned c run
  pub holds : Holds (class (block_at i bs)) (start (block_at i bs)) c run

-- "The smallest class holding a free block that suffices; in it the lowest start": the free block of class k at s, for a request of class c
pub record Best (bs : List Block) (c k s : ℕ) : Type 0 where
  pub free : Free bs k s
  pub enough : c ≤ k
  pub smallest : (j t : ℕ) → Free bs j t → c ≤ j → k ≤ j
  pub lowest : (t : ℕ) → Free bs k t → s ≤ t

-- two lists manage the same frames, and have the same granted blocks
pub record Same (bs cs : List Block) : Type 0 where
  pub frames : (x : ℕ) → Managed bs x ↔ Managed cs x
  pub granted : (k s : ℕ) → Granted bs k s ↔ Granted cs k s

-- what a change leaves: a sound list that manages the frames F and has the granted blocks G; and nothing to join, if P
pub record Leaves (top : ℕ) (F : ℕ → Type 0) (G : ℕ → ℕ → Type 0) (P : Type 0) (after : List Block) : Type 0 where
  pub sound : Sound top 0 after
  pub frames : (x : ℕ) → Managed after x ↔ F x
  pub granted : (k s : ℕ) → Granted after k s ↔ G k s
  pub joined : P → Joined top (Free after)

-- the granted blocks gs are released one after the other, each accepted, and leave `after`
pub data Releases (top : ℕ) : List Block → List Block → List Block → Type 0 where
  no_more : {bs : List Block} → Releases top [] bs bs
  and_then : {k s : ℕ} {gs bs after : List Block} → some (is_granted k s) bs ≡ true → Releases top gs (released top k s bs) after
      → Releases top (blk true k s ∷ gs) bs after

-- no block stands in the list twice
pub data Distinct : List Block → Type 0 where
  none_twice : Distinct []
  and_once : {b : Block} {bs : List Block} → (b ∈ bs → ⊥) → Distinct bs → Distinct (b ∷ bs)
