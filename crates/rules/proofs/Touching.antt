-- Where two ranges touch, the free blocks need not be the largest: no law can do without the premise on ranges. Assumes nothing.
use mathlib.Core.Path.{◌≡◌, refl}
use mathlib.Core.Logic.{◌⊎◌, inl, inr}
use mathlib.Core.Bool.{true, false}
use mathlib.Core.List.Memᴰ
use mathlib.Core.List.{List, [], ◌∷◌}
use Prim.Native.Nat.{ℕ, ◌<◌}
use native.Mathlib.Omega.{arith}
use native.Mathlib.Decide.{dec_lt}
use lib.Count.{count_trailing_zeros}
use Rattle.blocks.specs.Blocks.{piece_size, lowest_or_top, lowest_bit, prev_power_of_two, largest_power, size_of, size_class}
use Rattle.rules.specs.Aligned.{Aligned, Covers}
use Rattle.rules.specs.Largest.{Largest}
use Rattle.rules.specs.Rules.{Block, blk, cut_from, cut, added}
use Rattle.rules.specs.Managed.{◌∈◌, Free, Managed, Spare}
use Rattle.rules.proofs.Members.{marks-differ}
use Rattle.rules.proofs.Putting.{managed-by}

-- [0, 1), then [1, 2): two free blocks of one frame
abbrev pub touching : List Block
touching = added 32 1 2 (added 32 0 1 [])

pub not-joined : touching ≡ blk false 0 0 ∷ blk false 0 1 ∷ []
unfolding count_trailing_zeros size_of size_class largest_power prev_power_of_two lowest_bit lowest_or_top piece_size cut_from cut added
not-joined = refl

both-spare : (x : ℕ) → x < 2 → Spare touching x
both-spare x h = rw not-joined (record { managed = one (dec_lt x 1); not_granted = λ g. free (Memᴰ.cases_cons g.member) })
  where
    one : Dec (x < 1) → Managed (blk false 0 0 ∷ blk false 0 1 ∷ []) x
    one (yes l) = let c : Covers 0 0 x = omega arith in managed-by (Memᴰ.head refl) c
    one (no l) = let c : Covers 0 1 x = omega arith in managed-by (Memᴰ.tail (Memᴰ.head refl)) c

    free : {k s : ℕ} → (blk true k s ≡ blk false 0 0) ⊎ (blk true k s ∈ (blk false 0 1 ∷ [])) → ⊥
    free (inl e) = marks-differ e
    free (inr m) = marks-differ (Memᴰ.eq_of_singleton m)

-- the block of class 1 at 0 is wholly spare, so that the free block of class 0 there is no largest one
pub not-largest : Free touching 0 0 × (Largest 32 (Spare touching) 0 0 → ⊥)
not-largest = (rw not-joined (Memᴰ.head refl), λ w. w.no_larger 1 0 (omega arith) pair (omega arith) (omega arith) (λ x c. both-spare x (omega arith)))
  where
    pair : Aligned 1 0
    pair = record { multiple = refl }
