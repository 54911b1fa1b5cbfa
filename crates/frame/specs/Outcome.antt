-- What each call on a frame table answers and leaves, from docs/RULES.md, "The frame table" and "Refusal numbers".
use Rattle.std.specs.Prelude.{true, false, not, ◌||◌, List, [], ◌∷◌, ℕ, ◌-◌, ltb, length}
use Rattle.answers.specs.declared.Refusal.TheVariants.{BadOrder, BadSize, BadState, BadAlign}
use Rattle.answers.specs.Judging.{refused, done, refuse, judge}
use Rattle.blocks.specs.Blocks.{rounded, rounded_aligned, is_power_of_two}
use Rattle.rules.specs.Rules.{Block, granted, frames_of, largest_free}
use Rattle.table.specs.Layout.{state_of, words_of}
use Rattle.table.specs.Sound.{soundb}
use Rattle.frame_core.specs.Deciding.{Decision, wanted}
use Rattle.frame_core.specs.Carried.{Outcome, carried}
use Rattle.frame_add.specs.Adding.{adding}
use Rattle.frame_grant.specs.Granting.{granting, granting_at}
use Rattle.frame_release.specs.Releasing.{releasing}

-- the calls on an existing table; `insert` is `add_frame`
pub data Call : Type 0 where
  Add : ℕ → ℕ → Call
  Alloc : ℕ → Call
  AllocAligned : ℕ → ℕ → Call
  AllocAt : ℕ → ℕ → Call
  Dealloc : ℕ → ℕ → Call
  DeallocAligned : ℕ → ℕ → ℕ → Call
  Summary : Call

-- an aligned call refuses a bad alignment first
abbrev pub aligned_to : ℕ → Decision → Decision
aligned_to a d = judge (refuse (not (is_power_of_two a)) BadAlign ∷ []) d

-- ---- each call, on a sound table of the ORDER, the capacity and the blocks
unfoldable pub decide : Call → ℕ → ℕ → List Block → Decision
decide (Add s e) order capacity bs = adding s e order capacity bs
decide (Alloc n) order capacity bs = granting (wanted (rounded n)) order capacity bs
decide (AllocAligned n a) order capacity bs = aligned_to a (granting (wanted (rounded_aligned n a)) order capacity bs)
decide (AllocAt s n) order capacity bs = granting_at s (wanted (rounded n)) order capacity bs
decide (Dealloc s n) order capacity bs = releasing s (wanted (rounded n)) order bs
decide (DeallocAligned s n a) order capacity bs = aligned_to a (releasing s (wanted (rounded_aligned n a)) order bs)
decide Summary order capacity bs = done (frames_of granted bs ∷ frames_of (λ b. true) bs ∷ largest_free bs ∷ []) bs

-- ---- over words: what the call answers, and the words afterwards

-- "Each returns its number and 0 (every figure of a summary 0)"
abbrev pub zeros : Call → List ℕ
zeros Summary = 0 ∷ 0 ∷ 0 ∷ []
zeros (Add s e) = 0 ∷ []
zeros (Alloc n) = 0 ∷ []
zeros (AllocAligned n a) = 0 ∷ []
zeros (AllocAt s n) = 0 ∷ []
zeros (Dealloc s n) = 0 ∷ []
zeros (DeallocAligned s n a) = 0 ∷ []

-- "Every call on an existing table tests this first."
unfoldable pub outcome : Call → List ℕ → Outcome
outcome call ws = elim (soundb ws) [
  | true ↦ carried (zeros call) ws (decide call (state_of ws).order (length ws - 1) (state_of ws).blocks)
  | false ↦ carried (zeros call) ws (refused BadState)
]

-- ---- making: "Making a table writes word 0 with no records and zeroes the rest", over any words
unfoldable pub making : ℕ → List ℕ → Outcome
making order ws =
    made (judge (refuse (ltb order 1 || ltb 33 order) BadOrder ∷ refuse (ltb (length ws) 1 || ltb 65536 (length ws)) BadSize ∷ []) (done (0 ∷ []) []))
  where
    made : Decision → Outcome
    made (refused r) = carried (0 ∷ []) ws (refused r)
    made (done vs bs) = record { reply = record { number = 0; values = vs }; words = words_of (length ws) (record { order = order; blocks = bs }) }
