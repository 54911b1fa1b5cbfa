-- Demand 3, stated over the words that the calls of `frame` are proved to leave. Each statement is proved in proofs/.
use Rattle.std.specs.Prelude.{◌≡◌, ◌↔◌, true, List, [], ◌∷◌, ℕ, suc, ◌-◌, ◌≤◌, ◌<◌, get_or}
use Rattle.blocks.specs.Blocks.{rounded, rounded_aligned, is_power_of_two}
use Rattle.rules.specs.Aligned.{Aligned, Covers}
use Rattle.rules.specs.Largest.{Whole, Largest}
use Rattle.rules.specs.Rules.{Block, blk}
use Rattle.rules.specs.Managed.{◌∈◌, Free, Distinct, Kept, Touches, Within}
use Rattle.table.specs.Layout.{order_of, blocks_of}
use Rattle.table.specs.Sound.{soundb}
use Rattle.frame_core.specs.Deciding.{wanted}
use Rattle.frame_core.specs.Carried.{Reply}
use Rattle.frame.specs.Outcome.{Call, Add, Alloc, AllocAligned, AllocAt, Dealloc, DeallocAligned, outcome, making}
use Rattle.frame.specs.Told.{replies, last}
use Rattle.frame_laws.specs.History.{World, Reached, range, Touch, NoTouch, FreeFrame}

-- number 0 and a value
abbrev pub done : ℕ → Reply
done v = record { number = 0; values = v ∷ [] }

-- ---- which calls ask for a block of class k, and which give one back

-- a request for any block of class k
pub data Requests : Call → ℕ → Type 0 where
  alloc : (n : ℕ) → Requests (Alloc n) (wanted (rounded n))
  alloc_aligned : (n a : ℕ) → is_power_of_two a ≡ true → Requests (AllocAligned n a) (wanted (rounded_aligned n a))

-- a grant of a block of class k, by each of the three calls
pub data Grants : Call → ℕ → Type 0 where
  any : {c : Call} {k : ℕ} → Requests c k → Grants c k
  alloc_at : (s n : ℕ) → Grants (AllocAt s n) (wanted (rounded n))

-- a release of the block of class k at s, by each of the two calls
pub data Releases : Call → ℕ → ℕ → Type 0 where
  dealloc : (s n : ℕ) → Releases (Dealloc s n) (wanted (rounded n)) s
  dealloc_aligned : (s n a : ℕ) → is_power_of_two a ≡ true → Releases (DeallocAligned s n a) (wanted (rounded_aligned n a)) s

-- calls that release these blocks, one each, in this order
pub data ReleaseAll : List Call → List Block → Type 0 where
  no_more : ReleaseAll [] []
  and_then : {c : Call} {cs : List Call} {k s : ℕ} {bs : List Block} → Releases c k s → ReleaseAll cs bs → ReleaseAll (c ∷ cs) (blk true k s ∷ bs)

-- every reply is number 0 and the value 0
pub data AllDone : List Reply → Type 0 where
  no_more : AllDone []
  and_then : {rs : List Reply} → AllDone rs → AllDone (done 0 ∷ rs)

-- a frame of the run of class k at s is not free
pub record NotFree (F : ℕ → Type 0) (k s : ℕ) : Type 0 where
  pub frame : ℕ
  pub covers : Covers k s frame
  pub not_free : F frame → ⊥

-- ---- the statements

-- 1. "The free blocks are exactly the largest aligned blocks, up to the top size, of frames added and not granted."
abbrev pub FreeBlocksAreLargest : Type 0
FreeBlocksAreLargest = (order : ℕ) (w : World) → Reached order w → NoTouch w.history.ranges → (k s : ℕ)
    → Free (blocks_of w.words) k s ↔ Largest (order - 1) (FreeFrame w.history) k s

-- 2. "a grant followed at once by its release restores every word of the table"
abbrev pub ReleaseRestores : Type 0
ReleaseRestores = (order : ℕ) (w : World) → Reached order w → NoTouch w.history.ranges → (grant release : Call) (k v : ℕ) → Grants grant k → Releases release k v
    → (outcome grant w.words).reply ≡ done v
    → outcome release (outcome grant w.words).words ≡ record { reply = done 0; words = w.words }

-- 3. "releasing several grants, each once, ends in the same words in every order", and each is accepted
abbrev pub AnyOrder : Type 0
AnyOrder = (order : ℕ) (w : World) → Reached order w → NoTouch w.history.ranges → (some others : List Call) (bs cs : List Block) → ReleaseAll some bs
    → ReleaseAll others cs → Distinct bs → Distinct cs → ((b : Block) → b ∈ bs ↔ b ∈ cs) → ((b : Block) → b ∈ bs → b ∈ w.history.grants)
    → AllDone (replies some w.words) × (last some w.words ≡ last others w.words)

-- 4. "a request that no earlier check refuses, rounded to at most the top block, is refused for want of a block exactly when no wholly free run of
-- its rounded size stands at a multiple of that size"
abbrev pub RefusedForWant : Type 0
RefusedForWant = (order : ℕ) (w : World) → Reached order w → NoTouch w.history.ranges → (request : Call) (k : ℕ) → Requests request k → k < order
    → ((outcome request w.words).reply.number ≡ 9) ↔ ((s : ℕ) → Aligned k s → Whole (FreeFrame w.history) k s → ⊥)

-- "or, with the start given and aligned, when a frame of that run is not free"
abbrev pub RefusedAtStart : Type 0
RefusedAtStart = (order : ℕ) (w : World) → Reached order w → NoTouch w.history.ranges → (s n : ℕ) → wanted (rounded n) < order → Aligned (wanted (rounded n)) s
    → ((outcome (AllocAt s n) w.words).reply.number ≡ 9) ↔ NotFree (FreeFrame w.history) (wanted (rounded n)) s

-- 5. The premise is needed: two ranges that touch, and a free block that is no largest one
abbrev pub PremiseIsNeeded : Type 0
PremiseIsNeeded = (order : ℕ) × (w : World) × Reached order w × (k : ℕ) × (s : ℕ) × (NoTouch w.history.ranges → ⊥) × Free (blocks_of w.words) k s
    × (Largest (order - 1) (FreeFrame w.history) k s → ⊥)

-- It says what "touch" says: a frame of the one is a frame of the other, or next to one; and it can be met, with a grant that is held
pub record Near (s e a b : ℕ) : Type 0 where
  pub one : ℕ
  pub other : ℕ
  pub here : Within s e one
  pub there : Within a b other
  pub low : one ≤ suc other
  pub high : other ≤ suc one

abbrev pub TouchIsNear : Type 0
TouchIsNear = (s e a b : ℕ) → s < e → a < b → Touch s e a b ↔ Near s e a b

abbrev pub PremiseIsMet : Type 0
PremiseIsMet = (w : World) × Reached 33 w × NoTouch w.history.ranges
    × (w.history ≡ record { ranges = range 0 1 ∷ range 2 3 ∷ []; grants = blk true 0 0 ∷ [] })

-- 6. Soundness is kept by every call, with no premise; a table that was made is sound, and is never refused with 3; a refused making changes no word
abbrev pub SoundnessKept : Type 0
SoundnessKept = (c : Call) (words : List ℕ) → soundb words ≡ true → soundb (outcome c words).words ≡ true

abbrev pub MadeIsSound : Type 0
MadeIsSound = (order : ℕ) (lent : List ℕ) → (making order lent).reply.number ≡ 0 → soundb (making order lent).words ≡ true

abbrev pub RefusedMaking : Type 0
RefusedMaking = (order : ℕ) (lent : List ℕ) → ((making order lent).reply.number ≡ 0 → ⊥) → (making order lent).words ≡ lent

abbrev pub NeverBadState : Type 0
NeverBadState = (order : ℕ) (w : World) → Reached order w → (c : Call) → (outcome c w.words).reply.number ≡ 3 → ⊥

-- One call by itself, with the local premise: nothing is left to join after it, if an added range touches no managed frame at that moment
abbrev pub NothingLeftToJoin : Type 0
NothingLeftToJoin = (c : Call) (words : List ℕ) → soundb words ≡ true → Kept (order_of (get_or words 0 0) - 1) (blocks_of words)
    → ((s e : ℕ) → c ≡ Add s e → s < e → Touches s e (blocks_of words) → ⊥)
    → Kept (order_of (get_or words 0 0) - 1) (blocks_of (outcome c words).words)

-- all of them
pub record Demand3 : Type 0 where
  pub free_blocks_are_largest : FreeBlocksAreLargest
  pub release_restores : ReleaseRestores
  pub any_order : AnyOrder
  pub refused_for_want : RefusedForWant
  pub refused_at_start : RefusedAtStart
  pub premise_is_needed : PremiseIsNeeded
  pub touch_is_near : TouchIsNear
  pub premise_is_met : PremiseIsMet
  pub soundness_kept : SoundnessKept
  pub made_is_sound : MadeIsSound
  pub refused_making : RefusedMaking
  pub never_bad_state : NeverBadState
  pub nothing_left_to_join : NothingLeftToJoin
