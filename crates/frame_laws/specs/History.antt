-- What has happened to a frame table since it was made: the words, the ranges added, and the blocks granted and not released since.
use Rattle.std.specs.Prelude.{◌≡◌, true, false, ℕ, ◌≤◌, eqb, ltb, get_or}
use mathlib.Core.List.{List, [], ◌∷◌, Memᴰ}
use Rattle.blocks.specs.Blocks.{rounded, rounded_aligned}
use Rattle.rules.specs.Rules.{Block, blk, is_granted, without}
use Rattle.rules.specs.Largest.{Covered}
use Rattle.rules.specs.Managed.{Granted, Within}
use Rattle.frame_core.specs.Deciding.{wanted}
use Rattle.frame_core.specs.Carried.{Reply}
use Rattle.frame.specs.Outcome.{Call, Add, Alloc, AllocAligned, AllocAt, Dealloc, DeallocAligned, Summary, outcome, making}

-- the frames [s, e)
pub data Range : Type 0 where
  range : ℕ → ℕ → Range

-- the accepted non-empty ranges, and the granted blocks, the latest first
pub record History : Type 0 where
  pub ranges : List Range
  pub grants : List Block

abbrev pub granted : ℕ → ℕ → History → History
granted k s h = record { ranges = h.ranges; grants = blk true k s ∷ h.grants }

abbrev pub released : ℕ → ℕ → History → History
released k s h = record { ranges = h.ranges; grants = without (is_granted k s) h.grants }

-- after an accepted call, which answered the value v
abbrev pub accepted : Call → ℕ → History → History
accepted (Add s e) v h = elim (ltb s e) [ true ↦ record { ranges = range s e ∷ h.ranges; grants = h.grants } | false ↦ h ]
accepted (Alloc n) v h = granted (wanted (rounded n)) v h
accepted (AllocAligned n a) v h = granted (wanted (rounded_aligned n a)) v h
accepted (AllocAt s n) v h = granted (wanted (rounded n)) v h
accepted (Dealloc s n) v h = released (wanted (rounded n)) s h
accepted (DeallocAligned s n a) v h = released (wanted (rounded_aligned n a)) s h
accepted Summary v h = h

-- after any call with its reply: a refused call is no part of what happened
abbrev pub noted : Call → Reply → History → History
noted c r h = elim (eqb r.number 0) [ true ↦ accepted c (get_or r.values 0 0) h | false ↦ h ]

-- ---- the calls, one after the other

pub record World : Type 0 where
  pub words : List ℕ
  pub history : History

abbrev pub step : Call → World → World
step c w = record { words = (outcome c w.words).words; history = noted c (outcome c w.words).reply w.history }

abbrev pub after : List Call → World → World
after [] w = w
after (c ∷ cs) w = after cs (step c w)

-- "a freshly made frame table", over any words that are lent
abbrev pub fresh : ℕ → List ℕ → World
fresh order lent = record { words = (making order lent).words; history = record { ranges = []; grants = [] } }

-- "any calls on a freshly made frame table that nobody else writes", refused calls included
pub record Reached (order : ℕ) (w : World) : Type 0 where
  pub lent : List ℕ
  pub made : (making order lent).reply.number ≡ 0
  pub calls : List Call
  pub is : w ≡ after calls (fresh order lent)

-- ---- "where no two accepted non-empty ranges touch"

-- [s, e) and [a, b) have a frame in common, or stand next to each other
pub record Touch (s e a b : ℕ) : Type 0 where
  pub left : s ≤ b
  pub right : a ≤ e

pub data TouchesNone (s e : ℕ) : List Range → Type 0 where
  alone : TouchesNone s e []
  nor : {a b : ℕ} {rs : List Range} → (Touch s e a b → ⊥) → TouchesNone s e rs → TouchesNone s e (range a b ∷ rs)

pub data NoTouch : List Range → Type 0 where
  none : NoTouch []
  and : {s e : ℕ} {rs : List Range} → TouchesNone s e rs → NoTouch rs → NoTouch (range s e ∷ rs)

-- ---- "frames added and not granted"

-- the frame x lies in one of the ranges
pub record Added (x : ℕ) (rs : List Range) : Type 0 where
  pub start : ℕ
  pub end : ℕ
  pub member : Memᴰ (range start end) rs
  pub within : Within start end x

pub record FreeFrame (h : History) (x : ℕ) : Type 0 where
  pub added : Added x h.ranges
  pub not_granted : Covered (Granted h.grants) x → ⊥
