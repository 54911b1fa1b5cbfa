-- The premise of demand 3: what it is for two ranges to touch, that it is needed, and that it can be met. Assumes nothing.
use mathlib.Core.Path.{◌≡◌, refl}
use mathlib.Core.Bool.{true, false}
use mathlib.Core.List.Memᴰ
use mathlib.Core.List.{List, [], ◌∷◌}
use Prim.Native.Nat.{ℕ, ◌-◌, ◌<◌}
use native.Mathlib.Omega.{arith}
use native.Mathlib.Decide.{dec_lt}
use lib.Count.{count_trailing_zeros}
use Rattle.blocks.specs.Blocks.{size_of, size_class, first_holding, rounded, largest_power, prev_power_of_two, lowest_bit, lowest_or_top, piece_size}
use Rattle.rules.specs.Rules.{blk, cut_from, cut, added, towards, serving, halved}
use Rattle.table.specs.Layout.{blocks_of}
use Rattle.table.specs.Sound.{headb, recordb, soundb}
use Rattle.frame_add.specs.Adding.{adding}
use Rattle.frame_grant.specs.Granting.{granting}
use Rattle.frame.specs.Outcome.{Call, Add, Alloc, decide, outcome, making}
use Rattle.frame_laws.specs.History.{range, World, Reached, after, fresh, Touch, alone, nor, NoTouch, none, and, Added, FreeFrame}
use Rattle.frame_laws.specs.Demand3.{Near}
use Rattle.frame_laws.specs.Demand3 as say

-- ---- two ranges touch where frames of theirs are the same, or neighbours

pub touch_is_near : say.TouchIsNear
touch_is_near s e a b p q = (λ t. near t (dec_lt s a) (dec_lt a e) (dec_lt s b), λ n. record { left = omega (arith, n.here, n.there, n.low, n.high); right = omega (arith, n.here, n.there, n.low, n.high) })
  where
    near : Touch s e a b → Dec (s < a) → Dec (a < e) → Dec (s < b) → Near s e a b
    near t (yes x) (yes y) z = record { one = a; other = a; here = omega arith; there = omega arith; low = omega arith; high = omega arith }
    near t (yes x) (no y) z = record { one = e - 1; other = a; here = omega arith; there = omega arith; low = omega (arith, t.left, t.right); high = omega (arith, t.left, t.right) }
    near t (no x) y (yes z) = record { one = s; other = s; here = omega arith; there = omega arith; low = omega arith; high = omega arith }
    near t (no x) y (no z) = record { one = s; other = b - 1; here = omega arith; there = omega arith; low = omega (arith, t.left, t.right); high = omega (arith, t.left, t.right) }

-- ---- it is needed

-- [0, 1), then [1, 2), on a table of three words
abbrev lent : List ℕ
lent = 0 ∷ 0 ∷ 0 ∷ []

abbrev calls : List Call
calls = Add 0 1 ∷ Add 1 2 ∷ []

abbrev touching : World
touching = after calls (fresh 33 lent)

two_blocks : blocks_of touching.words ≡ blk false 0 0 ∷ blk false 0 1 ∷ []
unfolding count_trailing_zeros size_of size_class largest_power prev_power_of_two lowest_bit lowest_or_top piece_size cut_from cut added headb recordb soundb adding decide outcome making
two_blocks = refl

happened : touching.history ≡ record { ranges = range 1 2 ∷ range 0 1 ∷ []; grants = [] }
unfolding count_trailing_zeros size_of size_class largest_power prev_power_of_two lowest_bit lowest_or_top piece_size cut_from cut added headb recordb soundb adding decide outcome making
happened = refl

reached : Reached 33 touching
unfolding making
reached = record { lent = lent; made = refl; calls = calls; is = refl }

both-free : (x : ℕ) → x < 2 → FreeFrame touching.history x
both-free x h = rw happened (record { added = in-range (dec_lt x 1); not_granted = λ c. Memᴰ.not-nil c.member })
  where
    in-range : Dec (x < 1) → Added x (range 1 2 ∷ range 0 1 ∷ [])
    in-range (yes l) = record { start = 0; end = 1; member = Memᴰ.tail (Memᴰ.head refl); within = omega arith }
    in-range (no l) = record { start = 1; end = 2; member = Memᴰ.head refl; within = omega arith }

not-apart : NoTouch touching.history.ranges → ⊥
not-apart t = adjacent (rw happened at t)
  where
    adjacent : NoTouch (range 1 2 ∷ range 0 1 ∷ []) → ⊥
    adjacent (and (nor n more) rest) = n (record { left = omega arith; right = omega arith })

-- 5. The block of class 1 at 0 is wholly free, so that the free block of class 0 there is no largest one
pub premise_is_needed : say.PremiseIsNeeded
premise_is_needed = (
  33,
  touching,
  reached,
  0,
  0,
  not-apart,
  rw two_blocks (Memᴰ.head refl),
  λ l. l.no_larger 1 0 (omega arith) (record { multiple = refl }) (omega arith) (omega arith) (λ x c. both-free x (omega arith)),
)

-- ---- it can be met: [2, 3), then [0, 1), and a grant, on words that were not zero

abbrev other-words : List ℕ
other-words = 7 ∷ 7 ∷ 7 ∷ []

abbrev other-calls : List Call
other-calls = Add 2 3 ∷ Add 0 1 ∷ Alloc 1 ∷ []

abbrev apart : World
apart = after other-calls (fresh 33 other-words)

noted-apart : apart.history ≡ record { ranges = range 0 1 ∷ range 2 3 ∷ []; grants = blk true 0 0 ∷ [] }
unfolding count_trailing_zeros size_of size_class first_holding rounded largest_power prev_power_of_two lowest_bit lowest_or_top piece_size cut_from cut added towards serving halved headb recordb soundb adding granting decide outcome making
noted-apart = refl

apart-reached : Reached 33 apart
unfolding making
apart-reached = record { lent = other-words; made = refl; calls = other-calls; is = refl }

pub premise_is_met : say.PremiseIsMet
premise_is_met = (
  apart,
  apart-reached,
  rw noted-apart (and {s = 0} {e = 1} (nor {a = 2} {b = 3} (λ t. omega (arith, t.right)) alone) (and alone none)),
  noted-apart,
)
