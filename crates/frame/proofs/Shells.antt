-- From the decision over blocks to the outcome over words: the soundness test comes first. Assumes nothing.
use mathlib.Core.Path.{◌≡◌, refl}
use mathlib.Core.Bool.{true, false}
use mathlib.Core.List.{List, [], ◌∷◌}
use mathlib.Core.Logic.{◌⊎◌, inl, inr}
use Prim.Native.Nat.{ℕ, ◌-◌, ◌^◌, ◌≤◌, ◌<◌, max}
use native.Mathlib.Omega.{arith}
use lib.ListN.{length, get_or}
use Rattle.std.specs.Prelude.{Err}
use Rattle.answers.specs.declared.Refusal.TheVariants.{BadState, BadAlign}
use Rattle.blocks.specs.Blocks.{rounded, rounded_aligned, is_power_of_two}
use Rattle.blocks.specs.Laws.{Least}
use Rattle.blocks.proofs.Rounding.{rounding, class-is, above-is, aligned-is}
use Rattle.table.specs.Layout.{order_of, blocks_of}
use Rattle.table.specs.Sound.{soundb}
use Rattle.frame.specs.Outcome.{Call, Add, Alloc, AllocAligned, AllocAt, Dealloc, DeallocAligned, zeros, decide, outcome}
use Rattle.frame_core.specs.Deciding.{Decision, wanted}
use Rattle.frame_core.specs.Carried.{Reply, carried, Says, reply_of}
use Rattle.frame_add.specs.Adding.{adding}
use Rattle.frame_grant.specs.Granting.{granting, granting_at}
use Rattle.frame_release.specs.Releasing.{releasing}

-- a class that a count is rounded to is one of the table's, or stands for None
pub small : (n : ℕ) → wanted (rounded n) ≤ 33
small n = go (rounding n)
  where
    go : ((k : ℕ) × Least n k) ⊎ (2 ^ 32 < n) → wanted (rounded n) ≤ 33
    go (inl (k, l)) = rw (class-is n k l) (omega (arith, l.small))
    go (inr h) = rw (above-is n h) (omega arith)

pub small-aligned : (n a : ℕ) → wanted (rounded_aligned n a) ≤ 33
small-aligned n a = rw (aligned-is n a) (small (max n a))

module _ (ws : List ℕ) where
  abbrev decided : Decision → Reply → List ℕ → Type 0
  decided d r after = Says (carried (0 ∷ []) ws d) r after

  -- a table that is not sound
  pub unsound : (call : Call) → zeros call ≡ 0 ∷ [] → soundb ws ≡ false → Says (outcome call ws) (reply_of (Err BadState)) ws
  unfolding outcome
  unsound call z e = rw (e, outcome, z) (record { reply = refl; words = refl })

  module _ (sound : soundb ws ≡ true) where
    -- an alignment that is no power of two
    pub bad-align : (n a : ℕ) → is_power_of_two a ≡ false → Says (outcome (AllocAligned n a) ws) (reply_of (Err BadAlign)) ws
    unfolding outcome decide
    bad-align n a p = rw (sound, outcome, p) (record { reply = refl; words = refl })

    pub bad-align-release : (s n a : ℕ) → is_power_of_two a ≡ false → Says (outcome (DeallocAligned s n a) ws) (reply_of (Err BadAlign)) ws
    unfolding outcome decide
    bad-align-release s n a p = rw (sound, outcome, p) (record { reply = refl; words = refl })

  module _ (sound : soundb ws ≡ true) {r : Reply} {after : List ℕ} where
    pub added : (s e : ℕ) → decided (adding s e (order_of (get_or ws 0 0)) (length ws - 1) (blocks_of ws)) r after → Says (outcome (Add s e) ws) r after
    unfolding outcome decide
    added s e w = rw (sound, outcome) w

    pub granted : (n : ℕ) → decided (granting (wanted (rounded n)) (order_of (get_or ws 0 0)) (length ws - 1) (blocks_of ws)) r after → Says (outcome (Alloc n) ws) r after
    unfolding outcome decide
    granted n w = rw (sound, outcome) w

    pub granted-at : (s n : ℕ) → decided (granting_at s (wanted (rounded n)) (order_of (get_or ws 0 0)) (length ws - 1) (blocks_of ws)) r after
        → Says (outcome (AllocAt s n) ws) r after
    unfolding outcome decide
    granted-at s n w = rw (sound, outcome) w

    pub released : (s n : ℕ) → decided (releasing s (wanted (rounded n)) (order_of (get_or ws 0 0)) (blocks_of ws)) r after → Says (outcome (Dealloc s n) ws) r after
    unfolding outcome decide
    released s n w = rw (sound, outcome) w

    -- an alignment that is a power of two
    pub granted-aligned : (n a : ℕ) → is_power_of_two a ≡ true → decided (granting (wanted (rounded_aligned n a)) (order_of (get_or ws 0 0)) (length ws - 1) (blocks_of ws)) r after
        → Says (outcome (AllocAligned n a) ws) r after
    unfolding outcome decide
    granted-aligned n a p w = rw (sound, outcome, p) w

    pub released-aligned : (s n a : ℕ) → is_power_of_two a ≡ true → decided (releasing s (wanted (rounded_aligned n a)) (order_of (get_or ws 0 0)) (blocks_of ws)) r after
        → Says (outcome (DeallocAligned s n a) ws) r after
    unfolding outcome decide
    released-aligned s n a p w = rw (sound, outcome, p) w
