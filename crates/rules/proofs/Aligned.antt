-- Two aligned blocks are nested or disjoint; halves; buddies. Assumes nothing.
use mathlib.Core.Path.{◌≡◌}
use mathlib.Core.Logic.{◌⊎◌, ◌↔◌, inl, inr, ⊎_elim}
use Prim.Native.Nat.{ℕ, suc, ◌+◌, ◌-◌, ◌*◌, ◌/◌, ◌^◌, ◌≤◌, ◌<◌, min, max}
use native.Mathlib.Nat.{mul-le-mul_right, pow-suc, lt_of_not-le}
use native.Mathlib.Omega.{arith}
use native.Mathlib.Decide.{dec_le}
use lib.Pow.{pow_pos, pow-lt}
use Rattle.blocks.specs.Laws.{Buddies, upper, lower}
use Rattle.blocks.proofs.Powers.{quotient, multiple, multiple-le}
use Rattle.rules.specs.Aligned.{Aligned, Covers, Holds, Meets}

-- ---- multiples

pub aligned-of : (k s q : ℕ) → s ≡ q * 2 ^ k → Aligned k s
aligned-of k s q e = record { multiple = multiple s q (2 ^ k) e }

-- from one multiple of 2 ^ k to a later one it is at least 2 ^ k
pub next_start : {k s t : ℕ} → Aligned k s → Aligned k t → s < t → s + 2 ^ k ≤ t
next_start {k} {s} {t} a b h =
    let e : s ≡ s / 2 ^ k * 2 ^ k = quotient s (2 ^ k) a.multiple in
    let f : t ≡ t / 2 ^ k * 2 ^ k = quotient t (2 ^ k) b.multiple in
    let q : s / 2 ^ k < t / 2 ^ k = lt_of_not-le (λ (g : t / 2 ^ k ≤ s / 2 ^ k). absurd (omega (arith, mul-le-mul_right (2 ^ k) g))) in
    omega (arith, mul-le-mul_right (2 ^ k) q)

-- where a block of a class may start, one of each lower class may
pub aligned-le : {k j s : ℕ} → k ≤ j → Aligned j s → Aligned k s
aligned-le {k} {j} {s} h a = record { multiple = multiple-le k j s h a.multiple }

-- where a block ends, the next of its class may start
pub aligned-end : {k s : ℕ} → Aligned k s → Aligned k (s + 2 ^ k)
aligned-end {k} {s} a = aligned-of k (s + 2 ^ k) (suc (s / 2 ^ k)) (omega (arith, quotient s (2 ^ k) a.multiple))

-- ---- nested or disjoint

-- two aligned blocks with a frame in common are nested, the one of the lower class in the other
pub nested : {j t k s : ℕ} → Aligned j t → Aligned k s → k ≤ j → Meets j t k s → Holds j t k s
nested {j} {t} {k} {s} a b h m = record { low = low (dec_le t s); high = next_start b (aligned-le h (aligned-end a)) m.left }
  where
    low : Dec (t ≤ s) → t ≤ s
    low (yes l) = l
    low (no l) = omega (arith, next_start b (aligned-le h a) (omega arith))

-- a block that holds another is of no lower class
pub holds-class : {j t k s : ℕ} → Holds j t k s → k ≤ j
holds-class {j} {t} {k} {s} h = go (dec_le k j)
  where
    go : Dec (k ≤ j) → k ≤ j
    go (yes r) = r
    go (no r) = absurd (let x : 2 ^ j < 2 ^ k = pow-lt {i = j} {j = k} (omega arith) in omega arith)

-- blocks that cover one frame meet; what a block covers, its holder covers; a block covers its start
pub meets_at : {j t k s x : ℕ} → Covers j t x → Covers k s x → Meets j t k s
meets_at a b = omega arith

pub held-covers : {j t k s x : ℕ} → Holds j t k s → Covers k s x → Covers j t x
held-covers h a = omega arith

pub covers-start : (k s : ℕ) → Covers k s s
covers-start k s = omega (arith, pow_pos k)

pub holds-meets : {j t k s : ℕ} → Holds j t k s → Meets j t k s
holds-meets {j} {t} {k} {s} h = omega (arith, pow_pos k)

-- `Meets` and `Holds` say of frames what they say of starts and ends
pub meets-frame : {j t k s : ℕ} → Meets j t k s → (x : ℕ) × (Covers j t x × Covers k s x)
meets-frame {j} {t} {k} {s} m = (max s t, (omega (arith, pow_pos j), omega (arith, pow_pos k)))

pub holds_of : {j t k s : ℕ} → ((x : ℕ) → Covers k s x → Covers j t x) → Holds j t k s
holds_of {j} {t} {k} {s} f =
    let a : Covers j t s = f s (covers-start k s) in
    let b : Covers j t (s + 2 ^ k - 1) = f (s + 2 ^ k - 1) (omega (arith, pow_pos k)) in
    omega (arith, pow_pos k)

-- ---- halves

pub lower-half : {k s : ℕ} → Aligned (suc k) s → Aligned k s
lower-half {k} h = let l : k ≤ suc k = omega arith in aligned-le l h

pub upper-half : {k s : ℕ} → Aligned (suc k) s → Aligned k (s + 2 ^ k)
upper-half h = aligned-end (lower-half h)

-- a block holds its halves
pub holds-lower : (k s : ℕ) → Holds (suc k) s k s
holds-lower k s = omega (arith, pow-suc 2 k)

pub holds-upper : (k s : ℕ) → Holds (suc k) s k (s + 2 ^ k)
holds-upper k s = omega (arith, pow-suc 2 k)

-- each frame of a block is in its lower or its upper half, and in one of them only
pub halves-cover : {k s x : ℕ} → Covers (suc k) s x → Covers k s x ⊎ Covers k (s + 2 ^ k) x
halves-cover {k} {s} {x} c = go (dec_le (s + 2 ^ k) x)
  where
    go : Dec (s + 2 ^ k ≤ x) → Covers k s x ⊎ Covers k (s + 2 ^ k) x
    go (yes h) = inr (omega arith)
    go (no h) = inl (omega arith)

pub halves-apart : (k s : ℕ) → Meets k s k (s + 2 ^ k) → ⊥
halves-apart k s m = omega arith

-- ---- buddies

pub buddies-comm : {k s b : ℕ} → Buddies k s b → Buddies k b s
buddies-comm (upper a e) = lower a e
buddies-comm (lower a e) = upper a e

-- no block starts both where the upper and where the lower half of a larger one does, so a block has one buddy
not-both : {k s b : ℕ} → Aligned (suc k) s → Aligned (suc k) b → s ≡ b + 2 ^ k → ⊥
not-both {k} {s} {b} a c e = let l : b < s = omega (arith, pow_pos k) in omega (arith, next_start c a l, pow_pos k)

pub one-buddy : {k s b c : ℕ} → Buddies k s b → Buddies k s c → b ≡ c
one-buddy {k} (upper a e) (upper b f) = omega arith
one-buddy {k} (upper a e) (lower b f) = absurd (not-both (record { multiple = a }) (record { multiple = b }) f)
one-buddy {k} (lower a e) (upper b f) = absurd (not-both (record { multiple = b }) (record { multiple = a }) e)
one-buddy {k} (lower a e) (lower b f) = omega arith

-- the block that a pair makes: where it may start, and what it covers
pub pair-aligned : {k s b : ℕ} → Buddies k s b → Aligned (suc k) (min s b)
pair-aligned {k} {s} {b} (upper a e) = let m : min s b ≡ s = omega arith in rw m (record { multiple = a })
pair-aligned {k} {s} {b} (lower a e) = let m : min s b ≡ b = omega arith in rw m (record { multiple = a })

pub pair-covers : {k s b x : ℕ} → Buddies k s b → Covers (suc k) (min s b) x ↔ (Covers k s x ⊎ Covers k b x)
pair-covers {k} {s} {b} {x} p = (to p, from p)
  where
    to : Buddies k s b → Covers (suc k) (min s b) x → Covers k s x ⊎ Covers k b x
    to (upper a e) c = let d : Covers (suc k) s x = omega arith in ⊎_elim inl (λ h. inr (omega arith)) (halves-cover d)
    to (lower a e) c = let d : Covers (suc k) b x = omega arith in ⊎_elim inr (λ h. inl (omega arith)) (halves-cover d)

    from : Buddies k s b → Covers k s x ⊎ Covers k b x → Covers (suc k) (min s b) x
    from (upper a e) (inl c) = omega arith
    from (upper a e) (inr c) = omega arith
    from (lower a e) (inl c) = omega arith
    from (lower a e) (inr c) = omega arith

pub never-itself : {k s : ℕ} → Buddies k s s → ⊥
never-itself {k} (upper a e) = omega (arith, pow_pos k)
never-itself {k} (lower a e) = omega (arith, pow_pos k)
