-- The buddy of a block: its neighbour in the pair. Assumes nothing.
use Rattle.std.proofs.Common.{◌≡◌, ℕ, suc, ◌+◌, ◌-◌, ◌*◌, ◌/◌, ◌%◌, ◌^◌, ◌<◌, ◌≤◌, Bool, true, false, eqb, sym, refl, ap, ◌∙◌, ⊎_elim, eq-zero-or-pos, pow-suc, arith, pow-add, eq-eqb, ne_eqb}
use native.Mathlib.Decide.{dec_le}
use lib.Bits.{bit_and, bit_xor, and_high, xor_add_and, xor_zero_r}
use Rattle.blocks.specs.Blocks.{size_of, buddy_of}
use Rattle.blocks.specs.Laws.{Buddies, upper, lower}
use Rattle.blocks.proofs.Powers.{quotient, multiple}
use Rattle.blocks.proofs.Rounding.{size_is, size_none}

-- bit k, in place
bit_at : (s k : ℕ) → bit_and s (2 ^ k) ≡ (s / 2 ^ k % 2) * 2 ^ k
bit_at s k =
    let e : 2 ^ k ≡ 2 ^ (1 + k) - 2 ^ k = omega (arith, pow-add 2 1 k) in
    ap (bit_and s) e ∙ and_high s 1 k

-- bit k flipped: more by 2 ^ k where it was 0, less where it was 1
xor-even : (k s : ℕ) → s / 2 ^ k % 2 ≡ 0 → bit_xor s (2 ^ k) ≡ s + 2 ^ k
xor-even k s e =
    let z : bit_and s (2 ^ k) ≡ 0 * 2 ^ k = rw e at (bit_at s k) in
    omega (arith, xor_add_and s (2 ^ k))

xor-odd : (k s : ℕ) → s / 2 ^ k % 2 ≡ 1 → bit_xor s (2 ^ k) + 2 ^ k ≡ s
xor-odd k s e =
    let z : bit_and s (2 ^ k) ≡ 1 * 2 ^ k = rw e at (bit_at s k) in
    omega (arith, xor_add_and s (2 ^ k))

pub buddy-even : (k s : ℕ) → k ≤ 32 → s / 2 ^ k % 2 ≡ 0 → buddy_of k s ≡ s + 2 ^ k
unfolding buddy_of
buddy-even k s h e = rw (size_is k h, eq-eqb (s / 2 ^ k % 2) 0 e, buddy_of) (omega (arith, size_is k h))

pub buddy-odd : (k s : ℕ) → k ≤ 32 → s / 2 ^ k % 2 ≡ 1 → buddy_of k s ≡ s - 2 ^ k
unfolding buddy_of
buddy-odd k s h e = rw (size_is k h, ne_eqb (s / 2 ^ k % 2) 0 (λ z. omega arith), buddy_of) (omega (arith, size_is k h))

-- a class above 32 has no size, and no buddy
pub buddy-none : (k s : ℕ) → 32 < k → buddy_of k s ≡ s
unfolding buddy_of
buddy-none k s h = go (eqb (s / size_of k % 2) 0) refl
  where
    z : size_of k ≡ 0
    z = size_none k h

    go : (b : Bool) → eqb (s / size_of k % 2) 0 ≡ b → buddy_of k s ≡ s
    go true e = rw (e, buddy_of) (omega (arith, z))
    go false e = rw (e, buddy_of) (omega (arith, z))

-- the buddy is the start with bit k flipped, at every class
pub flipped : (k s : ℕ) → bit_xor s (size_of k) ≡ buddy_of k s
flipped k s = go (dec_le k 32)
  where
    go : Dec (k ≤ 32) → bit_xor s (size_of k) ≡ buddy_of k s
    go (yes h) =
        ap (bit_xor s) (size_is k h)
        ∙ ⊎_elim (λ e. xor-even k s e ∙ sym (buddy-even k s h e))
        (λ o. let e : s / 2 ^ k % 2 ≡ 1 = omega arith in omega (arith, xor-odd k s e, buddy-odd k s h e))
        (eq-zero-or-pos (s / 2 ^ k % 2))
    go (no h) = let g : 32 < k = omega arith in ap (bit_xor s) (size_none k g) ∙ xor_zero_r s ∙ sym (buddy-none k s g)

-- a block and its buddy are the halves of one block of the next class
pub pair : (k s : ℕ) → k ≤ 32 → s % 2 ^ k ≡ 0 → Buddies k s (buddy_of k s)
pair k s h m = ⊎_elim even odd (eq-zero-or-pos (s / 2 ^ k % 2))
  where
    -- twice the half of the quotient, in place
    low : (b q : ℕ) → s / 2 ^ k ≡ 2 * (s / 2 ^ k / 2) + q → b + q * 2 ^ k ≡ s → b % 2 ^ suc k ≡ 0
    low b q e d =
        let w : s / 2 ^ k * 2 ^ k ≡ (2 * (s / 2 ^ k / 2) + q) * 2 ^ k = ap (λ (x : ℕ). x * 2 ^ k) e in
        multiple b (s / 2 ^ k / 2) (2 ^ suc k) (rw pow-suc (omega (arith, quotient s (2 ^ k) m)))

    even : s / 2 ^ k % 2 ≡ 0 → Buddies k s (buddy_of k s)
    even e = upper (low s 0 (omega arith) (omega arith)) (buddy-even k s h e)

    odd : 0 < s / 2 ^ k % 2 → Buddies k s (buddy_of k s)
    odd o =
        let e : s / 2 ^ k % 2 ≡ 1 = omega arith in
        let w : s / 2 ^ k * 2 ^ k ≡ (2 * (s / 2 ^ k / 2) + 1) * 2 ^ k = ap (λ (x : ℕ). x * 2 ^ k) {x = s / 2 ^ k} {y = 2 * (s / 2 ^ k / 2) + 1} (omega arith) in
        let b : buddy_of k s + 2 ^ k ≡ s = omega (arith, buddy-odd k s h e, quotient s (2 ^ k) m) in
        lower (low (buddy_of k s) 1 (omega arith) (omega arith)) (sym b)
