-- Rounding up, down and of aligned requests. Assumes nothing.
use Rattle.std.proofs.Common.{◌≡◌, ℕ, zero, suc, ◌+◌, ◌-◌, ◌*◌, ◌/◌, ◌%◌, ◌^◌, ◌<◌, ◌≤◌, max, leb, ◌⊎◌, sym, refl, ap, ◌∙◌, inl, inr, ⊎_elim, arith, pow_pos, pow_mono, le-leb, leb-true}
use native.Mathlib.Nat.{max_comm, max-eq_right}
use native.Mathlib.Decide.{dec_le}
use lib.Count.{count_leading_zeros, count_trailing_zeros, leading_top, leading_length}
use borrow.Author.Tests.{lt-leb}
use Rattle.blocks.specs.Blocks.{rounded, rounded_aligned, larger, prev_power_of_two, size_of, size_class}
use Rattle.blocks.specs.Laws.{Least, Floor}
use Rattle.std.specs.Prelude.{Option, Some, None}
use Rattle.blocks.proofs.Powers.{exp-le}
use Rattle.blocks.proofs.Searches.{largest_is, first-is, first-none}

-- the size that the table has of a class
pub size_is : (k : ℕ) → k ≤ 32 → size_of k ≡ 2 ^ k
unfolding size_of
size_is k h = rw (le-leb k 32 h, size_of)

-- a class above 32 has no size
pub size_none : (k : ℕ) → 32 < k → size_of k ≡ 0
unfolding size_of
size_none k h = rw (lt-leb k 32 h, size_of) refl

-- the class of a size is its exponent
trailing-power : (w k : ℕ) → k < w → count_trailing_zeros w (2 ^ k) ≡ k
unfolding count_trailing_zeros
trailing-power zero k h = absurd (omega arith)
trailing-power (suc w) zero h = refl
trailing-power (suc w) (suc k) h =
    let x : 2 ^ suc k % 2 ≡ 0 = omega arith in
    let y : 2 ^ suc k / 2 ≡ 2 ^ k = omega arith in
    rw (x, y) (ap suc (trailing-power w k (omega arith)))

pub size-class : (k : ℕ) → k < 64 → size_class (2 ^ k) ≡ k
unfolding size_class
size-class k h = trailing-power 64 k h

-- ---- up: the class that holds a count

pub least-of : (count k : ℕ) → k ≤ 32 → count ≤ 2 ^ k → 2 ^ k ≤ 2 * (count - 1) + 1 → Least count k
least-of count k s h n = record { small = s; holds = h; near = n; least = λ j l. exp-le k j (omega (arith, pow_pos j)) }

pub class-is : (count k : ℕ) → Least count k → rounded count ≡ Some k
unfolding rounded
class-is count k l = first-is 33 0 count k (omega arith) (omega arith) l.holds l.least

pub above-is : (count : ℕ) → 2 ^ 32 < count → rounded count ≡ None
unfolding rounded
above-is count h = first-none 33 0 count (λ j l. let m : 2 ^ j ≤ 2 ^ 32 = pow_mono {i = j} {j = 32} (omega arith) in omega arith)

-- the count of leading zeros gives the least class that holds a count
pub counted : (n : ℕ) → n ≤ 2 ^ 32 → Least n (64 - count_leading_zeros 64 (n - 1))
counted n h =
    let t = leading_length 64 (n - 1) (omega arith) in
    let e : 64 - count_leading_zeros 64 (n - 1) ≡ t.0 = omega arith in
    let l : t.0 ≤ 32 = exp-le t.0 32 (omega arith) in
    rw e (least-of n t.0 l (omega arith) t.3)

-- every count has a least class or is above all of them
pub rounding : (count : ℕ) → ((k : ℕ) × Least count k) ⊎ (2 ^ 32 < count)
rounding count = go (dec_le count (2 ^ 32))
  where
    go : Dec (count ≤ 2 ^ 32) → ((k : ℕ) × Least count k) ⊎ (2 ^ 32 < count)
    go (yes h) = inl (64 - count_leading_zeros 64 (count - 1), counted count h)
    go (no h) = inr (omega arith)

-- what an answer of the rounding says of its count
pub least-class : (count k : ℕ) → rounded count ≡ Some k → Least count k
least-class count k e = ⊎_elim class above (rounding count)
  where
    class : ((j : ℕ) × Least count j) → Least count k
    class (j, l) = let s : j ≡ k = cc (class-is count j l) in rw (sym s) l

    above : 2 ^ 32 < count → Least count k
    above h = let z : ◌≡◌ {A = ℕ} 0 1 = cc (above-is count h) in absurd (omega arith)

pub beyond : (count : ℕ) → rounded count ≡ None → 2 ^ 32 < count
beyond count e = ⊎_elim class (λ h. h) (rounding count)
  where
    class : ((j : ℕ) × Least count j) → 2 ^ 32 < count
    class (j, l) = let z : ◌≡◌ {A = ℕ} 0 1 = cc (class-is count j l) in absurd (omega arith)

-- a power of two rounds to its own class
pub class-of-power : (k : ℕ) → k ≤ 32 → rounded (2 ^ k) ≡ Some k
class-of-power k h = class-is (2 ^ k) k (least-of (2 ^ k) k h (omega arith) (omega (arith, pow_pos k)))

-- ---- aligned requests: the larger of two roundings is the rounding of the larger

pub larger-is : (a b : ℕ) → a ≤ b → larger (rounded a) (rounded b) ≡ rounded b
larger-is a b h = go (rounding a) (rounding b)
  where
    go : ((j : ℕ) × Least a j) ⊎ (2 ^ 32 < a) → ((k : ℕ) × Least b k) ⊎ (2 ^ 32 < b) → larger (rounded a) (rounded b) ≡ rounded b
    go (inl (j, l)) (inl (k, m)) =
        let g : j ≤ k = l.least k (omega (arith, m.holds)) in
        rw (class-is a j l, class-is b k m) (ap Some (max-eq_right g))
    go (inl (j, l)) (inr m) = rw (class-is a j l, above-is b m)
    go (inr l) m = let n : 2 ^ 32 < b = omega arith in rw (above-is a l, above-is b n)

pub larger-comm : (x y : Option ℕ) → larger x y ≡ larger y x
larger-comm (Some j) (Some k) = ap Some (max_comm j k)
larger-comm (Some j) None = refl
larger-comm None (Some k) = refl
larger-comm None None = refl

-- an aligned request is rounded as the larger of its size and its alignment
pub aligned-is : (size align : ℕ) → rounded_aligned size align ≡ rounded (max size align)
unfolding rounded_aligned
aligned-is size align = go (dec_le size align)
  where
    go : Dec (size ≤ align) → rounded_aligned size align ≡ rounded (max size align)
    go (yes h) = larger-is size align h ∙ ap rounded (sym (max-eq_right h))
    go (no h) = let g : align ≤ size = omega arith in larger-comm (rounded size) (rounded align) ∙ larger-is align size g ∙ ap rounded {x = size} {y = max size align} (omega arith)

-- ---- down: the largest power at most a number

pub floor-of : (n k : ℕ) → 2 ^ k ≤ n → n < 2 ^ suc k → Floor n (2 ^ k)
floor-of n k lo hi = record {
  power = record { class = k; is = refl };
  within = lo;
  near = omega arith;
  largest = λ j h. pow_mono (exp-le j k (omega arith));
}

pub prev-is : (n k : ℕ) → k < 64 → 2 ^ k ≤ n → n < 2 ^ suc k → prev_power_of_two n ≡ 2 ^ k
unfolding prev_power_of_two
prev-is n k s lo hi = largest_is (λ p. leb p n) 64 k s (le-leb (2 ^ k) n lo) (λ j l e. exp-le j k (omega (arith, leb-true (2 ^ j) n e)))

pub floor : (n : ℕ) → 0 < n → n < 2 ^ 64 → Floor n (prev_power_of_two n)
floor n p h =
    let t = leading_top 64 n p h in
    rw (prev-is n t.0 (omega arith) t.2 t.3) (floor-of n t.0 t.2 t.3)
