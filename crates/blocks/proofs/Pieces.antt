-- The next piece of a cut: a block that may stand there, as large as the three limits let it be. Assumes nothing.
use Rattle.std.proofs.Common.{◌≡◌, ℕ, ◌%◌, ◌^◌, ◌<◌, ◌≤◌, min, refl, ⊎_elim, eq-zero-or-pos, arith, pow_pos, pow_mono, ne_eqb}
use native.Mathlib.Nat.{min-eq_left, min-eq_right}
use native.Mathlib.Decide.{dec_le}
use Rattle.blocks.specs.Blocks.{size_of, prev_power_of_two, lowest_bit, lowest_or_top, piece_size}
use Rattle.blocks.specs.Laws.{Power, Floor, Lowest, Piece}
use Rattle.blocks.proofs.Powers.{exp-le, multiple, multiple-le}
use Rattle.blocks.proofs.Rounding.{size_is, floor}
use Rattle.blocks.proofs.Bits.{lowest}

power-of : (k : ℕ) → Power (2 ^ k)
power-of k = record { class = k; is = refl }

power_pos : {r : ℕ} → Power r → 0 < r
power_pos {r} p = omega (arith, p.is, pow_pos p.class)

power-min : {a b : ℕ} → Power a → Power b → Power (min a b)
power-min {a} {b} p q = go (dec_le a b)
  where
    go : Dec (a ≤ b) → Power (min a b)
    go (yes h) = rw (min-eq_left h) p
    go (no h) = let g : b ≤ a = omega arith in rw (min-eq_right g) q

-- a power of two that is no larger than one that divides s divides s
divides-below : {p q : ℕ} (s : ℕ) → Power p → Power q → p ≤ q → s % q ≡ 0 → s % p ≡ 0
divides-below {p} {q} s a b h d =
    rw a.is (multiple-le a.class b.class s (exp-le a.class b.class (omega (arith, a.is, b.is, pow_pos b.class))) (rw b.is at d))

-- the least of three sizes, of which the first divides the start and the second fits
piece_of : (top s n l f : ℕ) → Power l → s % l ≡ 0 → ((j : ℕ) → j ≤ top → s % 2 ^ j ≡ 0 → 2 ^ j ≤ l) → Floor n f → Piece top s n (min (min l f) (2 ^ top))
piece_of top s n l f p d most b = record {
  power = r;
  never_0 = power_pos r;
  within = omega (arith, b.within);
  small = omega arith;
  divides = divides-below s r p (omega arith) d;
  largest = λ j t m h. let u : 2 ^ j ≤ 2 ^ top = pow_mono t in omega (arith, most j t m, b.largest j h);
}
  where
    r : Power (min (min l f) (2 ^ top))
    r = power-min (power-min p b.power) (power-of top)

pub piece-at-0 : (top n : ℕ) → piece_size top 0 n ≡ min (min (size_of top) (prev_power_of_two n)) (size_of top)
unfolding piece_size lowest_or_top
piece-at-0 top n = refl

pub piece-above-0 : (top s n : ℕ) → 0 < s → piece_size top s n ≡ min (min (lowest_bit s) (prev_power_of_two n)) (size_of top)
unfolding piece_size lowest_or_top
piece-above-0 top s n p = rw (ne_eqb s 0 (λ z. omega arith), lowest_or_top) refl

pub piece : (top s n : ℕ) → top ≤ 32 → s < 2 ^ 64 → 0 < n → n < 2 ^ 64 → Piece top s n (piece_size top s n)
piece top s n t hs p hn = ⊎_elim at-0 above-0 (eq-zero-or-pos s)
  where
    at-0 : s ≡ 0 → Piece top s n (piece_size top s n)
    at-0 z =
        rw (z, piece-at-0 top n, size_is top t)
        (piece_of top 0 n (2 ^ top) (prev_power_of_two n) (power-of top) (multiple 0 0 (2 ^ top) (omega arith)) (λ j l d. pow_mono l) (floor n p hn))

    above-0 : 0 < s → Piece top s n (piece_size top s n)
    above-0 q =
        let l : Lowest s (lowest_bit s) = lowest s q hs in
        rw (piece-above-0 top s n q, size_is top t)
        (piece_of top s n (lowest_bit s) (prev_power_of_two n) l.power l.divides (λ j m d. l.largest j d) (floor n p hn))
