-- The lowest set bit and the test of a power of two: what masks compute. Assumes nothing.
use Rattle.std.proofs.Common.{◌≡◌, ℕ, zero, suc, ◌+◌, ◌-◌, ◌*◌, ◌/◌, ◌%◌, ◌^◌, ◌<◌, ◌≤◌, true, false, eqb, sym, refl, ap, ◌∙◌, ap₂, ⊎_elim, true≢false, le_of_suc-le-suc, eq-zero-or-pos, pow-suc, lt_of_not-le, div-add-mod', arith, pow_pos, pow_mono, pow-add, lt-ltb, eq-eqb, ne_eqb, eqb-true}
use native.Mathlib.Nat.{eq_of_mul-eq-mul_right, mod_self}
use lib.Pow.{ones_lt}
use lib.Bits.{bit_and, and_step, and_block, and_self, and_zero_r}
use Rattle.blocks.specs.Blocks.{lowest_bit, is_power_of_two, largest_power}
use Rattle.blocks.specs.Laws.{Power, Lowest}
use Rattle.blocks.proofs.Powers.{exp-le, exp-lt, multiple}
use Rattle.blocks.proofs.Searches.{largest_is, largest-none}

-- two numbers that make 2 ^ j - 1 have no digit in common
no-common : (j a b : ℕ) → a + b + 1 ≡ 2 ^ j → bit_and a b ≡ 0
no-common zero a b e = let z : a ≡ 0 = omega arith in rw z
no-common (suc j) a b e =
    let ih : bit_and (a / 2) (b / 2) ≡ 0 = no-common j (a / 2) (b / 2) (omega arith) in
    and_step a b ∙ omega arith

-- s is an odd multiple of a power of two; where s and t make a power of two, that is what they have in common
pub record Odd (s t : ℕ) : Type 0 where
  pub exp : ℕ
  pub odd : ℕ
  pub whole : s ≡ (2 * odd + 1) * 2 ^ exp
  pub common : bit_and t s ≡ 2 ^ exp

odd_even : (s t : ℕ) → s % 2 ≡ 0 → t % 2 ≡ 0 → Odd (s / 2) (t / 2) → Odd s t
odd_even s t z y ih =
    let w : s / 2 ≡ (2 * ih.odd + 1) * 2 ^ ih.exp = ih.whole in
    let g : bit_and (t / 2) (s / 2) ≡ 2 ^ ih.exp = ih.common in
    record { exp = suc ih.exp; odd = ih.odd; whole = rw pow-suc (omega arith); common = and_step t s ∙ omega arith }

odd-odd : (k s t : ℕ) → 0 < s % 2 → s + t ≡ 2 ^ suc k → Odd s t
odd-odd k s t z e = record {
  exp = 0;
  odd = s / 2;
  whole = omega arith;
  common = and_step t s ∙ omega (arith, no-common k (t / 2) (s / 2) (omega arith));
}

pub odd_part : (k s t : ℕ) → 0 < s → 0 < t → s + t ≡ 2 ^ k → Odd s t
odd_part zero s t p q e = absurd (omega arith)
odd_part (suc k) s t p q e =
    ⊎_elim (λ z. odd_even s t z (omega arith) (odd_part k (s / 2) (t / 2) (omega arith) (omega arith) (omega arith))) (λ z. odd-odd k s t z e)
    (eq-zero-or-pos (s % 2))

-- no higher power divides an odd multiple of 2 ^ k
odd-largest : (s k m j : ℕ) → s ≡ (2 * m + 1) * 2 ^ k → s % 2 ^ j ≡ 0 → j ≤ k
odd-largest s k m j w d = le_of_suc-le-suc (lt_of_not-le less)
  where
    less : suc k ≤ j → ⊥
    less l =
        let i : ℕ = j - suc k in
        let e : 2 ^ j ≡ 2 ^ i * 2 ^ suc k = ap (λ (x : ℕ). 2 ^ x) {x = j} {y = i + suc k} (omega arith) ∙ pow-add 2 i (suc k) in
        let q : ℕ = s / 2 ^ j in
        let v : s ≡ q * 2 ^ j = omega (arith, div-add-mod' s (2 ^ j)) in
        let u : (2 * m + 1) * 2 ^ k ≡ (2 * (q * 2 ^ i)) * 2 ^ k = sym w ∙ v ∙ rw (e, pow-suc) (omega arith) in
        let c : 2 * m + 1 ≡ 2 * (q * 2 ^ i) = eq_of_mul-eq-mul_right (2 ^ k) (pow_pos k) (2 * m + 1) (2 * (q * 2 ^ i)) u in
        omega arith

-- ---- the lowest set bit

pub lowest-at-0 : lowest_bit 0 ≡ 0
unfolding lowest_bit
lowest-at-0 = refl

pub lowest-is : (s k m : ℕ) → s < 2 ^ 64 → s ≡ (2 * m + 1) * 2 ^ k → lowest_bit s ≡ 2 ^ k
unfolding lowest_bit
lowest-is s k m h w =
    let p : 2 ^ k ≤ s = omega arith in
    let n : eqb s 0 ≡ false = ne_eqb s 0 (λ z. omega (arith, pow_pos k)) in
    let d : s % 2 ^ k ≡ 0 = multiple s (2 * m + 1) (2 ^ k) w in
    rw (n, lowest_bit)
    (largest_is (λ p. eqb (s % p) 0) 64 k (exp-lt k 64 (omega arith)) (eq-eqb (s % 2 ^ k) 0 d)
    (λ j l e. odd-largest s k m j w (eqb-true (s % 2 ^ j) 0 e)))

-- the mask with the wrapping negation t of s
pub mask : (s t : ℕ) → s < 2 ^ 64 → t < 2 ^ 64 → (t + s) % 2 ^ 64 ≡ 0 → bit_and t s ≡ lowest_bit s
mask s t hs ht e = ⊎_elim none some (eq-zero-or-pos s)
  where
    none : s ≡ 0 → bit_and t s ≡ lowest_bit s
    none z = rw z (and_zero_r t ∙ sym lowest-at-0)

    some : 0 < s → bit_and t s ≡ lowest_bit s
    some p =
        let o : Odd s t = odd_part 64 s t p (omega arith) (omega arith) in
        o.common ∙ sym (lowest-is s o.exp o.odd hs o.whole)

pub lowest : (s : ℕ) → 0 < s → s < 2 ^ 64 → Lowest s (lowest_bit s)
lowest s p h = rw (lowest-is s o.exp o.odd h o.whole) (record {
  power = record { class = o.exp; is = refl };
  within = omega (arith, o.whole);
  divides = multiple s (2 * o.odd + 1) (2 ^ o.exp) o.whole;
  largest = λ j d. pow_mono (odd-largest s o.exp o.odd j o.whole d);
})
  where
    o : Odd s (2 ^ 64 - s)
    o = odd_part 64 s (2 ^ 64 - s) p (omega arith) (omega arith)

-- ---- the test of a power of two

pub power-yes : (n k : ℕ) → n < 2 ^ 64 → n ≡ 2 ^ k → is_power_of_two n ≡ true
unfolding is_power_of_two
power-yes n k h e =
    let l : largest_power (λ p. eqb p n) 64 ≡ 2 ^ k =
    largest_is (λ p. eqb p n) 64 k (exp-lt k 64 (omega arith)) (eq-eqb (2 ^ k) n (sym e))
    (λ j m d. exp-le j k (omega (arith, eqb-true (2 ^ j) n d, pow_pos k))) in
    rw l (lt-ltb 0 (2 ^ k) (pow_pos k))

pub power-no : (n : ℕ) → (Power n → ⊥) → is_power_of_two n ≡ false
unfolding is_power_of_two
power-no n h =
    let l : largest_power (λ p. eqb p n) 64 ≡ 0 =
    largest-none (λ p. eqb p n) 64 (λ j m. ne_eqb (2 ^ j) n (λ d. h (record { class = j; is = sym d }))) in
    rw l refl

-- a number and the one below it have in common all but the lowest set bit
and-pred : (a k m : ℕ) → a ≡ (2 * m + 1) * 2 ^ k → bit_and a (a - 1) ≡ (2 * m) * 2 ^ k
and-pred a k m e =
    let o : bit_and (2 * m + 1) (2 * m) ≡ 2 * m = step in
    let p : a ≡ (2 * m + 1) * 2 ^ k + 0 = omega arith in
    let q : a - 1 ≡ (2 * m) * 2 ^ k + (2 ^ k - 1) = omega (arith, pow_pos k) in
    ap₂ bit_and p q ∙ and_block k (2 * m + 1) (2 * m) 0 (2 ^ k - 1) (pow_pos k) (ones_lt k) ∙ rw o (omega arith)
  where
    step : bit_and (2 * m + 1) (2 * m) ≡ 2 * m
    step =
        let x : (2 * m + 1) / 2 ≡ m = omega arith in
        let y : 2 * m / 2 ≡ m = omega arith in
        and_step (2 * m + 1) (2 * m) ∙ rw (x, y, and_self) (omega arith)

-- the test of the code: nothing is left of a power of two that is masked with the number below it
masked-of : (n k m : ℕ) → n < 2 ^ 64 → n ≡ (2 * m + 1) * 2 ^ k → eqb (bit_and n (n - 1)) 0 ≡ is_power_of_two n
masked-of n k zero h e =
    let l : bit_and n (n - 1) ≡ 0 = and-pred n k 0 e ∙ omega arith in
    eq-eqb (bit_and n (n - 1)) 0 l ∙ sym (power-yes n k h (omega arith))
masked-of n k (suc m) h e =
    let l : bit_and n (n - 1) ≡ (2 * suc m) * 2 ^ k = and-pred n k (suc m) e in
    ne_eqb (bit_and n (n - 1)) 0 (λ y. omega (arith, pow_pos k)) ∙ sym (power-no n never)
  where
    never : Power n → ⊥
    never w =
        let j : w.class ≤ k = odd-largest n k (suc m) w.class e (rw w.is (mod_self (2 ^ w.class))) in
        let l : 2 ^ w.class ≤ 2 ^ k = pow_mono j in
        omega (arith, w.is, pow_pos k)

pub masked : (n : ℕ) → 0 < n → n < 2 ^ 64 → eqb (bit_and n (n - 1)) 0 ≡ is_power_of_two n
masked n p h =
    let o : Odd n (2 ^ 64 - n) = odd_part 64 n (2 ^ 64 - n) p (omega arith) (omega arith) in
    masked-of n o.exp o.odd h o.whole

-- and what the test says of a number that passes
pub power-of-test : (n : ℕ) → n < 2 ^ 64 → is_power_of_two n ≡ true → Power n
power-of-test n h e = ⊎_elim none some (eq-zero-or-pos n)
  where
    z : is_power_of_two 0 ≡ false
    z = power-no 0 (λ w. omega (arith, w.is, pow_pos w.class))

    none : n ≡ 0 → Power n
    none y = absurd (true≢false (sym e ∙ rw y z))

    pick : (k m : ℕ) → n ≡ (2 * m + 1) * 2 ^ k → Power n
    pick k zero w = record { class = k; is = omega arith }
    pick k (suc m) w = absurd (true≢false (sym e ∙ sym (masked-of n k (suc m) h w) ∙ ne_eqb (bit_and n (n - 1)) 0 (λ y. omega (arith, pow_pos k, and-pred n k (suc m) w))))

    some : 0 < n → Power n
    some p = let o : Odd n (2 ^ 64 - n) = odd_part 64 n (2 ^ 64 - n) p (omega arith) (omega arith) in pick o.exp o.odd o.whole
