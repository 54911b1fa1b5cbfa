-- Words as numbers: what the loop over a word's bytes goes by.
use mathlib.Core.Bool.{Bool, true, false, cond, ◌&&◌}
use mathlib.Core.List.{List, [], ◌∷◌}
use mathlib.Core.Path.{◌≡◌, refl, sym}
use Prim.Native.Nat.{ℕ, ◌+◌, ◌-◌, ◌*◌, ◌^◌, ◌<◌, ◌≤◌}
use native.Mathlib.Numerals.{add-one}
use native.Mathlib.Omega.{arith}
use borrow.Author.Tests.{lt-ltb, le-ltb, le-leb}
use lib.Dec.{ltb}
use lib.ListN.{length, get_or, drop}
use lib.Seq.{drop-cons}
use Rattle.std.specs.Prelude.{Some, None}
use Rattle.grammar.specs.Line.{is_digit, all_digits, value_on, number_of}

-- ---- one byte of a word

pub digits_step : (w : List ℕ) (i : ℕ) → i < length w → all_digits (drop i w) ≡ is_digit (get_or w i 0) && all_digits (drop (i + 1) w)
digits_step w i h = rw (add-one, drop-cons w i 0)

pub value-step : (v : ℕ) (w : List ℕ) (i : ℕ) → i < length w → value_on v (drop i w) ≡ value_on (v * 10 + (get_or w i 0 - 48)) (drop (i + 1) w)
value-step v w i h = rw (add-one, drop-cons w i 0)

pub digit-yes : (b : ℕ) → 48 ≤ b → b ≤ 57 → is_digit b ≡ true
digit-yes b l h = rw (le-leb 48 b l, le-leb b 57 h)

-- more digits make no number smaller
pub grows : (ds : List ℕ) (v : ℕ) → v ≤ value_on v ds
grows [] v = omega arith
grows (d ∷ ds) v = omega (arith, grows ds (v * 10 + (d - 48)))

-- ---- the whole word

module _ (w : List ℕ) where
  pub is_number : 0 < length w → all_digits w ≡ true → value_on 0 w < 2 ^ 64 → number_of w ≡ Some (value_on 0 w)
  unfolding number_of
  is_number some ds fits = rw (lt-ltb 0 (length w) some, ds, lt-ltb (value_on 0 w) (2 ^ 64) fits)

  pub is-empty : length w ≡ 0 → None ≡ number_of w
  unfolding number_of
  is-empty e = rw (le-ltb 0 (length w) (omega arith))

  pub not-digits : all_digits w ≡ false → None ≡ number_of w
  unfolding number_of
  not-digits ds = rw ds (sym (none (ltb 0 (length w)) (ltb (value_on 0 w) (2 ^ 64))))
    where
      none : (a c : Bool) → cond (a && false && c) (Some (value_on 0 w)) None ≡ None
      none true c = refl
      none false c = refl

  pub too_large : 2 ^ 64 ≤ value_on 0 w → None ≡ number_of w
  unfolding number_of
  too_large h = rw (le-ltb (value_on 0 w) (2 ^ 64) h) (sym (none (ltb 0 (length w)) (all_digits w)))
    where
      none : (a b : Bool) → cond (a && b && false) (Some (value_on 0 w)) None ≡ None
      none true true = refl
      none true false = refl
      none false b = refl
