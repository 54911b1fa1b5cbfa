-- A number that is put is read as itself.
use mathlib.Core.Bool.{Bool, true, false, cond, ◌&&◌}
use mathlib.Core.List.{List, [], ◌∷◌, ◌++◌}
use mathlib.Core.Path.{◌≡◌, refl, sym, ap, ◌∙◌}
use Prim.Native.Nat.{ℕ, zero, suc, ◌+◌, ◌-◌, ◌*◌, ◌/◌, ◌%◌, ◌^◌, ◌<◌}
use native.Mathlib.Nat.{pow-suc}
use native.Mathlib.Omega.{arith}
use borrow.Author.Tests.{eqb-true, eqb-false}
use lib.Dec.{eqb}
use lib.ListN.{length}
use Rattle.std.specs.Prelude.{Some}
use Rattle.grammar.specs.Line.{is_digit, all_digits, value_on, number_of}
use Rattle.texts.specs.Text.{digits, decimal}
use Rattle.grammar.proofs.Numerals.{digit-yes, is_number}

value-more : (ds : List ℕ) (v d : ℕ) → value_on v (ds ++ (d ∷ [])) ≡ value_on v ds * 10 + (d - 48)
value-more [] v d = refl
value-more (x ∷ ds) v d = value-more ds (v * 10 + (x - 48)) d

all_more : (ds : List ℕ) (d : ℕ) → all_digits ds ≡ true → is_digit d ≡ true → all_digits (ds ++ (d ∷ [])) ≡ true
all_more [] d a e = rw e
all_more (x ∷ ds) d a e = by_cases (is_digit x) a (λ tail. all_more ds d tail e)
  where
    by_cases : (t : Bool) → t && all_digits ds ≡ true → (all_digits ds ≡ true → all_digits (ds ++ (d ∷ [])) ≡ true) → t && all_digits (ds ++ (d ∷ [])) ≡ true
    by_cases true tail more = more tail
    by_cases false tail more = tail

pub record Reads (ds : List ℕ) (n : ℕ) : Type 0 where
  pub are-digits : all_digits ds ≡ true
  pub value : value_on 0 ds ≡ n

digits-read : (k n : ℕ) → n < 10 ^ k → Reads (digits k n) n
unfolding digits
digits-read zero n h = record { are-digits = refl; value = omega (arith, h) }
digits-read (suc k) n h = by_cases (eqb n 0) refl (digits-read k (n / 10) (omega (arith, h, pow-suc 10 k)))
  where
    by_cases : (t : Bool) → eqb n 0 ≡ t → Reads (digits k (n / 10)) (n / 10) → Reads (cond t [] (digits k (n / 10) ++ ((48 + n % 10) ∷ []))) n
    by_cases true e higher = record { are-digits = refl; value = sym (eqb-true n 0 e) }
    by_cases false e higher =
        record {
          are-digits = all_more (digits k (n / 10)) (48 + n % 10) higher.are-digits (digit-yes (48 + n % 10) (omega arith) (omega arith));
          value = value-more (digits k (n / 10)) 0 (48 + n % 10) ∙ omega (arith, higher.value);
        }

some-digits : (ds : List ℕ) (n : ℕ) → 0 < n → value_on 0 ds ≡ n → 0 < length ds
some-digits [] n h e = absurd (omega (arith, e))
some-digits (d ∷ ds) n h e = omega arith

pub decimal-read : (n : ℕ) → n < 2 ^ 64 → number_of (decimal n) ≡ Some n
unfolding decimal
decimal-read n h = by_cases (eqb n 0) refl
  where
    by_cases : (t : Bool) → eqb n 0 ≡ t → number_of (cond t (48 ∷ []) (digits 20 n)) ≡ Some n
    by_cases true e = is_number (48 ∷ []) (omega arith) refl (omega arith) ∙ ap Some (sym (eqb-true n 0 e))
    by_cases false e =
        let reads : Reads (digits 20 n) n = digits-read 20 n (omega arith) in
        let some : 0 < n = omega (arith, eqb-false n 0 e) in
        is_number (digits 20 n) (some-digits (digits 20 n) n some reads.value) reads.are-digits (omega (arith, reads.value)) ∙ ap Some reads.value
