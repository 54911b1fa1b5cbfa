-- A number's digits, from the last to the first.
use mathlib.Core.Bool.{Bool, cond}
use mathlib.Core.List.{List, [], ◌∷◌, ◌++◌}
use mathlib.Core.Path.{◌≡◌, refl, sym, ap, ◌∙◌}
use Prim.Native.Nat.{ℕ, zero, suc, ◌+◌, ◌-◌, ◌/◌, ◌%◌, ◌^◌, ◌<◌, ◌≤◌}
use native.Mathlib.Nat.{pow-suc}
use native.Mathlib.Omega.{arith}
use borrow.Author.Tests.{ne_eqb}
use lib.ListN.{length, drop, set, length-set}
use lib.Seq.{drop-cons, drop-set-lt, get_or-set_same, append_snoc}
use Rattle.texts.specs.Text.{digits}

-- a number that is not 0 has a digit
pub some-place : (k r : ℕ) → 0 < r → r < 10 ^ k → 0 < k
some-place zero r h l = absurd (omega (arith, h, l))
some-place (suc k) r h l = omega arith

-- the number without its last digit
pub one_less : (k r : ℕ) → 0 < k → r < 10 ^ k → r / 10 < 10 ^ (k - 1)
one_less zero r h l = absurd (omega arith)
one_less (suc k) r h l =
    let e : suc k - 1 ≡ k = omega arith in
    rw e (omega (arith, l, pow-suc 10 k))

digits-suc : (ds : List ℕ) (k r : ℕ) → k < length ds → 0 < r → digits (suc k) r ++ drop (suc k) ds ≡ digits k (r / 10) ++ drop k (set ds k (48 + r % 10))
unfolding digits
digits-suc ds k r h some =
    ap (λ (t : Bool). cond t [] (digits k (r / 10) ++ ((48 + r % 10) ∷ [])) ++ drop (suc k) ds) (ne_eqb r 0 (λ e. omega (arith, e)))
    ∙ append_snoc (digits k (r / 10)) (48 + r % 10) (drop (suc k) ds)
    ∙ sym (ap (λ (l : List ℕ). digits k (r / 10) ++ l)
    (drop-cons (set ds k (48 + r % 10)) k 0 (omega (arith, length-set ds k (48 + r % 10)))
    ∙ rw (get_or-set_same ds k (48 + r % 10) 0 h, drop-set-lt (suc k) ds k (48 + r % 10) (omega arith))))

-- one digit more, in the place before the last one
pub digits_more : (ds : List ℕ) (k r : ℕ) → 0 < k → k ≤ length ds → 0 < r
    → digits k r ++ drop k ds ≡ digits (k - 1) (r / 10) ++ drop (k - 1) (set ds (k - 1) (48 + r % 10))
digits_more ds zero r h l some = absurd (omega arith)
digits_more ds (suc k) r h l some = let e : suc k - 1 ≡ k = omega arith in rw e (digits-suc ds k r (omega arith) some)

pub digits-none : (k : ℕ) → digits k 0 ≡ []
unfolding digits
digits-none zero = refl
digits-none (suc k) = refl
