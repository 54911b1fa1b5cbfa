-- One hexadecimal digit more, in the place before the last one.
use mathlib.Core.List.{List, [], ◌∷◌, ◌++◌}
use mathlib.Core.Path.{◌≡◌, refl, sym, ap, ◌∙◌}
use Prim.Native.Nat.{ℕ, zero, suc, ◌-◌, ◌/◌, ◌%◌, ◌<◌, ◌≤◌}
use native.Mathlib.Omega.{arith}
use lib.ListN.{length, drop, set, length-set}
use lib.Seq.{drop-cons, drop-set-lt, get_or-set_same, append_snoc}
use Rattle.texts.specs.Text.{hex_digit, hex_digits}

digits-suc : (ds : List ℕ) (k r d : ℕ) → k < length ds → d ≡ hex_digit (r % 16) → hex_digits (suc k) r ++ drop (suc k) ds ≡ hex_digits k (r / 16) ++ drop k (set ds k d)
unfolding hex_digits
digits-suc ds k r d h e =
    ap (λ (x : ℕ). (hex_digits k (r / 16) ++ (x ∷ [])) ++ drop (suc k) ds) (sym e)
    ∙ append_snoc (hex_digits k (r / 16)) d (drop (suc k) ds)
    ∙ ap (λ (l : List ℕ). hex_digits k (r / 16) ++ l) (sym (drop-cons (set ds k d) k 0 (omega (arith, length-set ds k d)) ∙ rw (get_or-set_same ds k d 0 h, drop-set-lt (suc k) ds k d (omega arith))))

pub digits_more : (ds : List ℕ) (k r d : ℕ) → 0 < k → k ≤ length ds → d ≡ hex_digit (r % 16) → hex_digits k r ++ drop k ds ≡ hex_digits (k - 1) (r / 16) ++ drop (k - 1) (set ds (k - 1) d)
digits_more ds zero r d h l e = absurd (omega arith)
digits_more ds (suc k) r d h l e = let m : suc k - 1 ≡ k = omega arith in rw m (digits-suc ds k r d (omega arith) e)

pub digits-all : (ds : List ℕ) (k r : ℕ) → k ≡ 0 → hex_digits k r ++ drop k ds ≡ ds
unfolding hex_digits
digits-all ds zero r e = refl
digits-all ds (suc k) r e = absurd (omega arith)
