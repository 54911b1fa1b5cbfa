-- Where bytes are cut: at the first separator, and behind it.
use mathlib.Core.Bool.{Bool, true, false, cond, not}
use mathlib.Core.List.{List, [], ◌∷◌}
use mathlib.Core.Path.{◌≡◌, refl, sym, ap, ◌∙◌}
use Prim.Native.Nat.{ℕ, zero, suc, ◌+◌, ◌-◌, ◌<◌, ◌≤◌}
use native.Mathlib.Nat.{suc-add, add_assoc}
use native.Mathlib.Omega.{arith}
use borrow.Author.Tests.{ltb-true, ltb-false, lt-ltb, eq-eqb, ne_eqb, eqb-true, eqb-false}
use lib.Dec.{eqb, ltb, leb-suc-suc}
use lib.ListN.{length, get_or, take, drop, length-drop}
use lib.Seq.{drop-drop, take_all}
use Rattle.std.specs.List.{position, position_or_len}
use Rattle.std.specs.Option.{unwrap_or}
use Rattle.std.specs.Prelude.{Some, None}
use Rattle.std.proofs.lemmas.List.Sums.{fails_before_first, passes_at_first, prefix_len-le-length}
use Rattle.lines.specs.Pieces.{onto, cut, pieces_after, PieceEnds}

-- two tests are the same where each holds whenever the other does
pub tests_same : (a b c d : ℕ) → (a < b → c < d) → (c < d → a < b) → ltb a b ≡ ltb c d
tests_same a b c d f g = by_cases (ltb a b) refl
  where
    by_cases : (t : Bool) → ltb a b ≡ t → ltb a b ≡ ltb c d
    by_cases true e = e ∙ sym (lt-ltb c d (f (ltb-true a b e)))
    by_cases false e = by-other (ltb c d) refl
      where
        by-other : (u : Bool) → ltb c d ≡ u → ltb a b ≡ ltb c d
        by-other true e' = lt-ltb a b (g (ltb-true c d e')) ∙ sym e'
        by-other false e' = e ∙ sym e'

-- the same pieces, one byte further on
after-cons : (s b : ℕ) (bs : List ℕ) (n : ℕ) → pieces_after s (b ∷ bs) (suc n) ≡ pieces_after s bs n
after-cons s b bs n = rw (leb-suc-suc (suc n) (length bs), suc-add n 1)

pub after-drop : (s : ℕ) (bs : List ℕ) (m n : ℕ) → m ≤ length bs → pieces_after s (drop m bs) n ≡ pieces_after s bs (m + n)
after-drop s bs m n h =
    ap (λ (t : Bool). cond t (cut s (drop (n + 1) (drop m bs))) [])
    (tests_same n (length (drop m bs)) (m + n) (length bs) (λ l. omega (arith, length-drop m bs)) (λ l. omega (arith, length-drop m bs)))
    ∙ ap (λ (r : List ℕ). cond (ltb (m + n) (length bs)) (cut s r) []) (drop-drop (n + 1) m bs ∙ ap (λ (k : ℕ). drop k bs) (sym (add_assoc m n 1)))

-- the first piece ends where the first separator is, or with the bytes
cut_at : (s : ℕ) (bs : List ℕ) (n : ℕ) → n ≤ length bs → ((k : ℕ) → k < n → get_or bs k 0 ≡ s → ⊥) → (n < length bs → get_or bs n 0 ≡ s)
    → cut s bs ≡ take n bs ∷ pieces_after s bs n
cut_at s [] zero h none found = refl
cut_at s [] (suc n) h none found = absurd (omega arith)
cut_at s (b ∷ bs) zero h none found = rw (eq-eqb b s (found (omega arith)), lt-ltb 0 (suc (length bs)) (omega arith))
cut_at s (b ∷ bs) (suc n) h none found =
    ap (λ (t : Bool). cond t ([] ∷ cut s bs) (onto b (cut s bs))) (ne_eqb b s (none 0 (omega arith)))
    ∙ ap (onto b) (cut_at s bs n (omega arith) (λ k l. none (suc k) (omega arith)) (λ l. found (omega arith)))
    ∙ ap (λ (ps : List (List ℕ)). (b ∷ take n bs) ∷ ps) (sym (after-cons s b bs n))

-- the place of the first separator, or the end
pub first-piece : (s : ℕ) (bs : List ℕ) (n : ℕ) → n ≡ unwrap_or (position (λ (b : ℕ). eqb b s) bs) (length bs) → PieceEnds s bs n
first-piece s bs n e =
    let is : ℕ → Bool = λ (b : ℕ). eqb b s in
    let within : position_or_len is bs ≤ length bs = prefix_len-le-length (λ (b : ℕ). not (is b)) bs in
    let pieces : cut s bs ≡ take (position_or_len is bs) bs ∷ pieces_after s bs (position_or_len is bs) =
    cut_at
    s
    bs
    (position_or_len is bs)
    within
    (λ k l. eqb-false _ _ (fails_before_first is bs k 0 l))
    (λ l. eqb-true _ _ (passes_at_first is bs 0 l)) in
    rw (e ∙ either (ltb (position_or_len is bs) (length bs)) refl within) (record { within = within; pieces = pieces })
  where
    either : {m : ℕ} (t : Bool) → ltb m (length bs) ≡ t → m ≤ length bs → unwrap_or (cond t (Some m) None) (length bs) ≡ m
    either true q h = refl
    either {m} false q h = omega (arith, ltb-false m (length bs) q)

-- a part of a slice from a place on is all that follows
pub tail-whole : (bs : List ℕ) (m : ℕ) → take (length bs - m) (drop m bs) ≡ drop m bs
tail-whole bs m = take_all (length bs - m) (drop m bs) (omega (arith, length-drop m bs))

-- the words after a place, from where the next one ends
pub next-piece : (s : ℕ) (bs : List ℕ) (at n : ℕ) → at < length bs → PieceEnds s (drop (at + 1) bs) n
    → pieces_after s bs at ≡ take n (drop (at + 1) bs) ∷ pieces_after s bs (at + 1 + n)
next-piece s bs at n h ends =
    ap (λ (t : Bool). cond t (cut s (drop (at + 1) bs)) []) (lt-ltb at (length bs) h)
    ∙ ends.pieces
    ∙ ap (λ (ps : List (List ℕ)). take n (drop (at + 1) bs) ∷ ps) (after-drop s bs (at + 1) n (omega arith))
