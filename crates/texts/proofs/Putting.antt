-- Text put into a buffer, piece after piece.
use mathlib.Core.Bool.{Bool, true, false}
use borrow.Rule.Slice.PartMut.{put_mid}
use mathlib.Core.List.{List, [], ◌∷◌, ◌++◌, append_assoc}
use mathlib.Core.Path.{◌≡◌, refl, sym, ap, ◌∙◌}
use Prim.Native.Nat.{ℕ, suc, ◌+◌, ◌-◌, ◌<◌, ◌≤◌, min, max}
use native.Mathlib.Nat.{add-zero, add-suc, suc-add}
use native.Mathlib.Omega.{arith}
use borrow.Author.Tests.{leb-true, leb-false}
use lib.Dec.{leb}
use lib.ListN.{length, take, drop, set, length-append, length-take, take-append-drop, drop_of_length-le}
use lib.Seq.{sets, sets-eq, length-sets, set_out, drop-drop}
use Rattle.texts.specs.Put.{place_after, Put}

-- past its end a buffer does not change
pub sets-out : (vs l : List ℕ) (i : ℕ) → length l ≤ i → sets l i vs ≡ l
sets-out [] l i h = refl
sets-out (v ∷ vs) l i h = rw (set_out l i v h) (sets-out vs l (suc i) (omega arith))

pub sets-append : (xs ys l : List ℕ) (i : ℕ) → sets l i (xs ++ ys) ≡ sets (sets l i xs) (i + length xs) ys
sets-append [] ys l i = rw (add-zero i)
sets-append (x ∷ xs) ys l i = sets-append xs ys (set l i x) (suc i) ∙ ap (λ (k : ℕ). sets (sets (set l i x) (suc i) xs) k ys) (suc-add i (length xs) ∙ sym (add-suc i (length xs)))

-- a copy to a place of a buffer
pub put_mid-sets : (a k : ℕ) (l text : List ℕ) → k ≡ length text → a + k ≤ length l → put_mid a k l text ≡ sets l a text
put_mid-sets a k l text e h = rw e (rw (sets-eq text l a (omega arith)) (rw (append_assoc, drop-drop) refl))

-- what has no place is not missed
pub sets-fit : (text l : List ℕ) (at : ℕ) → at ≤ length l → sets l at (take (min (length text) (length l - at)) text) ≡ sets l at text
sets-fit text l at h =
    sym (ap (sets l at) (sym (take-append-drop n text)) ∙ sets-append (take n text) (drop n text) l at ∙ rest (leb (length text) (length l - at)) refl)
  where
    n : ℕ
    n = min (length text) (length l - at)

    rest : (t : Bool) → leb (length text) (length l - at) ≡ t → sets (sets l at (take n text)) (at + length (take n text)) (drop n text) ≡ sets l at (take n text)
    rest true e = let fits : length text ≤ length l - at = leb-true (length text) (length l - at) e in rw (drop_of_length-le text {i = n} (omega arith))
    rest false e =
        let over : length l - at < length text = leb-false (length text) (length l - at) e in
        sets-out (drop n text) (sets l at (take n text)) (at + length (take n text)) (omega (arith, length-sets l at (take n text), length-take n text))

-- ---- one text after another

-- the place after a text serves as well as the text's length does
at_place : (y l : List ℕ) (at count : ℕ) → sets l (place_after (length l) at count) y ≡ sets l (at + count) y
at_place y l at count = by_cases (leb (at + count) (max at (length l))) refl
  where
    by_cases : (t : Bool) → leb (at + count) (max at (length l)) ≡ t → sets l (place_after (length l) at count) y ≡ sets l (at + count) y
    by_cases true e =
        let fits : at + count ≤ max at (length l) = leb-true (at + count) (max at (length l)) e in
        ap (λ (k : ℕ). sets l k y) (omega arith)
    by_cases false e =
        let over : max at (length l) < at + count = leb-false (at + count) (max at (length l)) e in
        sets-out y l (place_after (length l) at count) (omega arith) ∙ sym (sets-out y l (at + count) (omega arith))

pub then : {x y d m e : List ℕ} {at middle after : ℕ} → Put x d at middle m → Put y m middle after e → Put (x ++ y) d at after e
then {x} {y} {d} {m} {e} {at} {middle} {after} p q =
    let long : length m ≡ length d = ap length p.bytes ∙ length-sets d at x in
    record {
      bytes =
          q.bytes
          ∙ ap (λ (k : ℕ). sets m k y) (p.place ∙ ap (λ (k : ℕ). place_after k at (length x)) (sym long))
          ∙ at_place y m at (length x)
          ∙ ap (λ (l : List ℕ). sets l (at + length x) y) p.bytes
          ∙ sym (sets-append x y d at);
      place = omega (arith, p.place, q.place, length-append x y);
    }
