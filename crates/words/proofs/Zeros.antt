-- Words that are zero: what the test says, and words or-ed one by one. Assumes nothing.
use mathlib.Core.Path.{◌≡◌, refl, sym, ap, ◌∙◌}
use mathlib.Core.Bool.{Bool, true, ◌&&◌, and-true, and_assoc}
use mathlib.Core.List.{List, [], ◌∷◌, ◌++◌}
use Prim.Native.Nat.{ℕ, zero, suc, ◌+◌, ◌<◌}
use native.Mathlib.Numerals.{add-one}
use lib.Dec.{eqb}
use lib.ListN.{length, get_or, take, drop, replicate, take-append-drop}
use lib.Seq.{take-suc}
use lib.Bits.{bit_or}
use borrow.Author.Tests.{eqb-true, eq-eqb}
use Rattle.words.specs.Words.{zerosb}
use Rattle.words.proofs.Tests.{both, join, same}
use Rattle.words.proofs.Ors.{or-zero}

pub zeros-are : (ws : List ℕ) → zerosb ws ≡ true → ws ≡ replicate (length ws) 0
zeros-are [] e = refl
zeros-are (w ∷ ws) e =
    let p = both (eqb w 0) (zerosb ws) e in
    ap (λ (x : ℕ). x ∷ ws) (eqb-true w 0 p.0) ∙ ap (λ (l : List ℕ). 0 ∷ l) (zeros-are ws p.1)

pub zeros-made : (n : ℕ) → zerosb (replicate n 0) ≡ true
zeros-made zero = refl
zeros-made (suc n) = zeros-made n

zeros-append : (vs ws : List ℕ) → zerosb (vs ++ ws) ≡ zerosb vs && zerosb ws
zeros-append [] ws = refl
zeros-append (v ∷ vs) ws = rw (zeros-append vs ws, and_assoc)

-- ---- a row that words were or-ed to, told by whether it is zero

either-zero : (a b : ℕ) → eqb (bit_or a b) 0 ≡ eqb a 0 && eqb b 0
either-zero a b =
    same _ _
    (λ e.
    let z = or-zero a b (eqb-true _ _ e) in
    join _ _ (eq-eqb _ _ z.0) (eq-eqb _ _ z.1))
    (λ e.
    let z = both (eqb a 0) (eqb b 0) e in
    eq-eqb _ _ (rw (eqb-true _ _ z.0, eqb-true _ _ z.1)))

-- the next word
pub row-or : (ws : List ℕ) (i row : ℕ) → i < length ws → eqb row 0 ≡ zerosb (take i ws) → eqb (bit_or row (get_or ws i 0)) 0 ≡ zerosb (take (i + 1) ws)
row-or ws i row h r =
    rw (either-zero row (get_or ws i 0), r, add-one, take-suc ws i 0 h, zeros-append (take i ws) (get_or ws i 0 ∷ []), and-true)

-- three rows at once
pub three-rows : (a b c : ℕ) (x y z : Bool) → eqb a 0 ≡ x → eqb b 0 ≡ y → eqb c 0 ≡ z → eqb (bit_or (bit_or a b) c) 0 ≡ x && (y && z)
three-rows a b c x y z p q r = rw (either-zero (bit_or a b) c, either-zero a b, p, q, r) (and_assoc x y z)

-- words in two parts
pub zeros-split : (ws : List ℕ) (n : ℕ) → zerosb ws ≡ zerosb (take n ws) && zerosb (drop n ws)
zeros-split ws n = ap zerosb (sym (take-append-drop n ws)) ∙ zeros-append (take n ws) (drop n ws)

-- words in four parts
pub parted : (ws first others second rest last tail : List ℕ) (n : ℕ) → first ≡ take n ws → others ≡ drop n ws → second ≡ take n others → rest ≡ drop n others
    → last ≡ take n rest → tail ≡ drop n rest → zerosb ws ≡ (zerosb first && (zerosb second && zerosb last)) && zerosb tail
parted ws first others second rest last tail n p o q r s t =
    zeros-split ws n ∙ (λ i. zerosb (sym p i) && zerosb (sym o i))
    ∙ ap (λ (u : Bool). zerosb first && u)
    (zeros-split others n ∙ (λ i. zerosb (sym q i) && zerosb (sym r i))
    ∙ ap (λ (u : Bool). zerosb second && u) (zeros-split rest n ∙ (λ i. zerosb (sym s i) && zerosb (sym t i))))
    ∙ ap (λ (u : Bool). zerosb first && u) (sym (and_assoc (zerosb second) (zerosb last) (zerosb tail)))
    ∙ sym (and_assoc (zerosb first) (zerosb second && zerosb last) (zerosb tail))
