-- A list of words cut, or filled up with zeros, to a length. Assumes nothing.
use mathlib.Core.Path.{◌≡◌, refl, sym, ap, ◌∙◌}
use mathlib.Core.List.{List, [], ◌∷◌, ◌++◌, append_assoc}
use Prim.Native.Nat.{ℕ, zero, suc, ◌+◌, ◌-◌, ◌≤◌, ◌<◌}
use native.Mathlib.Nat.{le_of_suc-le-suc, not-suc-le-zero, suc-add, zero-add, suc-sub-suc, sub-zero}
use native.Mathlib.Omega.{arith}
use lib.ListN.{length, take, drop, get_or, replicate}
use lib.Seq.{take-append-le, drop-append-le}
use Rattle.words.specs.Words.{pad}

pub length-pad : (n : ℕ) (ws : List ℕ) → length (pad n ws) ≡ n
length-pad zero ws = refl
length-pad (suc n) [] = ap suc (length-pad n [])
length-pad (suc n) (w ∷ ws) = ap suc (length-pad n ws)

pub get_or-pad : (n i : ℕ) (ws : List ℕ) → i < n → get_or (pad n ws) i 0 ≡ get_or ws i 0
get_or-pad zero i ws h = absurd (not-suc-le-zero h)
get_or-pad (suc n) zero [] h = refl
get_or-pad (suc n) (suc i) [] h = get_or-pad n i [] (le_of_suc-le-suc h)
get_or-pad (suc n) zero (w ∷ ws) h = refl
get_or-pad (suc n) (suc i) (w ∷ ws) h = get_or-pad n i ws (le_of_suc-le-suc h)

-- a front that fits stands as it is
pub pad-append : (front ws : List ℕ) (n : ℕ) → pad (length front + n) (front ++ ws) ≡ front ++ pad n ws
pad-append [] ws n = rw zero-add
pad-append (x ∷ front) ws n = rw suc-add (ap (λ (l : List ℕ). x ∷ l) (pad-append front ws n))

-- ---- zeros

pub pad-nil : (n : ℕ) → pad n [] ≡ replicate n 0
pad-nil zero = refl
pad-nil (suc n) = ap (λ (l : List ℕ). 0 ∷ l) (pad-nil n)

pub pad-zeros : (n z : ℕ) → pad n (replicate z 0) ≡ replicate n 0
pad-zeros zero z = refl
pad-zeros (suc n) zero = pad-nil (suc n)
pad-zeros (suc n) (suc z) = ap (λ (l : List ℕ). 0 ∷ l) (pad-zeros n z)

-- a list that fits has zeros after it
pub pad-fits : (n : ℕ) (ws : List ℕ) → length ws ≤ n → pad n ws ≡ ws ++ replicate (n - length ws) 0
pad-fits n [] h = pad-nil n ∙ rw sub-zero
pad-fits zero (w ∷ ws) h = absurd (not-suc-le-zero h)
pad-fits (suc n) (w ∷ ws) h = rw suc-sub-suc (ap (λ (l : List ℕ). w ∷ l) (pad-fits n ws (le_of_suc-le-suc h)))

-- zeros at the end say nothing
pub pad-trail : (n z : ℕ) (ws : List ℕ) → pad n (ws ++ replicate z 0) ≡ pad n ws
pad-trail zero z ws = refl
pad-trail (suc n) z [] = pad-zeros (suc n) z ∙ sym (pad-nil (suc n))
pad-trail (suc n) z (w ∷ ws) = ap (λ (l : List ℕ). w ∷ l) (pad-trail n z ws)

pub pad-pad : (n m : ℕ) (ws : List ℕ) → n ≤ m → pad n (pad m ws) ≡ pad n ws
pad-pad zero m ws h = refl
pad-pad (suc n) zero ws h = absurd (not-suc-le-zero h)
pad-pad (suc n) (suc m) [] h = ap (λ (l : List ℕ). 0 ∷ l) (pad-pad n m [] (le_of_suc-le-suc h))
pad-pad (suc n) (suc m) (w ∷ ws) h = ap (λ (l : List ℕ). w ∷ l) (pad-pad n m ws (le_of_suc-le-suc h))

-- words [i, j) of a padded list replaced by a run: the list's own, padded
pub pad-replaced : (n i j : ℕ) (ws run : List ℕ) → i ≤ j → j ≤ length ws → length ws ≤ n
    → pad n (take i (pad n ws) ++ (run ++ drop j (pad n ws))) ≡ pad n (take i ws ++ (run ++ drop j ws))
pad-replaced n i j ws run h l g =
    rw (pad-fits n ws g, take-append-le i ws _ (omega arith), drop-append-le j ws _ l, ← append_assoc run, ← append_assoc (take i ws)) (pad-trail n (n - length ws) _)
