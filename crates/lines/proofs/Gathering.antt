-- What is taken of a chunk, from where its first line ends.
use mathlib.Core.Bool.{Bool, true, false, cond}
use mathlib.Core.List.{List, [], ◌∷◌}
use mathlib.Core.Path.{◌≡◌, refl, sym, ap, ◌∙◌}
use Prim.Native.Nat.{ℕ, suc, ◌+◌, ◌<◌, ◌≤◌}
use native.Mathlib.Omega.{arith}
use borrow.Author.Tests.{lt-ltb, le-ltb}
use lib.Dec.{eqb, ltb}
use lib.ListN.{length, take, drop}
use lib.Seq.{length-take-le}
use Rattle.lines.specs.Pieces.{onto, cut, PieceEnds}
use Rattle.lines.specs.Gather.{first, line_here, line_ends, gathered}
use Rattle.texts.specs.Put.{place_after}
use Rattle.lines.specs.declared.Gathered.{Gathered}

onto-some : (b : ℕ) (ps : List (List ℕ)) → 0 < length (onto b ps)
onto-some b [] = omega arith
onto-some b (p ∷ ps) = omega arith

-- there is always a piece
pub cut-some : (s : ℕ) (bs : List ℕ) → 0 < length (cut s bs)
cut-some s [] = omega arith
cut-some s (b ∷ bs) = by_cases (eqb b s)
  where
    by_cases : (t : Bool) → 0 < length (cond t ([] ∷ cut s bs) (onto b (cut s bs)))
    by_cases true = omega arith
    by_cases false = onto-some b (cut s bs)

module _ (bs : List ℕ) (n : ℕ) (line : PieceEnds 10 bs n) where
  pub line-here : line_here bs ≡ take n bs
  line-here = ap first line.pieces

  pub line-ended : n < length bs → line_ends bs ≡ true
  line-ended h =
      ap (λ (ps : List (List ℕ)). ltb 1 (length ps)) line.pieces
      ∙ rw (lt-ltb n (length bs) h) (lt-ltb 1 (suc (length (cut 10 (drop (n + 1) bs)))) (omega (arith, cut-some 10 (drop (n + 1) bs))))

  pub line-open : length bs ≤ n → line_ends bs ≡ false
  line-open h = ap (λ (ps : List (List ℕ)). ltb 1 (length ps)) line.pieces ∙ rw (le-ltb n (length bs) h)

-- ---- what the code answers

same-gathered : {a a' l l' : ℕ} {e e' : Bool} → a ≡ a' → l ≡ l' → e ≡ e'
    → ◌≡◌ {A = Gathered} (record { at = a; len = l; ended = e }) (record { at = a'; len = l'; ended = e' })
same-gathered {a} {a'} {l} {l'} {e} {e'} p q r =
    ap (λ (x : ℕ). record { at = x; len = l; ended = e }) p
    ∙ ap (λ (x : ℕ). record { at = a'; len = x; ended = e }) q
    ∙ ap (λ (x : Bool). record { at = a'; len = l'; ended = x }) r

pub nothing_left : (from room len : ℕ) → ◌≡◌ {A = Gathered} (record { at = from; len = len; ended = false }) (gathered [] from room len)
nothing_left from room len = same-gathered (omega arith) (omega arith) refl

module _ (bs : List ℕ) (n from room len kept : ℕ) (line : PieceEnds 10 bs n) (keeps : kept ≡ place_after room len (length (take n bs))) where
  length-here : length (line_here bs) ≡ n
  length-here = ap length (line-here bs n line) ∙ length-take-le n bs line.within

  keeps_here : kept ≡ place_after room len (length (line_here bs))
  keeps_here = keeps ∙ ap (λ (l : List ℕ). place_after room len (length l)) (sym (line-here bs n line))

  pub ended_here : n < length bs → ◌≡◌ {A = Gathered} (record { at = from + n + 1; len = kept; ended = true }) (gathered bs from room len)
  ended_here h =
      same-gathered (rw (line-ended bs n line h) (omega (arith, length-here))) keeps_here (sym (line-ended bs n line h))

  pub open-here : length bs ≤ n → ◌≡◌ {A = Gathered} (record { at = from + n; len = kept; ended = false }) (gathered bs from room len)
  open-here h =
      same-gathered (rw (line-open bs n line h) (omega (arith, length-here))) keeps_here (sym (line-open bs n line h))

-- some of a chunk that is not at its end is taken, so that reading goes on
pub moves : (bs : List ℕ) (from room len : ℕ) → 0 < length bs → from < (gathered bs from room len).at
moves [] from room len h = absurd (omega arith)
moves (b ∷ bs) from room len h = by_cases (eqb b 10)
  where
    ends : (ps : List (List ℕ)) → 0 < length ps → from < from + length (first (onto b ps)) + cond (ltb 1 (length (onto b ps))) 1 0
    ends [] h' = absurd (omega arith)
    ends (p ∷ ps) h' = omega arith

    by_cases : (t : Bool) → from < from + length (first (cond t ([] ∷ cut 10 bs) (onto b (cut 10 bs)))) + cond (ltb 1 (length (cond t ([] ∷ cut 10 bs) (onto b (cut 10 bs))))) 1 0
    by_cases true = rw (lt-ltb 1 (suc (length (cut 10 bs))) (omega (arith, cut-some 10 bs))) (omega arith)
    by_cases false = ends (cut 10 bs) (cut-some 10 bs)
