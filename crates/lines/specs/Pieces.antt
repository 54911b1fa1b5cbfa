-- Bytes cut at a separator: a line at its spaces, an input at its line feeds.
use Rattle.std.specs.Prelude.{cond, List, [], ◌∷◌, ◌≡◌, ℕ, ◌+◌, ◌≤◌, eqb, ltb, length, take, drop}

-- a byte put before the first piece
abbrev pub onto : ℕ → List (List ℕ) → List (List ℕ)
onto b [] = (b ∷ []) ∷ []
onto b (p ∷ ps) = (b ∷ p) ∷ ps

-- one piece more than there are separators: one at an end, or next to another, leaves an empty piece
abbrev pub cut : ℕ → List ℕ → List (List ℕ)
cut s [] = [] ∷ []
cut s (b ∷ bs) = cond (eqb b s) ([] ∷ cut s bs) (onto b (cut s bs))

-- the pieces after the one that ends at a place, where a separator stands or the bytes end
abbrev pub pieces_after : ℕ → List ℕ → ℕ → List (List ℕ)
pieces_after s bs at = cond (ltb at (length bs)) (cut s (drop (at + 1) bs)) []

-- the first piece ends at this place
pub record PieceEnds (s : ℕ) (bs : List ℕ) (place : ℕ) : Type 0 where
  pub within : place ≤ length bs
  pub pieces : cut s bs ≡ take place bs ∷ pieces_after s bs place
