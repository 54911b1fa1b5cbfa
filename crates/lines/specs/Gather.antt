-- The lines of an input, and what is taken of a chunk of it for the line at hand.
use Rattle.std.specs.Prelude.{Bool, cond, List, [], ◌∷◌, ◌++◌, ℕ, ◌+◌, eqb, ltb, length}
use Rattle.lines.specs.Pieces.{cut}
use Rattle.texts.specs.Put.{place_after}
use Rattle.lines.specs.declared.Gathered.{Gathered}

abbrev pub first : List (List ℕ) → List ℕ
first [] = []
first (p ∷ ps) = p

-- the bytes up to the first line feed, the byte 10, or all where there is none
abbrev pub line_here : List ℕ → List ℕ
line_here bs = first (cut 10 bs)

-- there is a line feed
abbrev pub line_ends : List ℕ → Bool
line_ends bs = ltb 1 (length (cut 10 bs))

-- what is taken of the rest of a chunk, which starts at a place of it, behind the len bytes that a buffer of some room holds
abbrev pub gathered : List ℕ → ℕ → ℕ → ℕ → Gathered
gathered bs from room len = record {
  at = from + length (line_here bs) + cond (line_ends bs) 1 0;
  len = place_after room len (length (line_here bs));
  ended = line_ends bs;
}

-- ---- the lines of an input

-- the pieces that ended, and the one that is open at the end
abbrev pub ended_of : List (List ℕ) → List (List ℕ)
ended_of [] = []
ended_of (p ∷ []) = []
ended_of (p ∷ q ∷ ps) = p ∷ ended_of (q ∷ ps)

abbrev pub open_of : List (List ℕ) → List ℕ
open_of [] = []
open_of (p ∷ []) = p
open_of (p ∷ q ∷ ps) = open_of (q ∷ ps)

-- docs/DECISIONS.md: "A last line without a line feed counts; a final line feed starts no further line."
abbrev pub last_line : List ℕ → List (List ℕ)
last_line [] = []
last_line (b ∷ bs) = (b ∷ bs) ∷ []

abbrev pub lines_of : List ℕ → List (List ℕ)
lines_of input = ended_of (cut 10 input) ++ last_line (open_of (cut 10 input))

-- ---- the same byte by byte, as a program reads: the lines so far, and what is held of the next
pub record Reading : Type 0 where
  pub done : List (List ℕ)
  pub held : List ℕ

abbrev pub fed_byte : Reading → ℕ → Reading
fed_byte r b = cond (eqb b 10) (record { done = r.done ++ (r.held ∷ []); held = [] }) (record { done = r.done; held = r.held ++ (b ∷ []) })

abbrev pub fed : Reading → List ℕ → Reading
fed r [] = r
fed r (b ∷ bs) = fed (fed_byte r b) bs

abbrev pub lines_read : Reading → List (List ℕ)
lines_read r = r.done ++ last_line r.held

-- bytes put before the first piece
abbrev pub front : List ℕ → List (List ℕ) → List (List ℕ)
front h [] = h ∷ []
front h (p ∷ ps) = (h ++ p) ∷ ps
