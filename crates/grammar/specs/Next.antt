-- What the code finds after a word of a line: a step towards `line_of`.
use Rattle.std.specs.Prelude.{List, [], ◌≡◌, ℕ, suc, length, Option, Some, None, Result, Ok, Err}
use Rattle.grammar.specs.Line.{before, numbers_of, not_all}
use Rattle.lines.specs.Pieces.{pieces_after}
use Rattle.grammar.specs.declared.BadLine.{BadLine}

-- nothing; a number, and what is found after the place where it ends; or a word that is no number
abbrev pub NextIs : List ℕ → ℕ → Result (Option (ℕ × ℕ)) BadLine → Type 0
NextIs bs at (Ok None) = pieces_after 32 bs at ≡ []
NextIs bs at (Ok (Some p)) =
    (numbers_of (pieces_after 32 bs at) ≡ before (Some p.0) (numbers_of (pieces_after 32 bs p.1)))
    × (length (pieces_after 32 bs at) ≡ suc (length (pieces_after 32 bs p.1)))
NextIs bs at (Err e) = numbers_of (pieces_after 32 bs at) ≡ not_all
