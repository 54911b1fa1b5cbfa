-- Text put into a buffer at a place: byte by byte, where a byte that has no place in the buffer changes nothing.
use Rattle.std.specs.Prelude.{List, ◌≡◌, ℕ, ◌+◌, min, max, length}
use Rattle.std.proofs.lemmas.List.Edits.{sets}

-- the place after so many bytes: none goes past the buffer's end
abbrev pub place_after : ℕ → ℕ → ℕ → ℕ
place_after room at count = min (at + count) (max at room)

pub record Put (text buffer : List ℕ) (at after : ℕ) (left : List ℕ) : Type 0 where
  pub bytes : left ≡ sets buffer at text
  pub place : after ≡ place_after (length buffer) at (length text)

-- a text stands whole in a buffer, from some place on
pub record Shown (text buffer : List ℕ) (after : ℕ) (left : List ℕ) : Type 0 where
  pub from : ℕ
  pub put : Put text buffer from after left
  pub whole : after ≡ from + length text
