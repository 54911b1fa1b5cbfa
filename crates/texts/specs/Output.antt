-- What the methods of an output say: of the struct as it was, and as it is.
use Rattle.std.specs.Prelude.{List, ◌≡◌, ℕ, ◌≤◌, length}
use Rattle.texts.specs.declared.Output.{Output}
use Rattle.texts.specs.Put.{Put}

-- a text was put at the output's place, in the same buffer
pub record Puts (text : List ℕ) (before after : Output) : Type 0 where
  pub put : Put text before.bytes.now before.at after.at after.bytes.now
  pub same_buffer : after.bytes.ghost_name ≡ before.bytes.ghost_name

-- the buffer is the same, with the same bytes
pub record SameBytes (before after : Output) : Type 0 where
  pub bytes : after.bytes.now ≡ before.bytes.now
  pub same_buffer : after.bytes.ghost_name ≡ before.bytes.ghost_name

-- what waits is within the buffer, and the buffer has room for any piece
pub record Ready (out : Output) : Type 0 where
  pub in_bounds : out.at ≤ length out.bytes.now
  pub has_room : 160 ≤ length out.bytes.now

-- an output to which text went, piece after piece, with room made for each
pub record StillReady (before after : Output) : Type 0 where
  pub ready : Ready after
  pub same_length : length after.bytes.now ≡ length before.bytes.now
  pub same_buffer : after.bytes.ghost_name ≡ before.bytes.ghost_name
