-- What the promises of the code say: of a line, of a chunk of the input, and of its end.
use Rattle.std.specs.Prelude.{false, List, ◌≡◌, ℕ}
use Rattle.lines.specs.Running as running
use Rattle.texts.specs.Put.{Shown}
use Rattle.heap_lines.specs.Command.{command_of}
use Rattle.heap_runs.specs.Run.{Machine, after}
use Rattle.heap_runs.specs.Text.{printed, is_long}

abbrev pub line_after : List ℕ → Machine → Machine
line_after line m = after (command_of line) m

-- a line's whole text is put, unless it is a list's, which may be longer than the buffer
abbrev pub ShownShort : List ℕ → Machine → List ℕ → ℕ → List ℕ → Type 0
ShownShort line m buffer end left = is_long (command_of line) m ≡ false → Shown (printed (command_of line) m) buffer end left

abbrev pub Took : List ℕ → List ℕ → ℕ → Machine → List ℕ → ℕ → Machine → Type 0
Took = running.Took line_after

-- and of a chunk of which the output failed
abbrev pub Stopped : List ℕ → List ℕ → ℕ → Machine → Machine → Type 0
Stopped = running.Stopped line_after

abbrev pub Ended : List ℕ → ℕ → Machine → Machine → Type 0
Ended = running.Ended line_after
