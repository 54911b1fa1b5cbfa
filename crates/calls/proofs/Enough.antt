-- Of a line the first 81 bytes are enough to run it.
use mathlib.Core.List.{List}
use mathlib.Core.Path.{◌≡◌, ap}
use Prim.Native.Nat.{ℕ}
use lib.ListN.{take}
use Rattle.frame_lines.specs.Command.{command_said}
use Rattle.grammar.specs.Line.{Line}
use Rattle.grammar.proofs.Sayings.{line-enough}
use Rattle.calls.specs.Run.{words_after, line_after}

pub enough : (l ws : List ℕ) → line_after (take 81 l) ws ≡ line_after l ws
enough l ws = ap (λ (x : Line). words_after (command_said x) ws) (line-enough l)
