-- Of a line the first 81 bytes are enough to run it.
use mathlib.Core.List.{List}
use mathlib.Core.Path.{◌≡◌, ap}
use Prim.Native.Nat.{ℕ}
use lib.ListN.{take}
use Rattle.grammar.specs.Line.{Line}
use Rattle.grammar.proofs.Sayings.{line-enough}
use Rattle.heap_lines.specs.Command.{command_said, command_of}
use Rattle.heap_runs.specs.Run.{Machine, after}
use Rattle.heap_calls.specs.Running.{line_after}

pub enough : (l : List ℕ) (m : Machine) → line_after (take 81 l) m ≡ line_after l m
unfolding command_of
enough l m = ap (λ (x : Line). after (command_said x) m) (line-enough l)
