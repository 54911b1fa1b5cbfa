-- What the promises of the code say of a command that was run.
use Rattle.std.specs.Prelude.{false, ◌≡◌, ℕ, take, Result}
use Rattle.heap_core.specs.Deciding.{memory}
use Rattle.heap_state.specs.Lists.{list}
use Rattle.heap_blocks.specs.Sound.{is_sound}
use Rattle.heap_state.specs.State.{State}
use Rattle.heap_state.specs.declared.Reply.{Reply}
use Rattle.grammar.specs.declared.BadLine.{BadLine}
use Rattle.heap_lines.specs.declared.Command.{Command}
use Rattle.heap_runs.specs.declared.Lent.{Lent}
use Rattle.heap_runs.specs.declared.Machine.{Machine as Memory}
use Rattle.heap_runs.specs.declared.Printed.{Printed}
use Rattle.heap_runs.specs.declared.Printed.TheVariants.{Reply as Printed·reply}
use Rattle.heap_runs.specs.declared.Ran.{Ran}
use Rattle.heap_runs.specs.Run.{Machine, machine, after}
use Rattle.heap_runs.specs.Text.{printed, listed, figured, line_of, by_node, is_long}

-- the struct of the code without its bounds
abbrev pub machine_of : Memory → Machine
machine_of m = machine m.lent m.arena m.ledger

abbrev pub ran_with : Lent → Printed → Ran
ran_with lent line = record { lent = lent; line = line }

-- a reply over so many words
abbrev pub replied_with : Reply → ℕ → ℕ → Ran
replied_with r words records = ran_with (record { heap = r.heap; words = words; records = records }) (Printed·reply r.answer)

-- what `list` prints of a heap over words that are lent, and what `stats` prints
pub record Lists (class : ℕ) (s : State) (line : Printed) : Type 0 where
  pub line_is : line_of s.arena line ≡ listed (is_sound s) (list class (memory s))
  pub long_is : by_node line ≡ is_sound s

pub record Figured (s : State) (line : Printed) : Type 0 where
  pub line_is : line_of s.arena line ≡ figured s
  pub long_is : by_node line ≡ false

-- a command was run: what is held, every word, and the line are the definition's
pub record Does (command : Result Command BadLine) (before left : Machine) (line : Printed) : Type 0 where
  pub machine_is : left ≡ after command before
  pub line_is : line_of (take left.lent.words left.arena) line ≡ printed command before
  pub long_is : by_node line ≡ is_long command before
