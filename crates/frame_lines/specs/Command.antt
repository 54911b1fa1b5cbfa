-- The commands, from docs/RULES.md, "The lines of `calls`": "Its commands are `order N`, `add S E`, `alloc N`, `at S N`, `free S N`".
use Rattle.std.specs.Prelude.{cond, List, [], ◌∷◌, ℕ, Result, Ok, Err}
use Rattle.texts.specs.Bytes.{bytes}
use Rattle.grammar.specs.Line.{Line, said, bad, line_of, same}
use Rattle.grammar.specs.declared.BadLine.{BadLine}
use Rattle.frame_lines.specs.declared.Command.{Command}
use Rattle.frame_lines.specs.declared.Command.TheVariants.{Order, Add, Alloc, At, Free}

-- the names' bytes
abbrev pub order : List ℕ
order = bytes "order"

abbrev pub add : List ℕ
add = bytes "add"

abbrev pub alloc : List ℕ
alloc = bytes "alloc"

abbrev pub at : List ℕ
at = bytes "at"

abbrev pub free : List ℕ
free = bytes "free"

-- "else it prints `bad line`"
abbrev pub no_command : Result Command BadLine
no_command = Err (record {})

abbrev pub one_number : List ℕ → ℕ → Result Command BadLine
one_number name a = cond (same name order) (Ok (Order a)) (cond (same name alloc) (Ok (Alloc a)) no_command)

abbrev pub two_numbers : List ℕ → ℕ → ℕ → Result Command BadLine
two_numbers name a b = cond (same name add) (Ok (Add a b)) (cond (same name at) (Ok (At a b)) (cond (same name free) (Ok (Free a b)) no_command))

abbrev pub command_said : Line → Result Command BadLine
command_said bad = no_command
command_said (said name []) = no_command
command_said (said name (a ∷ [])) = one_number name a
command_said (said name (a ∷ b ∷ [])) = two_numbers name a b
command_said (said name (a ∷ b ∷ c ∷ ns)) = no_command

abbrev pub command_of : List ℕ → Result Command BadLine
command_of bs = command_said (line_of bs)
