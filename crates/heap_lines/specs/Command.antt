-- The commands, from the table of docs/RULES.md, "The lines of `heap_calls`".
use Rattle.std.specs.Prelude.{cond, List, [], ◌∷◌, ℕ, Result, Ok, Err}
use Rattle.texts.specs.Bytes.{bytes}
use Rattle.grammar.specs.Line.{Line, said, bad, line_of, same}
use Rattle.grammar.specs.declared.BadLine.{BadLine}
use Rattle.heap_lines.specs.declared.Call.TheVariants.{Add, Init, Alloc, Free, Zero}
use Rattle.heap_lines.specs.declared.Cell.TheVariants.{Arena, Ledger, Head, Count, User, Allocated, Total, Order}
use Rattle.heap_lines.specs.declared.Command.{Command}
use Rattle.heap_lines.specs.declared.Command.TheVariants.{Make, Remake, Call, List as ListOf, Stats, Set}

-- "else `bad line`"
abbrev pub no_command : Result Command BadLine
no_command = Err (record {})

abbrev pub no_number : List ℕ → Result Command BadLine
no_number name = cond (same name (bytes "stats")) (Ok Stats) no_command

-- "`setcount V`, `setuser V`, `setallocated V`, `settotal V`, `setorder V`: puts a field of the record"
abbrev pub one_number : List ℕ → ℕ → Result Command BadLine
one_number name a =
    cond (same name (bytes "remake")) (Ok (Remake a)) (cond (same name (bytes "list")) (Ok (ListOf a)) (cond (same name (bytes "setcount")) (Ok (Set Count a))
    (cond (same name (bytes "setuser")) (Ok (Set User a)) (cond (same name (bytes "setallocated")) (Ok (Set Allocated a)) (cond (same name (bytes "settotal")) (Ok (Set Total a))
    (cond (same name (bytes "setorder")) (Ok (Set Order a)) no_command))))))

abbrev pub two_numbers : List ℕ → ℕ → ℕ → Result Command BadLine
two_numbers name a b =
    cond (same name (bytes "add")) (Ok (Call (Add a b))) (cond (same name (bytes "init")) (Ok (Call (Init a b))) (cond (same name (bytes "alloc")) (Ok (Call (Alloc a b)))
    (cond (same name (bytes "write")) (Ok (Set (Arena a) b)) (cond (same name (bytes "setledger")) (Ok (Set (Ledger a) b)) (cond (same name (bytes "sethead")) (Ok (Set (Head a) b))
    no_command)))))

abbrev pub three_numbers : List ℕ → ℕ → ℕ → ℕ → Result Command BadLine
three_numbers name a b c =
    cond (same name (bytes "heap")) (Ok (Make a b c)) (cond (same name (bytes "free")) (Ok (Call (Free a b c))) (cond (same name (bytes "zero")) (Ok (Call (Zero a b c))) no_command))

abbrev pub command_said : Line → Result Command BadLine
command_said bad = no_command
command_said (said name []) = no_number name
command_said (said name (a ∷ [])) = one_number name a
command_said (said name (a ∷ b ∷ [])) = two_numbers name a b
command_said (said name (a ∷ b ∷ c ∷ [])) = three_numbers name a b c
command_said (said name (a ∷ b ∷ c ∷ d ∷ ns)) = no_command

unfoldable pub command_of : List ℕ → Result Command BadLine
command_of bs = command_said (line_of bs)
