-- What a command of `calls` prints and leaves, from docs/RULES.md, "The lines of `calls`".
use Rattle.std.specs.Prelude.{Bool, true, false, List, [], ◌∷◌, ℕ, eqb, Result, Ok, Err}
use Rattle.answers.specs.Paper.{paper}
use Rattle.frame.specs.Outcome as frame
use Rattle.frame_core.specs.Carried.{Reply, Outcome}
use Rattle.table.specs.Layout.{mark_of, class_of, start_of}
use Rattle.frame_lines.specs.Command.{command_of}
use Rattle.grammar.specs.declared.BadLine.{BadLine as NoCommand}
use Rattle.lines.specs.Running as running
use Rattle.texts.specs.Text.{bad_line}
use Rattle.frame_lines.specs.Text.{reply_text, record_text}
use Rattle.frame_lines.specs.declared.Command.{Command}
use Rattle.frame_lines.specs.declared.Command.TheVariants.{Order, Add, Alloc, At, Free}
use Rattle.calls.specs.declared.Printed.{Printed}
use Rattle.calls.specs.declared.Printed.TheVariants.{Reply as Printed·reply, BadLine}

abbrev pub first : List ℕ → ℕ
first [] = 0
first (v ∷ vs) = v

-- the line of a reply, with its value or without
abbrev pub reply_line : Reply → Bool → List ℕ
reply_line r valued = reply_text r.number (first r.values) valued

-- "Its commands are `order N` (makes the table anew), `add S E`, `alloc N`, `at S N`, `free S N`"; a bad line leaves the table
abbrev pub outcome_of : Result Command NoCommand → List ℕ → Outcome
outcome_of (Ok (Order n)) ws = frame.making n ws
outcome_of (Ok (Add s e)) ws = frame.outcome (frame.Add s e) ws
outcome_of (Ok (Alloc n)) ws = frame.outcome (frame.Alloc n) ws
outcome_of (Ok (At s n)) ws = frame.outcome (frame.AllocAt s n) ws
outcome_of (Ok (Free s n)) ws = frame.outcome (frame.Dealloc s n) ws
outcome_of (Err e) ws = record { reply = record { number = 0; values = [] }; words = ws }

-- the words of the table afterwards
abbrev pub words_after : Result Command NoCommand → List ℕ → List ℕ
words_after c ws = (outcome_of c ws).words

-- "It prints `ok`, a start, or `no` and the number": a start for the two grants; "else it prints `bad line`"
abbrev pub line_for : Result Command NoCommand → Reply → List ℕ
line_for (Ok (Order n)) r = reply_line r false
line_for (Ok (Add s e)) r = reply_line r false
line_for (Ok (Alloc n)) r = reply_line r true
line_for (Ok (At s n)) r = reply_line r true
line_for (Ok (Free s n)) r = reply_line r false
line_for (Err e) r = bad_line

abbrev pub printed : Result Command NoCommand → List ℕ → List ℕ
printed c ws = line_for c (outcome_of c ws).reply

-- the line that the code has to print, from what it got
abbrev pub line_of : Printed → List ℕ
line_of (Printed·reply a valued) = reply_text (paper a).number (paper a).value valued
line_of BadLine = bad_line

-- "each record as start, class, and `granted` or `free`": the line of a record's word
abbrev pub block_line : ℕ → List ℕ
block_line w = record_text (start_of w) (class_of w) (eqb (mark_of w) 1)

-- ---- line after line

-- the words after a line of the input
abbrev pub line_after : List ℕ → List ℕ → List ℕ
line_after l ws = words_after (command_of l) ws

-- what is promised of a chunk, and of the input's end
abbrev pub Took : List ℕ → List ℕ → ℕ → List ℕ → List ℕ → ℕ → List ℕ → Type 0
Took = running.Took line_after

-- and of a chunk of which the output failed
abbrev pub Stopped : List ℕ → List ℕ → ℕ → List ℕ → List ℕ → Type 0
Stopped = running.Stopped line_after

abbrev pub Ended : List ℕ → ℕ → List ℕ → List ℕ → Type 0
Ended = running.Ended line_after
