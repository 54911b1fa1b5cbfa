-- What a command prints, from docs/RULES.md, "The lines of `heap_calls`".
use Rattle.std.specs.Prelude.{Bool, true, false, cond, List, [], ◌∷◌, ◌++◌, ℕ, length, Result, Ok, Err}
use Rattle.answers.specs.Paper.{paper}
use Rattle.linked_list.specs.Links.{nodes}
use Rattle.texts.specs.Bytes.{bytes}
use Rattle.texts.specs.Text.{decimal, line_feed, bad_line}
use Rattle.heap_state.specs.Lists.{list}
use Rattle.heap_state.specs.State.{State, Outcome}
use Rattle.heap_blocks.specs.Sound.{is_sound}
use Rattle.heap_core.specs.Deciding.{memory}
use Rattle.heap.specs.Outcome.{outcome, StatsAllocUser, StatsAllocActual, StatsTotalBytes}
use Rattle.heap_lines.specs.declared.Command.{Command}
use Rattle.heap_lines.specs.declared.Command.TheVariants.{Make, Remake, Call, List as ListOf, Stats, Set as Setting}
use Rattle.grammar.specs.declared.BadLine.{BadLine as NoCommand}
use Rattle.heap_runs.specs.declared.Printed.{Printed}
use Rattle.heap_runs.specs.declared.Printed.TheVariants.{Reply, Figures, Nodes, Set, BadLine}
use Rattle.heap_runs.specs.Run.{Machine, lent_state, too_many, made, remade, call_of, inside}

abbrev pub set_line : List ℕ
set_line = bytes "set\n"

abbrev pub spaced : ℕ → List ℕ
spaced n = bytes " " ++ decimal n

-- "`NUMBER VALUE`"
abbrev pub reply_text : ℕ → ℕ → List ℕ
reply_text number value = decimal number ++ spaced value ++ line_feed

abbrev pub outcome_text : Outcome → List ℕ
outcome_text o = reply_text o.number o.value

-- "`NUMBER user allocated total`"
abbrev pub figures_text : ℕ → ℕ → ℕ → ℕ → List ℕ
figures_text number user allocated total = decimal number ++ spaced user ++ spaced allocated ++ spaced total ++ line_feed

-- "`NUMBER COUNT`, and the addresses in list order"; docs/DECISIONS.md: "`list` of an unsound heap prints `3 0`"
abbrev pub addresses : List ℕ → List ℕ
addresses [] = []
addresses (a ∷ rest) = spaced a ++ addresses rest

abbrev pub list_text : List ℕ → List ℕ
list_text ns = (bytes "0 " ++ decimal (length ns)) ++ addresses ns ++ line_feed

abbrev pub listed : Bool → List ℕ → List ℕ
listed true ns = list_text ns
listed false ns = reply_text 3 0

abbrev pub figured : State → List ℕ
figured s = figures_text (outcome StatsAllocUser s).number (outcome StatsAllocUser s).value (outcome StatsAllocActual s).value (outcome StatsTotalBytes s).value

unfoldable pub printed : Result Command NoCommand → Machine → List ℕ
printed (Ok (Make order words records)) m = cond (too_many words records) bad_line (outcome_text (made order words records m))
printed (Ok (Remake order)) m = outcome_text (remade order m)
printed (Ok (Call call)) m = outcome_text (outcome (call_of call) (lent_state m))
printed (Ok (ListOf class)) m = listed (is_sound (lent_state m)) (list class (memory (lent_state m)))
printed (Ok Stats) m = figured (lent_state m)
printed (Ok (Setting cell value)) m = cond (inside cell m.lent) set_line bad_line
printed (Err e) m = bad_line

-- ---- the line that the code has to print, from what it got and the arena that is lent
abbrev pub line_of : List ℕ → Printed → List ℕ
line_of arena (Reply a) = reply_text (paper a).number (paper a).value
line_of arena (Figures user allocated total) = figures_text (paper user).number (paper user).value (paper allocated).value (paper total).value
line_of arena (Nodes head count) = (bytes "0 " ++ decimal count) ++ addresses (nodes (length arena) arena head) ++ line_feed
line_of arena Set = set_line
line_of arena BadLine = bad_line

-- a line that may be longer than the buffer of the output, and is put there node by node
abbrev pub by_node : Printed → Bool
by_node (Reply a) = false
by_node (Figures user allocated total) = false
by_node (Nodes head count) = true
by_node Set = false
by_node BadLine = false

abbrev pub is_long : Result Command NoCommand → Machine → Bool
is_long (Ok (Make order words records)) m = false
is_long (Ok (Remake order)) m = false
is_long (Ok (Call call)) m = false
is_long (Ok (ListOf class)) m = is_sound (lent_state m)
is_long (Ok Stats) m = false
is_long (Ok (Setting cell value)) m = false
is_long (Err e) m = false
