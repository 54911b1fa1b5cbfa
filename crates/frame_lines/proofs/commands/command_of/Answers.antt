-- `frame_lines::commands::command_of` meets its contract: the first name of each number of numbers. Assumes nothing.
use mathlib.Core.Path.{sym, ap, ◌∙◌}
use Rattle.std.specs.Prelude.{Ok}
use Rattle.grammar.specs.Line.{line_said}
use Rattle.frame_lines.specs.Command.{command_said}
use Rattle.frame_lines.proofs.commands.command_of.Goals as goal

pub returns-in-One : goal.returns-in-One
returns-in-One c =
    sym (ap command_said (sym c.say.ensures.result_value ∙ ap (line_said c.args.line.now) (c.in_ok-n.was ∙ ap Ok c.in-One.is)) ∙ rw (sym c.if-named.ensures))

pub returns-in-Two : goal.returns-in-Two
returns-in-Two c =
    sym (ap command_said (sym c.say.ensures.result_value ∙ ap (line_said c.args.line.now) (c.in_ok-n.was ∙ ap Ok c.in-Two.is)) ∙ rw (sym c.if-named-3.ensures))
