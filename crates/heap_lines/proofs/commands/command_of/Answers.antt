-- `heap_lines::commands::command_of` meets its contract: the first name of each number of numbers. Assumes nothing.
use mathlib.Core.Path.{◌≡◌, sym, ap, ◌∙◌}
use Rattle.std.specs.Prelude.{Ok}
use Rattle.grammar.specs.Line.{line_said}
use Rattle.heap_lines.specs.Command.{command_of, command_said, one_number, three_numbers}
use Rattle.heap_lines.proofs.commands.command_of.Goals as goal
use lib.ListN.{take}

pub returns-in-One-6 : goal.returns-in-One-6
unfolding command_of
returns-in-One-6 c =
    let said : command_of c.args.line.now ≡ one_number (take c.in-One.n c.args.line.now) c.in-One.a =
    ap command_said (sym c.say.ensures.result_value ∙ ap (line_said c.args.line.now) (c.in_ok-n.was ∙ ap Ok c.in-One.is)) in
    sym
    (said
    ∙ rw (
      sym c.if-named-2.ensures,
      sym c.if-named-3.ensures,
      sym c.if-named-4.ensures,
      sym c.if-named-5.ensures,
      sym c.if-named-6.ensures,
      sym c.if-named-7.ensures,
    ))

pub returns-in-Three-2 : goal.returns-in-Three-2
unfolding command_of
returns-in-Three-2 c =
    let said : command_of c.args.line.now ≡ three_numbers (take c.in-Three.n c.args.line.now) c.in-Three.a c.in-Three.b c.in-Three.c =
    ap command_said (sym c.say.ensures.result_value ∙ ap (line_said c.args.line.now) (c.in_ok-n.was ∙ ap Ok c.in-Three.is)) in
    sym (said ∙ rw (sym c.if-named-15.ensures, sym c.if-named-16.ensures))
