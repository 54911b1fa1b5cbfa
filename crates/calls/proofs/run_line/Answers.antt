-- `calls::run_line` meets its contract: the command that the line is was run. Assumes nothing.
use mathlib.Core.Path.{ap, ◌∙◌}
use native.Mathlib.Omega.{arith}
use borrow.Author.Rules.{rules}
use Rattle.texts.proofs.Outputs.{still_puts}
use Rattle.frame_lines.specs.Command.{command_of}
use Rattle.std.specs.Prelude.{Result}
use Rattle.grammar.specs.declared.BadLine.{BadLine}
use Rattle.frame_lines.specs.declared.Command.{Command}
use Rattle.calls.specs.Run.{printed, words_after}
use Rattle.calls.proofs.Showing.{shown}
use Rattle.calls.proofs.run_line.Goals as goal

pub returns : goal.returns
returns g c =
    let a = c.args in
    let command = c.command_of.ensures in
    let reply = c.run-reply in
    let free = c.in_ok-room.ensures in
    let p = c.put_printed in record {
      ready = still_puts free.ready p.ensures;
      t_after = reply.ensures.t_after ∙ ap (λ (m : Result Command BadLine). words_after m a.t.now) command;
      shown = shown reply.result (printed (command_of a.line.now) a.t.now) c.room.new.self p.new.out a.out.now.bytes.now free.bytes_left.bytes
          (reply.ensures.result_value ∙ ap (λ (m : Result Command BadLine). printed m a.t.now) command) (omega (arith, free.made)) p.ensures;
      not_shown = search rules;
      place_left = search rules;
      no_error = λ h. search rules;
    }

pub returns-in_err-room : goal.returns-in_err-room
returns-in_err-room g c =
    let a = c.args in
    let e = c.in_err-room.ensures in
    record {
      ready = e.ready;
      t_after = c.run-reply.ensures.t_after ∙ ap (λ (m : Result Command BadLine). words_after m a.t.now) c.command_of.ensures;
      shown = search rules;
      not_shown = search rules;
      place_left = search rules;
      no_error = λ h. absurd (e.no_error h);
    }
