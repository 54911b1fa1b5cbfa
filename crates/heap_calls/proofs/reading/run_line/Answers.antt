-- `heap_calls::reading::run_line` meets its contract: the command that the line is was run. Assumes nothing.
use Rattle.grammar.specs.declared.BadLine.{BadLine}
use Rattle.std.specs.Prelude.{Result}
use borrow.Author.Rules.{rules}
use mathlib.Core.Bool.{false}
use mathlib.Core.Path.{◌≡◌, ap, ◌∙◌}
use native.Mathlib.Omega.{arith}
use lib.ListN.{take}
use Rattle.std.specs.Prelude.{Result, Ok, Err, IfOk}
use Rattle.texts.proofs.Outputs.{still_then}
use Rattle.heap_lines.specs.declared.Command.{Command}
use Rattle.heap_lines.specs.Command.{command_of}
use Rattle.heap_runs.specs.Run.{after}
use Rattle.heap_runs.specs.Running.{machine_of}
use Rattle.heap_runs.specs.Text.{printed, by_node, is_long}
use Rattle.heap_shown.proofs.Lengths.{shown}
use Rattle.heap_calls.proofs.reading.run_line.Goals as goal

if_ok : {T E P : Type 0} (r : Result T E) → P → IfOk r (λ _. P)
if_ok (Ok x) p = p
if_ok (Err e) p = tt

pub returns : goal.returns
returns g c =
    let a = c.args in
    let m = machine_of a.machine.now in
    let command = c.command_of.ensures in
    let r = c.run-printed in
    let free = c.in_ok-room.ensures in
    let p = c.put_printed in
    let short : is_long (command_of a.line.now) m ≡ false → by_node r.result ≡ false = λ h. r.ensures.long_is ∙ ap (λ (k : Result Command BadLine). is_long k m) command ∙ h in
    record {
      ready = still_then free.ready p.ensures.ready;
      machine_after = r.ensures.machine_is ∙ ap (λ (k : Result Command BadLine). after k m) command;
      shown_short = if_ok p.result (λ h.
          shown (take r.new.self.lent.words r.new.self.arena) r.result (printed (command_of a.line.now) m) c.room.new.self p.new.out a.out.now.bytes.now (short h) free.bytes_left.bytes
          (r.ensures.line_is ∙ ap (λ (k : Result Command BadLine). printed k m) command) (omega (arith, free.made)) (p.ensures.put (short h)).1);
      no_error = λ h room. (p.ensures.put (short h)).0;
    }

pub returns-in_err-room : goal.returns-in_err-room
returns-in_err-room g c =
    let a = c.args in
    let e = c.in_err-room.ensures in
    record {
      ready = e.ready;
      machine_after = c.run-printed.ensures.machine_is ∙ ap (λ (m : Result Command BadLine). after m (machine_of a.machine.now)) c.command_of.ensures;
      shown_short = search rules;
      no_error = λ h r. absurd (e.no_error r);
    }
