-- `calls::run_last` meets its contract: nothing is held of an empty line alone. Assumes nothing.
use Prim.Native.Nat.{◌<◌}
use borrow.Author.Rules.{rules}
use native.Mathlib.Omega.{arith}
use Rattle.texts.proofs.Outputs.{still_same}
use Rattle.lines.proofs.Going.{last_none, last_some}
use Rattle.calls.specs.Run.{line_after}
use Rattle.calls.proofs.Enough.{enough}
use Rattle.calls.proofs.run_last.Goals as goal

pub returns-then-held-eq0 : goal.returns-then-held-eq0
returns-then-held-eq0 g c = let a = c.args in record {
  ready = still_same c.requires;
  ended = last_none line_after a.held.now.bytes a.t.now a.held.now.len (omega arith);
  not_shown = search rules;
  place_left = search rules;
  no_error = λ h. search rules;
}

pub returns : goal.returns
returns g c =
    let a = c.args in
    let r = c.run_line in
    let some : 0 < a.held.now.len = omega (arith, c.if-held-eq0.false) in record {
      ready = r.ensures.ready;
      ended = last_some line_after enough a.held.now.bytes a.t.now r.new.t a.held.now.len some (omega arith) r.ensures.t_after;
      not_shown = r.ensures.not_shown;
      place_left = r.ensures.place_left;
      no_error = r.ensures.no_error;
    }
