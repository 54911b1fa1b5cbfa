-- `frame::add_frame` meets its contract: the soundness test, then the part that does the call. Assumes nothing.
use mathlib.Core.Path.{refl, sym, ◌∙◌}
use Rattle.std.proofs.lemmas.Result.{err_from_is_err_and}
use Rattle.frame.specs.Outcome.{Add}
use Rattle.frame.proofs.Shells.{unsound, added}
use Rattle.frame.proofs.add_frame.Goals as goal

pub returns-in_err-checked : goal.returns-in_err-checked
returns-in_err-checked c =
    let a = c.args in
    let p = err_from_is_err_and c.from_residual.result c.from_residual.ensures.1 in
    rw (p.1, p.2, c.in_err-checked.ensures.err.0) (unsound a.t.now (Add a.start a.end) refl c.in_err-checked.ensures.err.1)

pub returns : goal.returns
returns c =
    let a = c.args in
    added a.t.now c.in_ok-checked.ensures.ok a.start a.end c.add_range.ensures
