-- `frame::alloc` meets its contract: the soundness test, then the part that does the call. Assumes nothing.
use mathlib.Core.Path.{refl, sym, ◌∙◌}
use Rattle.std.proofs.lemmas.Result.{err_from_is_err_and}
use Rattle.frame.specs.Outcome.{Alloc}
use Rattle.frame.proofs.Shells.{small, unsound, granted}
use Rattle.frame.proofs.alloc.Goals as goal

pub returns-in_err-checked : goal.returns-in_err-checked
returns-in_err-checked c =
    let a = c.args in
    let p = err_from_is_err_and c.from_residual.result c.from_residual.ensures.1 in
    rw (p.1, p.2, c.in_err-checked.ensures.err.0) (unsound a.t.now (Alloc a.count) refl c.in_err-checked.ensures.err.1)

pub grant_block-requires : goal.grant_block-requires
grant_block-requires c =
    (c.in_ok-checked.ensures.ok, rw c.round.ensures (small _))

pub returns : goal.returns
returns c =
    let a = c.args in
    granted a.t.now c.in_ok-checked.ensures.ok a.count (rw c.round.ensures at c.grant_block.ensures)
