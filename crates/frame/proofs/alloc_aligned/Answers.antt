-- `frame::alloc_aligned` meets its contract: the tests of the table and of the alignment, then the part that does the call. Assumes nothing.
use mathlib.Core.Path.{refl, sym, ◌∙◌}
use Rattle.std.proofs.lemmas.Result.{err_from_is_err_and}
use Rattle.frame.specs.Outcome.{AllocAligned}
use Rattle.frame.proofs.Shells.{small-aligned, unsound, bad-align, granted-aligned}
use Rattle.frame.proofs.alloc_aligned.Goals as goal

pub returns-in_err-checked : goal.returns-in_err-checked
returns-in_err-checked c =
    let a = c.args in
    let p = err_from_is_err_and c.from_residual.result c.from_residual.ensures.1 in
    rw (p.1, p.2, c.in_err-checked.ensures.err.0) (unsound a.t.now (AllocAligned a.size a.align) refl c.in_err-checked.ensures.err.1)

pub returns-then-not-is_power_of_two : goal.returns-then-not-is_power_of_two
returns-then-not-is_power_of_two c =
    let a = c.args in
    bad-align a.t.now c.in_ok-checked.ensures.ok a.size a.align (sym c.is_power_of_two.ensures ∙ c.if-not-is_power_of_two.true)

pub grant_block-requires : goal.grant_block-requires
grant_block-requires c =
    (c.in_ok-checked.ensures.ok, rw c.round_aligned.ensures (small-aligned _ _))

pub returns : goal.returns
returns c =
    let a = c.args in
    granted-aligned a.t.now c.in_ok-checked.ensures.ok a.size a.align (sym c.is_power_of_two.ensures ∙ c.if-not-is_power_of_two.false) (rw c.round_aligned.ensures at c.grant_block.ensures)
