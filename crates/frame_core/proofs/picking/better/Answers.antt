-- `frame_core::picking::better` meets its contract: both tests hold exactly when the difference, wrapped, is small. Assumes nothing.
use Rattle.std.proofs.Common.{arith}
use Rattle.frame_core.proofs.Pass.{one-test}
use Rattle.frame_core.proofs.picking.better.Goals as goal

pub returns : goal.returns
returns c =
    let a = c.args in
    one-test a.class a.low a.w _ (omega arith) (omega arith) c.ranges.w.fits (omega arith) (omega (arith, c.ranges.w.fits))
