-- `heap::init` meets its contract: the soundness test, then the part that does the call. Assumes nothing.
use mathlib.Core.Path.{sym, ◌∙◌}
use Prim.Native.Nat.{◌+◌, ◌^◌, ◌≤◌}
use native.Mathlib.Omega.{arith}
use Rattle.heap.specs.Outcome.{Init, decide}
use Rattle.heap.proofs.Shells.{unsound, past-64-bits, decided}
use Rattle.heap.proofs.init.Goals as goal

pub returns-then-not-sound : goal.returns-then-not-sound
returns-then-not-sound c =
    rw c.refused.ensures (unsound c.args.h c.args.arena.now c.args.ledger.now (Init c.args.start c.args.size) (sym c.sound.ensures ∙ c.if-not-sound.true))

pub returns-in_default : goal.returns-in_default
returns-in_default c =
    let a = c.args in
    let past = rw c.in_default.is at c.checked_add.ensures in
    let out : 2 ^ 64 ≤ a.start + a.size = omega (arith, past) in
    rw c.refused-in_default.ensures
    (past-64-bits a.h a.arena.now a.ledger.now a.start a.size c.ranges.start.fits (sym c.sound.ensures ∙ c.if-not-sound.false) out)

pub add_range-requires : goal.add_range-requires
add_range-requires c = sym c.sound.ensures ∙ c.if-not-sound.false

pub returns : goal.returns
unfolding decide
returns c =
    let a = c.args in
    let end = rw c.in-Some.is at c.checked_add.ensures in
    decided a.h a.arena.now a.ledger.now (Init a.start a.size) (sym c.sound.ensures ∙ c.if-not-sound.false) (rw end.1 at c.add_range.ensures)
