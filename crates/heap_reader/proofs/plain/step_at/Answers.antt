-- `heap_reader::plain::step_at` meets its contract. Assumes nothing.
use mathlib.Core.Path.{◌≡◌, refl}
use native.Mathlib.Omega.{arith}
use Rattle.heap_reader.proofs.Yielding.{refused-step, last_step, node-step}
use Rattle.heap_reader.proofs.plain.step_at.Goals as goal

pub returns-then-number-ne0 : goal.returns-then-number-ne0
returns-then-number-ne0 c =
    let a = c.args in
    rw (refused-step a.arena.now a.at a.number (λ z. omega (arith, z))) refl

pub returns-then-at-eq0 : goal.returns-then-at-eq0
returns-then-at-eq0 c =
    let a = c.args in
    let n : a.number ≡ 0 = omega arith in
    let z : a.at ≡ 0 = omega arith in
    rw (n, z, last_step a.arena.now) refl

pub returns : goal.returns
returns c =
    let a = c.args in
    let n : a.number ≡ 0 = omega arith in
    rw (n, node-step a.arena.now a.at (λ z. omega (arith, z)), c.next.ensures) refl
