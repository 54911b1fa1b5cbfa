-- `words::splice::move_tail` meets its contract: no move, a move up into zeros, or a move down with zeros written after it. Assumes nothing.
use mathlib.Core.Path.{◌≡◌, ap, ◌∙◌}
use Prim.Native.Nat.{ℕ, ◌-◌}
use native.Mathlib.Omega.{arith}
use lib.ListN.{length, take, drop, replicate, length-take, length-drop}
use Rattle.words.proofs.Moving.{tail-still, tail-up, tail-down}
use Rattle.words.proofs.splice.move_tail.Goals as goal

pub returns-then-from-to : goal.returns-then-from-to
returns-then-from-to c =
    let a = c.args in
    tail-still a.t.now a.from a.to (omega arith)

pub returns-else-to-from : goal.returns-else-to-from
returns-else-to-from c =
    let a = c.args in
    c.copy_within.ensures.after ∙ tail-up a.t.now a.from a.to a.end (omega arith) (omega arith) (omega arith) c.requires.3 (omega arith)

pub returns-then-to-from : goal.returns-then-to-from
returns-then-to-from c =
    let a = c.args in
    let moved = c.copy_within.new.self in
    let seam : ℕ = a.end - (a.from - a.to) in
    let n : length (take (a.end - seam) (drop seam moved)) ≡ a.from - a.to = simp (length-take, length-drop) (omega (arith, c.copy_within.ensures.len)) in
    tail-down a.t.now a.from a.to a.end (omega arith) (omega arith) (omega arith) c.requires.3 (omega arith) moved c.fill.new.self (a.end - seam)
    c.copy_within.ensures.after
    (omega arith)
    (c.fill.ensures.after (λ y e. e) ∙ ap (λ (k : ℕ). replicate k 0) n)
