-- `heap_moves::moves::take_block` meets its contract: the halves still to be made of what is there come to the whole. Assumes nothing.
use mathlib.Core.Path.{◌≡◌, refl, sym, ◌∙◌}
use Prim.Native.Nat.{◌+◌, ◌-◌}
use native.Mathlib.Omega.{arith}
use Rattle.heap_moves.proofs.Halving.{halving-start, halving-turn, upper_fits, taken}
use Rattle.heap_moves.proofs.moves.take_block.Goals as goal

pub loop-k-init : goal.loop-k-init
loop-k-init c = (halving-start _ _ _ c.requires.wide c.requires.suffices, refl)

pub returns-in_default : goal.returns-in_default
returns-in_default c =
    let l = c.loop-k in
    let e : l.k - 1 + 1 ≡ l.k = omega arith in
    let p = rw (c.in_default.is, e) at c.pop.ensures in
    absurd (c.requires.has_block (sym l.invariant.0.block ∙ p.0))

pub overflow_add-upper : goal.overflow_add-upper
overflow_add-upper c =
    let l = c.loop-k in
    let e : l.k - 1 + 1 ≡ l.k = omega arith in
    let p = rw e at c.in-Some.ensures in
    omega (arith, upper_fits l.k c.args.from _ _ _ l.invariant.0.high (omega arith) c.size_of.ensures c.requires.is_class c.requires.ends (p.0 ∙ l.invariant.0.block))

pub loop-k-preserved : goal.loop-k-preserved
loop-k-preserved c =
    let l = c.loop-k in
    let e : l.k - 1 + 1 ≡ l.k = omega arith in
    let p = rw e at c.in-Some.ensures in (
      halving-turn c.args.from c.args.class l.k c.in-Some.first _ _ _ _ _ _ c.requires.is_class c.loop-k-test.true l.invariant.0 p c.size_of.ensures c.push.ensures c.push-in-loop-k.ensures,
      c.push-in-loop-k.auto.arena ∙ c.push.auto.arena ∙ l.invariant.1,
    )

pub returns : goal.returns
returns c =
    let l = c.loop-k in
    taken c.args.from c.args.class l.k c.in-Some-pop.first _ _ _ c.loop-k-test.false l.invariant.0 c.in-Some-pop.ensures
