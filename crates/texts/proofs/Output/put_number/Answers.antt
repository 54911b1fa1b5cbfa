-- `put_number` meets its contract: the loop's invariant is that the digits so far are the number's last. Assumes nothing.
use Prim.Native.Nat.{ℕ, ◌+◌, ◌-◌, ◌%◌, ◌/◌}
use mathlib.Core.List.{List, ◌++◌}
use mathlib.Core.Path.{◌≡◌, sym, ap, ◌∙◌}
use borrow.Author.Tests.{eq-eqb, ne_eqb}
use native.Mathlib.Omega.{arith}
use lib.ListN.{take, drop, set, length-set, length-drop}
use lib.Seq.{take_all}
use Rattle.texts.specs.Text as text
use Rattle.texts.proofs.Decimals.{one_less, digits_more, digits-none}
use Rattle.texts.proofs.Output.put_number.Goals as goal

pub returns-then-n-eq0 : goal.returns-then-n-eq0
unfolding text.decimal
returns-then-n-eq0 c =
    let n = c.args.n in
    let zero : n ≡ 0 = omega arith in
    rw (eq-eqb n 0 zero) c.put.ensures

pub loop-first-preserved : goal.loop-first-preserved
loop-first-preserved c =
    let l = c.loop-first in
    record {
      same = l.invariant.same;
      long = length-set l.digits (l.first - 1) (48 + l.rest % 10) ∙ l.invariant.long;
      some = omega arith;
      in_range = one_less l.first l.rest (omega arith) l.invariant.in_range;
      so_far = l.invariant.so_far ∙ digits_more l.digits l.first l.rest (omega arith) (omega arith) l.invariant.some;
    }

pub returns-then-rest-eq0 : goal.returns-then-rest-eq0
unfolding text.decimal
returns-then-rest-eq0 c =
    let a = c.args in
    let l = c.loop-first in
    let left : List ℕ = set l.digits (l.first - 1) (48 + l.rest % 10) in
    let some : a.n ≡ 0 → ⊥ = c.if-n-eq0.false in
    let none : l.rest / 10 ≡ 0 = c.if-rest-eq0.true in
    let all : text.digits 20 a.n ≡ take (20 - (l.first - 1)) (drop (l.first - 1) left) =
    l.invariant.so_far
    ∙ digits_more l.digits l.first l.rest (omega arith) (omega arith) l.invariant.some
    ∙ ap (λ (k : ℕ). text.digits (l.first - 1) k ++ drop (l.first - 1) left) none
    ∙ ap (λ (ds : List ℕ). ds ++ drop (l.first - 1) left) (digits-none (l.first - 1))
    ∙ sym (take_all (20 - (l.first - 1)) (drop (l.first - 1) left) (omega (arith, length-set l.digits (l.first - 1) (48 + l.rest % 10), length-drop (l.first - 1) left))) in
    rw (← l.invariant.same, ne_eqb a.n 0 some, all) c.put-then-rest-eq0.ensures
