-- `linked_list::front::pop` meets its contract. Assumes nothing.
use mathlib.Core.Path.{sym, ap, ◌∙◌}
use Prim.Native.Nat.{ℕ}
use Rattle.std.specs.Prelude.{Some}
use Rattle.linked_list.proofs.Steps.{pop-nothing, pop-block}
use borrow.Author.Tests.{eqb-false}
use Rattle.linked_list.proofs.front.pop.Goals as goal

pub returns-then-is_empty : goal.returns-then-is_empty
returns-then-is_empty c =
    let s = c.args in
    sym (pop-nothing s.head s.arena.now (sym c.is_empty.ensures ∙ c.if-is_empty.true))

pub returns : goal.returns
returns c =
    let s = c.args in
    ap (λ (after : ℕ). Some (record { block = s.head; head = after })) c.next-after.ensures
    ∙ sym (pop-block s.head s.arena.now (eqb-false s.head 0 (sym c.is_empty.ensures ∙ c.if-is_empty.false)))
