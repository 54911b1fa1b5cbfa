-- `heap_overlap::overlap::list_meets` meets its contract: the closure asks it of one block. Assumes nothing.
use mathlib.Core.Path.{◌≡◌, refl, sym, ◌∙◌}
use mathlib.Core.Bool.{Bool, true, false}
use Prim.Native.Nat.{ℕ}
use native.Mathlib.Omega.{arith}
use borrow.Author.Rules.{rules}
use borrow.Author.Tests.{tests}
use Rattle.std.proofs.lemmas.Iterator.{cases_from_any}
use Rattle.std.proofs.lemmas.Iterator.Consumers.{YieldsList-from_first}
use Rattle.blocks.proofs.Rounding.{size_is}
use Rattle.heap_blocks.proofs.Asking.{some, some-is}
use Rattle.heap_overlap.specs.Meeting.{meets_block}
use Rattle.heap_overlap.proofs.Overlaps.{meets-nodes}
use Rattle.heap_overlap.proofs.overlap.list_meets.Goals as goal

pub returns : goal.returns
returns c =
    let a = c.args in
    let test : ℕ → Bool = λ x. meets_block x c.size_of-size.result a.start a.end in
    let m = cases_from_any _ _ c.any.result (λ x. test x ≡ true) (λ x. test x ≡ false) c.any.ensures.ran
    (YieldsList-from_first (λ x. x) (λ s. s) a.nodes refl) (λ x q k. search (rules, tests)) (λ x q k. search (rules, tests)) in
    let any : c.any.result ≡ some test a.nodes = some-is test c.any.result a.nodes m in
    (rw (c.size_of-size.ensures ∙ size_is a.class (omega (arith, c.requires.0))) at any) ∙ sym (meets-nodes a.start a.end c.requires.1 a.class a.nodes)
