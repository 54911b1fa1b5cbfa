-- `heap_overlap::overlap::granted_meets` meets its contract: the closure asks it of the block of one record. Assumes nothing.
use mathlib.Core.Path.{◌≡◌, refl, sym, ◌∙◌}
use mathlib.Core.Bool.{Bool, true, false}
use Prim.Native.Nat.{ℕ, ◌*◌, ◌%◌, ◌^◌, ◌<◌}
use native.Mathlib.Omega.{arith}
use lib.ListN.{length, get_or, take}
use lib.Seq.{length-take-le, get_or-take}
use borrow.Author.Rules.{rules}
use borrow.Author.Tests.{tests}
use Rattle.std.proofs.lemmas.Iterator.{cases_from_any, YieldsList-from_slice}
use Rattle.blocks.proofs.Powers.{one_shl}
use Rattle.ledger.specs.Ledger.{class_of, address_of}
use Rattle.heap_blocks.proofs.Asking.{some, some-is, some-same}
use Rattle.heap_overlap.specs.Meeting.{meets_block}
use Rattle.heap_overlap.proofs.Overlaps.{meets-records}
use Rattle.heap_overlap.proofs.overlap.granted_meets.Goals as goal

pub returns : goal.returns
returns c =
    let a = c.args in
    let ws = take a.count a.ledger.now in
    let test : ℕ → Bool = λ w. meets_block (address_of w) (1 * 2 ^ class_of w % 2 ^ 64) a.start a.end in
    let m = cases_from_any _ _ c.any.result (λ x. test x ≡ true) (λ x. test x ≡ false) c.any.ensures.ran
    (YieldsList-from_slice ws cc) (λ x q k. search (rules, tests)) (λ x q k. search (rules, tests)) in
    let any : c.any.result ≡ some test ws = some-is test c.any.result ws m in
    let same = some-same test (λ w. meets_block (address_of w) (2 ^ class_of w) a.start a.end) ws (λ k l.
    let short : length ws ≡ a.count = length-take-le a.count a.ledger.now c.requires.0 in
    let is : get_or ws k 0 ≡ get_or a.ledger.now k 0 = get_or-take a.count a.ledger.now k 0 (omega arith) in
    let small : class_of (get_or ws k 0) < 64 = omega (arith, c.type_inv.ledger k) in
    rw (one_shl (class_of (get_or ws k 0)) small) refl) in
    any ∙ same ∙ sym (meets-records a.start a.end c.requires.1 ws)
