-- `ledger::records::place` meets its contract: addresses ascend, so those below one come first. Assumes nothing.
use mathlib.Core.Path.{◌≡◌, sym}
use Prim.Native.Nat.{ℕ, ◌<◌}
use native.Mathlib.Omega.{arith}
use lib.Dec.{ltb}
use lib.ListN.{length, take}
use lib.Seq.{length-take-le, get_or-take}
use borrow.Author.Rules.{rules}
use borrow.Author.Tests.{ltb-true, ltb-false}
use Rattle.std.proofs.lemmas.List.Sorted.{IsPartitionPoint-from_clause, IsPartitionedBy-ltb, IsNonDecreasingBy-from_default}
use Rattle.ledger.specs.Ledger.{address_of}
use Rattle.ledger.proofs.Ledgers.{addresses-ascend, place_is}
use Rattle.ledger.proofs.records.place.Goals as goal

pub returns : goal.returns
returns c =
    let a = c.args in
    let k = c.requires in
    let ws = take a.count a.ledger.now in
    let short : length ws ≡ a.count = length-take-le a.count a.ledger.now k.1.room in
    let is = λ (i : ℕ) (h : i < a.count). get_or-take a.count a.ledger.now i 0 h in
    let rises = IsNonDecreasingBy-from_default address_of ws 0 (λ i j h l.
    omega (arith, addresses-ascend k.0 a.count a.ledger.now k.1 i j h (omega arith), is i (omega arith), is j (omega arith))) in
    let point = IsPartitionPoint-from_clause (λ w. ltb (address_of w) a.address) ws c.partition_point.result c.partition_point.ensures.partitioned
    (IsPartitionedBy-ltb address_of ws a.address rises) (λ x r q h. search rules) in
    sym (place_is k.0 a.count a.ledger.now k.1 a.address c.partition_point.result (omega arith)
    (λ i h. omega (arith, is i (omega arith), ltb-true _ _ (point.0 i 0 (omega arith) h)))
    (λ h. omega (arith, is c.partition_point.result h, ltb-false _ _ (point.1 c.partition_point.result 0 (omega arith) (omega arith)))))
