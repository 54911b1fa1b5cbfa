-- `heap_pairs::pairs::apart_from_records` meets its contract: the closure compares the block with that of a record. Assumes nothing.
use mathlib.Core.Path.{◌≡◌, refl, sym, ◌∙◌}
use mathlib.Core.Bool.{Bool, true, false, ◌||◌}
use Prim.Native.Nat.{ℕ, ◌+◌, ◌*◌, ◌%◌, ◌^◌, ◌<◌}
use native.Mathlib.Omega.{arith}
use lib.Dec.{leb}
use lib.ListN.{get_or}
use borrow.Author.Rules.{rules}
use borrow.Author.Tests.{tests}
use Rattle.std.proofs.lemmas.Iterator.{cases_from_all, YieldsList-from_slice}
use Rattle.blocks.proofs.Powers.{one_shl}
use Rattle.ledger.specs.Ledger.{class_of, address_of}
use Rattle.heap_blocks.specs.Sound.{blk, apart}
use Rattle.heap_blocks.proofs.Asking.{every, every-is, every-same}
use Rattle.heap_pairs.proofs.Crossing.{from-records}
use Rattle.heap_pairs.proofs.pairs.apart_from_records.Goals as goal

pub returns : goal.returns
returns c =
    let a = c.args in
    let size = 1 * 2 ^ a.class % 2 ^ 64 in
    let test : ℕ → Bool = λ w. leb (a.address + size) (address_of w) || leb (address_of w + 1 * 2 ^ class_of w % 2 ^ 64) a.address in
    let m = cases_from_all _ _ c.all.result (λ x. test x ≡ true) (λ x. test x ≡ false) c.all.ensures.ran
    (YieldsList-from_slice a.records.now cc) (λ x q k. search (rules, tests)) (λ x q k. search (rules, tests)) in
    let all : c.all.result ≡ every test a.records.now = every-is test c.all.result a.records.now m in
    let same = every-same test (λ w. apart (blk a.class a.address) (blk (class_of w) (address_of w))) a.records.now (λ k l.
    let small : class_of (get_or a.records.now k 0) < 64 = omega (arith, c.type_inv.records k) in
    rw (one_shl a.class c.requires, one_shl (class_of (get_or a.records.now k 0)) small) refl) in
    all ∙ same ∙ sym (from-records (blk a.class a.address) a.records.now)
