-- `heap_records::granted::records` meets its contract: the records before passed and are added up. Assumes nothing.
use mathlib.Core.Path.{◌≡◌, sym, ap, ◌∙◌}
use Prim.Native.Nat.{ℕ, ◌*◌, ◌%◌, ◌^◌}
use native.Mathlib.Omega.{arith}
use lib.ListN.{get_or, take}
use Rattle.ledger.specs.Ledger.{class_of}
use Rattle.blocks.proofs.Powers.{one_shl}
use Rattle.heap_blocks.proofs.Records.{next-fact}
use Rattle.heap_records.proofs.Passing.{passed-none, passed-all, passed-wrong, passed-on}
use Rattle.heap_records.proofs.granted.records.Goals as goal

pub loop-w-init : goal.loop-w-init
loop-w-init c = passed-none c.args.order c.args.bytes c.args.words.now

pub returns-then-not-record_ok : goal.returns-then-not-record_ok
returns-then-not-record_ok c =
    let l = c.loop-w in
    passed-wrong c.args.order c.args.bytes _ l.w-index l.floor l.user l.allocated l.invariant c.loop-w-test.true (sym c.record_ok.ensures ∙ c.if-not-record_ok.true)

pub loop-w-preserved : goal.loop-w-preserved
loop-w-preserved c =
    let l = c.loop-w in
    let w = get_or c.args.words.now l.w-index 0 in
    let good = sym c.record_ok.ensures ∙ c.if-not-record_ok.false in
    let f = next-fact c.args.order c.args.bytes l.floor w good in
    let z : 1 * 2 ^ c.class_of-size.result % 2 ^ 64 ≡ 2 ^ class_of w = one_shl c.class_of-size.result (omega arith) ∙ ap (λ (n : ℕ). 2 ^ n) c.class_of-size.ensures in
    rw (c.address_of.ensures, c.requested_of-user.ensures) (passed-on c.args.order c.args.bytes _ l.w-index l.floor l.user l.allocated l.invariant c.loop-w-test.true _ c.requires.0 good z)

pub returns : goal.returns
returns c =
    let l = c.loop-w in
    passed-all c.args.order c.args.bytes _ l.w-index l.floor l.user l.allocated l.invariant c.loop-w-test.false
