-- `heap_records::granted::word_ok` meets its contract. Assumes nothing.
use mathlib.Core.Path.{sym}
use Prim.Native.Nat.{◌^◌, ◌<◌}
use native.Mathlib.Omega.{arith}
use borrow.Author.Tests.{leb-true, le-leb}
use Rattle.words.proofs.Tests.{no, same}
use Rattle.ledger.specs.Ledger.{class_of, requested_of}
use Rattle.blocks.proofs.Powers.{one_shl}
use Rattle.heap_blocks.proofs.Records.{record-fact, record-true}
use Rattle.heap_records.proofs.granted.word_ok.Goals as goal

pub returns-then-gap_of-ne0 : goal.returns-then-gap_of-ne0
returns-then-gap_of-ne0 c = sym (no _ (λ e. let f = record-fact _ _ e in omega arith))

pub returns-then-class_of-lt3 : goal.returns-then-class_of-lt3
returns-then-class_of-lt3 c = sym (no _ (λ e. let f = record-fact _ _ e in omega arith))

pub returns-then-class_of-order : goal.returns-then-class_of-order
returns-then-class_of-order c = sym (no _ (λ e. let f = record-fact _ _ e in omega arith))

pub returns : goal.returns
returns c =
    let w = c.args.w in
    let k : c.class_of-3.result < 64 = omega arith in
    rw (one_shl c.class_of-3.result k, c.class_of-3.ensures, c.requested_of.ensures)
    (same _ _
    (λ e. record-true c.args.order w (record { gap = omega arith; class_low = omega arith; class-high = omega arith; holds = leb-true (requested_of w) (2 ^ class_of w) e }))
    (λ e. le-leb (requested_of w) (2 ^ class_of w) (record-fact _ _ e).holds))
