-- `heap_state::ranges::lengths_ok` meets its contract. Assumes nothing.
use mathlib.Core.Path.{sym}
use native.Mathlib.Omega.{arith}
use Rattle.words.proofs.Tests.{no}
use Rattle.heap_state.proofs.InRange.{lengths-fact, lengths-true}
use Rattle.heap_state.proofs.ranges.lengths_ok.Goals as goal

pub returns-then-arena-lt2 : goal.returns-then-arena-lt2
returns-then-arena-lt2 c =
    let a = c.args in
    sym (no _ (λ e. let l = lengths-fact a.arena a.ledger e in omega arith))

pub returns-then-arena-gt1048576 : goal.returns-then-arena-gt1048576
returns-then-arena-gt1048576 c =
    let a = c.args in
    sym (no _ (λ e. let l = lengths-fact a.arena a.ledger e in omega arith))

pub returns-then-ledger-lt1 : goal.returns-then-ledger-lt1
returns-then-ledger-lt1 c =
    let a = c.args in
    sym (no _ (λ e. let l = lengths-fact a.arena a.ledger e in omega arith))

pub returns-then-ledger-gt65535 : goal.returns-then-ledger-gt65535
returns-then-ledger-gt65535 c =
    let a = c.args in
    sym (no _ (λ e. let l = lengths-fact a.arena a.ledger e in omega arith))

pub returns : goal.returns
returns c =
    let a = c.args in
    sym (lengths-true a.arena a.ledger (record { arena-low = omega arith; arena-high = omega arith; ledger-low = omega arith; ledger-high = omega arith }))
