-- `heap_runs::running::make` meets its contract: too many words, a refusal, and a heap that is made. Assumes nothing.
use mathlib.Core.Path.{◌≡◌, sym, ◌∙◌}
use Prim.Native.Nat.{◌≤◌}
use native.Mathlib.Omega.{arith}
use lib.ListN.{length, take}
use lib.Seq.{length-take-le}
use Rattle.heap_runs.proofs.Lending.{fits-ledger, fits-lending}
use Rattle.heap_runs.proofs.Making.{does-too-many, does-refused, does-make, too-many-words, too-many-records, few-enough}
use Rattle.heap_runs.proofs.running.make.Goals as goal

pub returns-then-words-gt-ARENA_WORDS : goal.returns-then-words-gt-ARENA_WORDS
returns-then-words-gt-ARENA_WORDS c =
    let a = c.args in record {
      does = does-too-many a.order a.words a.records a.lent a.arena.now a.ledger.now (too-many-words a.words a.records (omega (arith, c.if-words-gt-ARENA_WORDS.true)));
      fits = c.requires;
    }

pub returns-then-records-gt-LEDGER_WORDS : goal.returns-then-records-gt-LEDGER_WORDS
returns-then-records-gt-LEDGER_WORDS c =
    let a = c.args in record {
      does = does-too-many a.order a.words a.records a.lent a.arena.now a.ledger.now (too-many-records a.words a.records (omega (arith, c.if-records-gt-LEDGER_WORDS.true)));
      fits = c.requires;
    }

pub slice_bounds-new-end-2 : goal.slice_bounds-new-end-2
slice_bounds-new-end-2 c = let a = c.args in sym (length-take-le a.words a.arena.now (omega (arith, c.requires.arena_is, c.if-words-gt-ARENA_WORDS.false)))

pub slice_bounds-new-end-4 : goal.slice_bounds-new-end-4
slice_bounds-new-end-4 c = let a = c.args in sym (length-take-le a.records a.ledger.now (omega (arith, c.requires.ledger_is, c.if-records-gt-LEDGER_WORDS.false)))

pub returns-then-number-ne0 : goal.returns-then-number-ne0
returns-then-number-ne0 c =
    let a = c.args in
    let f = c.requires in
    let new = c.new-reply in
    let hw : a.words ≤ 4096 = omega (arith, c.if-words-gt-ARENA_WORDS.false) in
    let hk : a.records ≤ 512 = omega (arith, c.if-records-gt-LEDGER_WORDS.false) in
    let whole : length (take a.words a.arena.now) ≡ a.words = length-take-le a.words a.arena.now (omega (arith, f.arena_is)) in
    let noted : length new.new.ledger ≡ a.records = new.auto.ledger ∙ length-take-le a.records a.ledger.now (omega (arith, f.ledger_is)) in record {
      does = does-refused a.order a.words a.records a.lent a.arena.now a.ledger.now c.replied.result (few-enough a.words a.records hw hk) whole new.result new.new.ledger new.ensures c.number.result c.number.ensures (λ z. omega (arith, z, c.if-number-ne0.true)) c.replied.ensures;
      fits = fits-ledger a.lent a.arena.now a.ledger.now f c.replied.result new.result a.lent.words a.lent.records f.words_fit f.records_fit c.replied.ensures new.new.ledger a.records hk noted;
    }

pub slice_bounds-clear-end-2 : goal.slice_bounds-clear-end-2
slice_bounds-clear-end-2 c = let a = c.args in sym (length-take-le a.words a.arena.now (omega (arith, c.requires.arena_is, c.if-words-gt-ARENA_WORDS.false)))

pub returns : goal.returns
returns c =
    let a = c.args in
    let f = c.requires in
    let new = c.new-reply in
    let hw : a.words ≤ 4096 = omega (arith, c.if-words-gt-ARENA_WORDS.false) in
    let hk : a.records ≤ 512 = omega (arith, c.if-records-gt-LEDGER_WORDS.false) in
    let whole : length (take a.words a.arena.now) ≡ a.words = length-take-le a.words a.arena.now (omega (arith, f.arena_is)) in
    let noted : length new.new.ledger ≡ a.records = new.auto.ledger ∙ length-take-le a.records a.ledger.now (omega (arith, f.ledger_is)) in
    let clear = c.clear in record {
      does = does-make a.order a.words a.records a.lent a.arena.now a.ledger.now c.replied-2.result (few-enough a.words a.records hw hk) whole new.result new.new.ledger new.ensures c.number.result c.number.ensures (omega (arith, c.if-number-ne0.false)) c.replied-2.ensures clear.new.t clear.ensures;
      fits = fits-lending a.lent a.arena.now a.ledger.now f c.replied-2.result new.result a.words a.records hw hk c.replied-2.ensures clear.new.t new.new.ledger a.words a.records hw hk (clear.auto.t ∙ whole) noted;
    }
