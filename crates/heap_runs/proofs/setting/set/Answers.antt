-- `heap_runs::setting::set` meets its contract: each cell is put where it is within what is lent. Assumes nothing.
use mathlib.Core.Path.{refl}
use Rattle.heap_lines.specs.declared.Cell.TheVariants.{Count, User, Allocated, Total, Order}
use Rattle.heap_runs.specs.Run.{machine}
use Rattle.heap_runs.proofs.Cells.{does-arena, does-ledger, does-head, does-set, fits-set}
use Rattle.heap_runs.proofs.setting.set.Goals as goal

pub returns-in-Arena : goal.returns-in-Arena
returns-in-Arena c =
    let a = c.args in
    let w = c.set_word-line in
    rw c.in-Arena.is (record {
      does = does-arena c.in-Arena.at a.value (machine a.lent a.arena.now a.ledger.now) w.result w.new.words w.ensures.value w.ensures.words_after;
      fits = fits-set a.lent a.arena.now a.ledger.now c.requires a.lent.heap w.new.words a.ledger.now w.auto.words refl;
    })

pub returns-in-Ledger : goal.returns-in-Ledger
returns-in-Ledger c =
    let a = c.args in
    let w = c.set_word-line-in-Ledger in
    rw c.in-Ledger.is (record {
      does = does-ledger c.in-Ledger.at a.value (machine a.lent a.arena.now a.ledger.now) w.result w.new.words w.ensures.value w.ensures.words_after;
      fits = fits-set a.lent a.arena.now a.ledger.now c.requires a.lent.heap a.arena.now w.new.words refl w.auto.words;
    })

pub returns-in-Head : goal.returns-in-Head
returns-in-Head c =
    let a = c.args in
    let h = c.set_head-line in
    rw c.in-Head.is (record {
      does = does-head c.in-Head.class a.value (machine a.lent a.arena.now a.ledger.now) h.result h.new.heap h.ensures.value h.ensures.heap_after;
      fits = fits-set a.lent a.arena.now a.ledger.now c.requires h.new.heap a.arena.now a.ledger.now refl refl;
    })

pub returns-in-Count : goal.returns-in-Count
returns-in-Count c =
    let a = c.args in
    rw c.in-Count.is (record {
      does = does-set Count a.value (machine a.lent a.arena.now a.ledger.now) _ _ refl refl;
      fits = fits-set a.lent a.arena.now a.ledger.now c.requires _ a.arena.now a.ledger.now refl refl;
    })

pub returns-in-User : goal.returns-in-User
returns-in-User c =
    let a = c.args in
    rw c.in-User.is (record {
      does = does-set User a.value (machine a.lent a.arena.now a.ledger.now) _ _ refl refl;
      fits = fits-set a.lent a.arena.now a.ledger.now c.requires _ a.arena.now a.ledger.now refl refl;
    })

pub returns-in-Allocated : goal.returns-in-Allocated
returns-in-Allocated c =
    let a = c.args in
    rw c.in-Allocated.is (record {
      does = does-set Allocated a.value (machine a.lent a.arena.now a.ledger.now) _ _ refl refl;
      fits = fits-set a.lent a.arena.now a.ledger.now c.requires _ a.arena.now a.ledger.now refl refl;
    })

pub returns-in-Total : goal.returns-in-Total
returns-in-Total c =
    let a = c.args in
    rw c.in-Total.is (record {
      does = does-set Total a.value (machine a.lent a.arena.now a.ledger.now) _ _ refl refl;
      fits = fits-set a.lent a.arena.now a.ledger.now c.requires _ a.arena.now a.ledger.now refl refl;
    })

pub returns-in-Order : goal.returns-in-Order
returns-in-Order c =
    let a = c.args in
    rw c.in-Order.is (record {
      does = does-set Order a.value (machine a.lent a.arena.now a.ledger.now) _ _ refl refl;
      fits = fits-set a.lent a.arena.now a.ledger.now c.requires _ a.arena.now a.ledger.now refl refl;
    })
