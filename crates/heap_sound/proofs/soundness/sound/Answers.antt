-- `heap_sound::soundness::sound` meets its contract: where a part fails the heap is not sound, and where all but the pairs are well, it
-- is sound just where they are apart. Assumes nothing.
use mathlib.Core.Path.{◌≡◌, sym, ◌∙◌}
use native.Mathlib.Omega.{arith}
use lib.Seq.{length-take-le}
use Rattle.words.proofs.Tests.{clash}
use Rattle.heap_lists.proofs.Tallies as tallies
use Rattle.heap_records.proofs.Passing as passing
use Rattle.heap_sound.proofs.Together.{ranges-of, total-fits, unsound, sound-cross}
use borrow.Author.Rules.{rules}
use Rattle.heap_sound.proofs.soundness.sound.Goals as goal

pub returns-then-not-ranges_ok : goal.returns-then-not-ranges_ok
returns-then-not-ranges_ok c = unsound c.args.h c.args.arena.now c.args.ledger.now (λ t. clash t.ranges (sym c.ranges_ok.ensures ∙ c.if-not-ranges_ok.true))

pub free_lists-requires : goal.free_lists-requires
free_lists-requires c =
    let q = ranges-of c.args.h c.args.arena.now c.args.ledger.now (sym c.ranges_ok.ensures ∙ c.if-not-ranges_ok.false) in
    (q.order-high, q.arena-low, q.arena-high)

pub returns-in_default : goal.returns-in_default
returns-in_default c = unsound c.args.h c.args.arena.now c.args.ledger.now (λ t. c.in_default.not-Some _ (rw t.free at c.free_lists.ensures))

pub records-requires : goal.records-requires
records-requires c =
    let q = ranges-of c.args.h c.args.arena.now c.args.ledger.now (sym c.ranges_ok.ensures ∙ c.if-not-ranges_ok.false) in
    (q.order-high, omega (arith, length-take-le c.args.h.count c.args.ledger.now q.room, q.ledger-high, q.room))

pub returns-in_default-records : goal.returns-in_default-records
returns-in_default-records c = unsound c.args.h c.args.arena.now c.args.ledger.now (λ t. c.in_default-records.not-Some _ (rw t.granted at c.records.ensures))

pub returns-then-not-zeros_from : goal.returns-then-not-zeros_from
returns-then-not-zeros_from c = unsound c.args.h c.args.arena.now c.args.ledger.now (λ t. clash t.zeros (sym c.zeros_from.ensures ∙ c.if-not-zeros_from.true))

pub returns-then-h-granted : goal.returns-then-h-granted
returns-then-h-granted c =
    let g = passing.told-some _ _ _ c.in-Some-records.ensures in
    unsound c.args.h c.args.arena.now c.args.ledger.now (λ t. c.if-h-granted.true (t.user ∙ sym g.users))

pub returns-then-h-granted-2 : goal.returns-then-h-granted-2
returns-then-h-granted-2 c =
    let g = passing.told-some _ _ _ c.in-Some-records.ensures in
    unsound c.args.h c.args.arena.now c.args.ledger.now (λ t. c.if-h-granted-2.true (t.allocated ∙ sym g.sizes))

pub overflow_add-granted : goal.overflow_add-granted
overflow_add-granted c =
    let h = c.args.h in
    let m = c.args.arena.now in
    let w = c.args.ledger.now in
    let q = ranges-of h m w (sym c.ranges_ok.ensures ∙ c.if-not-ranges_ok.false) in
    let g = passing.told-some _ _ _ c.in-Some-records.ensures in
    omega (arith, g.sizes, (tallies.told-some _ _ _ c.in-Some.ensures).1, total-fits h m w q g.all)

pub returns-then-h-granted-3 : goal.returns-then-h-granted-3
returns-then-h-granted-3 c =
    let g = passing.told-some _ _ _ c.in-Some-records.ensures in
    let f = tallies.told-some _ _ _ c.in-Some.ensures in
    unsound c.args.h c.args.arena.now c.args.ledger.now (λ t. c.if-h-granted-3.true (omega (arith, t.total, g.sizes, f.1)))

pub returns : goal.returns
returns c =
    let h = c.args.h in
    let m = c.args.arena.now in
    let w = c.args.ledger.now in
    let g = passing.told-some _ _ _ c.in-Some-records.ensures in
    let f = tallies.told-some _ _ _ c.in-Some.ensures in
    c.free_apart.ensures
    ∙ sound-cross h m w
    (record {
      ranges = sym c.ranges_ok.ensures ∙ c.if-not-ranges_ok.false;
      free = f.0;
      granted = g.all;
      zeros = sym c.zeros_from.ensures ∙ c.if-not-zeros_from.false;
      user = c.if-h-granted.false ∙ g.users;
      allocated = c.if-h-granted-2.false ∙ g.sizes;
      total = omega (arith, c.if-h-granted-3.false, g.sizes, f.1);
    })
