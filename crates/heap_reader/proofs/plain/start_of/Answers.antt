-- `heap_reader::plain::start_of` meets its contract: an unsound heap is refused, and a class without a list has no head. Assumes nothing.
use borrow.Author.Rules.{rules}
use mathlib.Core.Bool.{true, false}
use mathlib.Core.Path.{◌≡◌, refl}
use native.Mathlib.Omega.{arith}
use lib.ListN.{length, get_or, get_or-eq_default}
use Rattle.heap_blocks.specs.Sound.{soundb}
use Rattle.heap_reader.proofs.Yielding.{sound-start, unsound-start}
use Rattle.heap_reader.proofs.plain.start_of.Goals as goal

pub returns-then-not-sound : goal.returns-then-not-sound
returns-then-not-sound c =
    let a = c.args in
    let e : soundb a.h a.arena.now a.ledger.now ≡ false = cc in
    rw (unsound-start a.h a.arena.now a.ledger.now a.class e, c.from.ensures) refl

pub returns-then-class-lt-CLASSES : goal.returns-then-class-lt-CLASSES
returns-then-class-lt-CLASSES c =
    let a = c.args in
    let e : soundb a.h a.arena.now a.ledger.now ≡ true = cc in
    rw (sound-start a.h a.arena.now a.ledger.now a.class e) refl

pub returns-else-class-lt-CLASSES : goal.returns-else-class-lt-CLASSES
returns-else-class-lt-CLASSES c =
    let a = c.args in
    let e : soundb a.h a.arena.now a.ledger.now ≡ true = cc in
    let l : length a.h.heads ≡ 33 = search rules in
    let none : get_or a.h.heads a.class 0 ≡ 0 = get_or-eq_default a.h.heads 0 (omega arith) in
    rw (sound-start a.h a.arena.now a.ledger.now a.class e, none) refl
