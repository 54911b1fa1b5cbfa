-- `heap_lists::free::placed` meets its contract. Assumes nothing.
use mathlib.Core.Path.{sym, ◌∙◌}
use Prim.Native.Nat.{◌-◌, ◌^◌}
use native.Mathlib.Omega.{arith}
use lib.Bits.{and_mask}
use lib.Pow.{pow_pos}
use borrow.Author.Tests.{leb-true, le-leb}
use Rattle.words.proofs.Tests.{no, same}
use Rattle.blocks.proofs.Powers.{one_shl}
use Rattle.heap_blocks.proofs.Heads.{block-fact, block-true}
use Rattle.heap_lists.proofs.free.placed.Goals as goal

pub overflow_sub-size : goal.overflow_sub-size
overflow_sub-size c = rw (one_shl c.args.class c.requires) (pow_pos c.args.class)

pub returns-then-address-size-ne0 : goal.returns-then-address-size-ne0
returns-then-address-size-ne0 c =
    let a = c.args in
    sym (no _ (λ e. c.if-address-size-ne0.true (rw (one_shl a.class c.requires) (and_mask a.address a.class ∙ (block-fact a.bytes a.class a.address e).aligned))))

pub returns-then-address-eq0 : goal.returns-then-address-eq0
returns-then-address-eq0 c =
    let a = c.args in
    sym (no _ (λ e. let p = block-fact a.bytes a.class a.address e in omega arith))

pub returns-then-address-bytes : goal.returns-then-address-bytes
returns-then-address-bytes c =
    let a = c.args in
    sym (no _ (λ e. let p = block-fact a.bytes a.class a.address e in omega (arith, pow_pos a.class)))

pub returns : goal.returns
returns c =
    let a = c.args in
    let z = one_shl a.class c.requires in
    let low = rw (one_shl a.class c.requires, and_mask a.address a.class) at c.if-address-size-ne0.false in
    rw z
    (same _ _
    (λ e. block-true a.bytes a.class a.address (record { aligned = low; above = omega arith; inside = omega (arith, leb-true (2 ^ a.class) (a.bytes - a.address) e) }))
    (λ e. let p = block-fact a.bytes a.class a.address e in le-leb (2 ^ a.class) (a.bytes - a.address) (omega arith)))
