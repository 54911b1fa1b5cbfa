-- `heap_pairs::pairs::node_apart` meets its contract. Assumes nothing.
use mathlib.Core.Path.{sym, ◌∙◌}
use Prim.Native.Nat.{◌+◌}
use Rattle.words.proofs.Tests.{and-false}
use Rattle.heap_blocks.specs.Sound.{blk, apart_from}
use Rattle.heap_blocks.specs.Parts.{list_blocks, free_up, blocks_of}
use Rattle.heap_pairs.proofs.Crossing.{from-three}
use Rattle.heap_pairs.proofs.pairs.node_apart.Goals as goal

pub returns-then-not-apart_from_list : goal.returns-then-not-apart_from_list
returns-then-not-apart_from_list c =
    let a = c.args in
    let own = list_blocks a.class a.left a.arena.now a.after in
    let three = from-three (blk a.class a.node) own (free_up (a.class + 1) a.heads.now a.arena.now) (blocks_of a.records.now) in
    let bad = sym c.apart_from_list.ensures ∙ c.if-not-apart_from_list.true in
    sym (three ∙ rw bad)

pub returns-then-not-apart_from_lists : goal.returns-then-not-apart_from_lists
returns-then-not-apart_from_lists c =
    let a = c.args in
    let own = list_blocks a.class a.left a.arena.now a.after in
    let three = from-three (blk a.class a.node) own (free_up (a.class + 1) a.heads.now a.arena.now) (blocks_of a.records.now) in
    let bad = sym c.apart_from_lists.ensures ∙ c.if-not-apart_from_lists.true in
    sym (three ∙ rw bad (and-false (apart_from (blk a.class a.node) own)))

pub returns : goal.returns
returns c =
    let a = c.args in
    let own = list_blocks a.class a.left a.arena.now a.after in
    let three = from-three (blk a.class a.node) own (free_up (a.class + 1) a.heads.now a.arena.now) (blocks_of a.records.now) in
    let one = sym c.apart_from_list.ensures ∙ c.if-not-apart_from_list.false in
    let two = sym c.apart_from_lists.ensures ∙ c.if-not-apart_from_lists.false in
    c.apart_from_records.ensures ∙ sym (three ∙ rw (one, two))
