-- Records that each start where the one before ends, or after: their addresses ascend and their blocks are disjoint, and back. Assumes nothing.
use mathlib.Core.Path.{◌≡◌, refl, ◌∙◌}
use mathlib.Core.Bool.{true, or_comm}
use mathlib.Core.List.{List, [], ◌∷◌}
use Prim.Native.Nat.{ℕ, suc, ◌+◌, ◌^◌, ◌≤◌, ◌<◌}
use native.Mathlib.Omega.{arith}
use lib.Dec.{leb}
use lib.Pow.{pow_pos}
use borrow.Author.Tests.{leb-true, le-leb, lt-leb}
use Rattle.words.proofs.Tests.{both, join}
use Rattle.ledger.specs.Ledger.{class_of, address_of, ascendingb}
use Rattle.heap_blocks.specs.Sound.{blk, apart, apart_from, disjointb}
use Rattle.heap_blocks.specs.Parts.{blocks_of, endsb}

pub ends-ascend : (floor low : ℕ) (ws : List ℕ) → low ≤ floor → endsb floor ws ≡ true → ascendingb low ws ≡ true
unfolding endsb
ends-ascend floor low [] h e = refl
ends-ascend floor low (w ∷ ws) h e =
    let p = both (leb floor (address_of w)) (endsb (address_of w + 2 ^ class_of w) ws) e in
    let s = pow_pos (class_of w) in
    let f = leb-true floor (address_of w) p.0 in
    join (leb low (address_of w)) (ascendingb (suc (address_of w)) ws)
    (le-leb low (address_of w) (omega arith))
    (ends-ascend (address_of w + 2 ^ class_of w) (suc (address_of w)) ws (omega arith) p.1)

-- a block that ends at or before the floor is apart from every one after it
ends-apart : (j a floor : ℕ) (ws : List ℕ) → a + 2 ^ j ≤ floor → endsb floor ws ≡ true → apart_from (blk j a) (blocks_of ws) ≡ true
unfolding endsb
ends-apart j a floor [] h e = refl
ends-apart j a floor (w ∷ ws) h e =
    let p = both (leb floor (address_of w)) (endsb (address_of w + 2 ^ class_of w) ws) e in
    let f = leb-true floor (address_of w) p.0 in
    let first : leb (a + 2 ^ j) (address_of w) ≡ true = le-leb (a + 2 ^ j) (address_of w) (omega arith) in
    join (apart (blk j a) (blk (class_of w) (address_of w))) (apart_from (blk j a) (blocks_of ws))
    (rw first)
    (ends-apart j a (address_of w + 2 ^ class_of w) ws (omega arith) p.1)

pub ends-disjoint : (floor : ℕ) (ws : List ℕ) → endsb floor ws ≡ true → disjointb (blocks_of ws) ≡ true
unfolding endsb
ends-disjoint floor [] e = refl
ends-disjoint floor (w ∷ ws) e =
    let p = both (leb floor (address_of w)) (endsb (address_of w + 2 ^ class_of w) ws) e in
    join (apart_from (blk (class_of w) (address_of w)) (blocks_of ws)) (disjointb (blocks_of ws))
    (ends-apart (class_of w) (address_of w) (address_of w + 2 ^ class_of w) ws (omega arith) p.1)
    (ends-disjoint (address_of w + 2 ^ class_of w) ws p.1)

-- of two blocks apart, one that starts higher starts after the end of the other
higher : (j a k b : ℕ) → apart (blk j a) (blk k b) ≡ true → a < b → leb (a + 2 ^ j) b ≡ true
higher j a k b e h = rw (lt-leb (b + 2 ^ k) a (omega arith)) at (or_comm (leb (b + 2 ^ k) a) (leb (a + 2 ^ j) b) ∙ e)

after-ends : (j a : ℕ) (ws : List ℕ) → ascendingb (suc a) ws ≡ true → apart_from (blk j a) (blocks_of ws) ≡ true → disjointb (blocks_of ws) ≡ true → endsb (a + 2 ^ j) ws ≡ true
unfolding endsb
after-ends j a [] up off dis = refl
after-ends j a (w ∷ ws) up off dis =
    let u = both (leb (suc a) (address_of w)) (ascendingb (suc (address_of w)) ws) up in
    let o = both (apart (blk j a) (blk (class_of w) (address_of w))) (apart_from (blk j a) (blocks_of ws)) off in
    let d = both (apart_from (blk (class_of w) (address_of w)) (blocks_of ws)) (disjointb (blocks_of ws)) dis in
    join (leb (a + 2 ^ j) (address_of w)) (endsb (address_of w + 2 ^ class_of w) ws)
    (higher j a (class_of w) (address_of w) o.0 (leb-true (suc a) (address_of w) u.0))
    (after-ends (class_of w) (address_of w) ws u.1 d.0 d.1)

pub disjoint-ends : (ws : List ℕ) → ascendingb 0 ws ≡ true → disjointb (blocks_of ws) ≡ true → endsb 0 ws ≡ true
unfolding endsb
disjoint-ends [] up dis = refl
disjoint-ends (w ∷ ws) up dis =
    let u = both (leb 0 (address_of w)) (ascendingb (suc (address_of w)) ws) up in
    let d = both (apart_from (blk (class_of w) (address_of w)) (blocks_of ws)) (disjointb (blocks_of ws)) dis in
    join (leb 0 (address_of w)) (endsb (address_of w + 2 ^ class_of w) ws) u.0 (after-ends (class_of w) (address_of w) ws u.1 d.0 d.1)
