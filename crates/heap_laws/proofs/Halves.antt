-- A block in hand is two halves in hand, and two buddies in hand are one block. Assumes nothing.
use mathlib.Core.Path.{◌≡◌}
use mathlib.Core.List.{List, ◌∷◌}
use Prim.Native.Nat.{ℕ, suc, ◌+◌, ◌/◌, ◌%◌, ◌^◌, ◌≤◌, ◌<◌, min}
use native.Mathlib.Omega.{arith}
use lib.Pow.{pow_pos}
use Rattle.blocks.specs.Blocks.{buddy_of}
use Rattle.blocks.specs.Laws.{Buddies, upper, lower}
use Rattle.blocks.proofs.Powers.{multiple, multiple-le, quotient}
use Rattle.blocks.proofs.Buddies.{pair}
use Rattle.heap_state.specs.Lists.{Memory}
use Rattle.heap_blocks.specs.Sound.{Block, blk}
use Rattle.heap_laws.proofs.Shuffles.{keep, swap, then, back, bring, same_bytes}
use Rattle.heap_laws.proofs.Placing.{Fits, Apart, under, over, Beside, Placed, none, next, placed-shuffled}
use Rattle.heap_laws.proofs.Free.{free_of}
use Rattle.heap_laws.proofs.Managing.{Managed, in-hand, regrouped, reordered}

-- ---- beside other blocks

part_apart : {k a j c : ℕ} {x : Block} → a ≤ c → c + 2 ^ j ≤ a + 2 ^ k → Apart (blk k a) x → Apart (blk j c) x
part_apart {j} {c} l h (under {b} g) = let e : c + 2 ^ j ≤ b = omega arith in under e
part_apart {c} l h (over {k = i} {b} g) = let e : b + 2 ^ i ≤ c = omega arith in over e

-- a part of a block is beside what the block is beside
pub part-beside : {k a j c : ℕ} {xs : List Block} → a ≤ c → c + 2 ^ j ≤ a + 2 ^ k → Beside (blk k a) xs → Beside (blk j c) xs
part-beside l h none = none
part-beside l h (next g b) = next (part_apart l h g) (part-beside l h b)

whole_apart : {k a : ℕ} {x : Block} → Apart (blk k a) x → Apart (blk k (a + 2 ^ k)) x → Apart (blk (suc k) a) x
whole_apart {k} {a} (under {b} h) (under g) = let e : a + 2 ^ suc k ≤ b = omega arith in under e
whole_apart (under {k = i} h) (over g) = absurd (omega (arith, pow_pos i))
whole_apart (over h) q = over h

whole-beside : {k a : ℕ} {xs : List Block} → Beside (blk k a) xs → Beside (blk k (a + 2 ^ k)) xs → Beside (blk (suc k) a) xs
whole-beside none q = none
whole-beside (next h b) (next g c) = next (whole_apart h g) (whole-beside b c)

-- ---- halving

halves : {order bytes k a : ℕ} {bs : List Block} → 3 ≤ k → Placed order bytes (blk (suc k) a ∷ bs) → Placed order bytes (blk k (a + 2 ^ k) ∷ blk k a ∷ bs)
halves {order} {bytes} {k} {a} l (next f b p) =
    let d : a % 2 ^ k ≡ 0 = multiple-le k (suc k) a (omega arith) f.aligned in
    let e : (a + 2 ^ k) % 2 ^ k ≡ 0 = multiple (a + 2 ^ k) (a / 2 ^ k + 1) (2 ^ k) (omega (arith, quotient a (2 ^ k) d)) in
    let high : Fits order bytes k (a + 2 ^ k) =
    record { low = l; high = omega (arith, f.high); aligned = e; above = omega (arith, f.above); inside = omega (arith, f.inside) } in
    let low : Fits order bytes k a = record { low = l; high = omega (arith, f.high); aligned = d; above = f.above; inside = omega (arith, f.inside) } in
    let h : a + 2 ^ k ≤ a + 2 ^ k = omega arith in
    next high (next (over h) (part-beside (omega arith) (omega arith) b)) (next low (part-beside (omega arith) (omega arith) b) p)

pub halve-managed : {order n total : ℕ} {m : Memory} {ls : List (List ℕ)} {others : List Block} {k a : ℕ} → 3 ≤ k →
    Managed order n total m ls (blk (suc k) a ∷ others) →
    Managed order n total m ls (blk k (a + 2 ^ k) ∷ blk k a ∷ others)
halve-managed {ls} {others} {k} {a} l g =
    let s = then (keep (blk k (a + 2 ^ k)) (back (bring (blk k a) (free_of 0 ls) others))) (back (bring (blk k (a + 2 ^ k)) (free_of 0 ls) (blk k a ∷ others))) in
    regrouped g (placed-shuffled s (halves l (in-hand g))) (omega (arith, same_bytes s, same_bytes (bring (blk (suc k) a) (free_of 0 ls) others), g.bytes))

-- ---- joining

joined : {order bytes k a : ℕ} {bs : List Block} → suc k < order → a % 2 ^ suc k ≡ 0 → Placed order bytes (blk k a ∷ blk k (a + 2 ^ k) ∷ bs) →
    Placed order bytes (blk (suc k) a ∷ bs)
joined {order} {bytes} {k} {a} l d (next f (next h b) (next g c p)) =
    let w : Fits order bytes (suc k) a = record { low = omega (arith, f.low); high = l; aligned = d; above = f.above; inside = omega (arith, g.inside) } in
    next w (whole-beside b c) p

module _ {order n total : ℕ} {m : Memory} {ls : List (List ℕ)} {others : List Block} (k : ℕ) (up : suc k < order) where
  whole-managed : (a : ℕ) → a % 2 ^ suc k ≡ 0 → Managed order n total m ls (blk k a ∷ blk k (a + 2 ^ k) ∷ others) →
      Managed order n total m ls (blk (suc k) a ∷ others)
  whole-managed a d g =
      let r = then (bring (blk k a) (free_of 0 ls) (blk k (a + 2 ^ k) ∷ others)) (keep (blk k a) (bring (blk k (a + 2 ^ k)) (free_of 0 ls) others)) in
      let s = back (bring (blk (suc k) a) (free_of 0 ls) others) in
      regrouped g (placed-shuffled s (joined up d (placed-shuffled r g.placed))) (omega (arith, same_bytes s, same_bytes r, g.bytes))

  -- a block and its buddy are one block of the next class
  pub join-managed : (a : ℕ) → k ≤ 32 → a % 2 ^ k ≡ 0 → Managed order n total m ls (blk k a ∷ blk k (buddy_of k a) ∷ others) →
      Managed order n total m ls (blk (suc k) (min a (buddy_of k a)) ∷ others)
  join-managed a l d g = go (pair k a l d)
    where
      go : Buddies k a (buddy_of k a) → Managed order n total m ls (blk (suc k) (min a (buddy_of k a)) ∷ others)
      go (upper f e) =
          let h : min a (buddy_of k a) ≡ a = omega arith in
          rw h (whole-managed a f (rw e at g))
      go (lower f e) =
          let h : min a (buddy_of k a) ≡ buddy_of k a = omega arith in
          let r : Managed order n total m ls (blk k (buddy_of k a) ∷ blk k (buddy_of k a + 2 ^ k) ∷ others) =
          rw (← e) (reordered (swap (blk k a) (blk k (buddy_of k a))) g) in
          rw h (whole-managed (buddy_of k a) f r)
