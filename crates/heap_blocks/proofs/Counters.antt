-- The counters of a sound heap are far below what 64 bits hold. Assumes nothing.
use mathlib.Core.Path.{◌≡◌}
use mathlib.Core.Bool.{true}
use mathlib.Core.List.{List, [], ◌∷◌, ◌++◌, map}
use Prim.Native.Nat.{ℕ, zero, suc, ◌+◌, ◌*◌, ◌^◌, ◌≤◌, ◌<◌}
use native.Mathlib.Omega.{arith}
use lib.ListN.{length, get_or, take}
use lib.Seq.{length-take-le}
use borrow.Author.Tests.{eqb-true}
use Rattle.words.proofs.Tests.{both}
use Rattle.linked_list.specs.Links.{next, nodes}
use Rattle.ledger.specs.Ledger.{grant_of, class_of, grants, recordb, recordsb}
use Rattle.heap_state.specs.declared.Heap.{Heap}
use Rattle.heap_state.specs.Lists.{Memory, list}
use Rattle.heap_blocks.specs.Sound.{Block, blk, block_of, free_from, free_blocks, granted_blocks, all_blocks, bytes_of, requests, countersb}
use Rattle.heap_blocks.proofs.Facts.{Sound}
use Rattle.heap_blocks.proofs.Records.{record-fact, size_small}

pub bytes-append : (xs ys : List Block) → bytes_of (xs ++ ys) ≡ bytes_of xs + bytes_of ys
bytes-append [] ys = omega arith
bytes-append (blk k a ∷ xs) ys = omega (arith, bytes-append xs ys)

pub nodes-bytes : (k most : ℕ) (arena : List ℕ) (a : ℕ) → k ≤ 32 → bytes_of (map (blk k) (nodes most arena a)) ≤ most * 4294967296
unfolding nodes
nodes-bytes k zero arena a h = omega arith
nodes-bytes k (suc most) arena zero h = omega arith
nodes-bytes k (suc most) arena (suc a) h = omega (arith, nodes-bytes k most arena (next arena (suc a)) h, size_small k (omega arith))

pub free_bytes : (n k : ℕ) (m : Memory) → k + n ≤ 33 → bytes_of (free_from n k m) ≤ n * (length m.arena * 4294967296)
free_bytes zero k m h = omega arith
free_bytes (suc n) k m h =
    let rest = free_bytes n (suc k) m (omega arith) in
    let mine = nodes-bytes k (length m.arena) m.arena (get_or m.heads k 0) (omega arith) in
    let e = bytes-append (map (blk k) (list k m)) (free_from n (suc k) m) in
    omega arith

pub granted_bytes : (order : ℕ) (ws : List ℕ) → order ≤ 33 → recordsb order ws ≡ true → bytes_of (map block_of (map grant_of ws)) ≤ length ws * 4294967296
granted_bytes order [] h e = omega arith
granted_bytes order (w ∷ ws) h e =
    let p = both (recordb order w) (recordsb order ws) e in
    let f = record-fact order w p.0 in
    omega (arith, granted_bytes order ws h p.1, size_small (class_of w) (omega arith))

pub granted-requests : (ws : List ℕ) → requests (map grant_of ws) ≤ length ws * 16777216
granted-requests [] = omega arith
granted-requests (w ∷ ws) = omega (arith, granted-requests ws)

pub record Small (h : Heap) : Type 0 where
  pub user : h.user < 2 ^ 62
  pub allocated : h.allocated < 2 ^ 62
  pub total : h.total < 2 ^ 62

-- the counters are sums over at most 65,535 records, and 33 lists of at most 1,048,576 nodes
pub record Sums (h : Heap) (arena ledger : List ℕ) : Type 0 where
  pub user : h.user ≡ requests (grants h.count ledger)
  pub allocated : h.allocated ≡ bytes_of (granted_blocks h ledger)
  pub total : h.total ≡ bytes_of (all_blocks h arena ledger)

pub sums : (h : Heap) (arena ledger : List ℕ) → countersb h arena ledger ≡ true → Sums h arena ledger
unfolding countersb
sums h arena ledger e =
    let p = both _ _ e in
    let q = both _ _ p.0 in
    record { user = eqb-true h.user _ q.0; allocated = eqb-true h.allocated _ q.1; total = eqb-true h.total _ p.1 }

pub counters-small : (h : Heap) (arena ledger : List ℕ) → Sound h arena ledger → Small h
counters-small h arena ledger s =
    let c = sums h arena ledger s.counters in
    let r = s.ranges in
    let l : length (take h.count ledger) ≡ h.count = length-take-le h.count ledger r.room in
    let u = granted-requests (take h.count ledger) in
    let g = granted_bytes h.order (take h.count ledger) r.order-high s.records in
    let f = free_bytes 33 0 (record { heads = h.heads; arena = arena }) (omega arith) in
    let e = bytes-append (free_blocks h arena) (granted_blocks h ledger) in
    record { user = omega arith; allocated = omega arith; total = omega arith }
