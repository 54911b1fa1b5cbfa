-- A sound heap's facts, one by one, and back. Assumes nothing.
use mathlib.Core.Path.{◌≡◌}
use mathlib.Core.Bool.{true}
use mathlib.Core.List.{List}
use Prim.Native.Nat.{ℕ, ◌*◌, ◌≤◌}
use lib.ListN.{length, take, drop}
use borrow.Author.Tests.{leb-true, le-leb}
use Rattle.words.specs.Words.{zerosb}
use Rattle.words.proofs.Tests.{both}
use Rattle.ledger.specs.Ledger.{recordsb, ascendingb}
use Rattle.heap_state.specs.declared.Heap.{Heap}
use Rattle.heap_state.proofs.InRange.{Lengths, lengths-fact, lengths-true, order-fact, order-true}
use Rattle.heap_blocks.specs.Sound.{rangesb, headsb, listsb, all_blocks, placedb, disjointb, countersb, soundb}

-- lengths, ORDER and count as numbers
pub record Ranges (h : Heap) (arena ledger : List ℕ) : Type 0 where
  pub arena-low : 2 ≤ length arena
  pub arena-high : length arena ≤ 1048576
  pub ledger-low : 1 ≤ length ledger
  pub ledger-high : length ledger ≤ 65535
  pub order-low : 4 ≤ h.order
  pub order-high : h.order ≤ 33
  pub room : h.count ≤ length ledger

pub ranges-fact : (h : Heap) (arena ledger : List ℕ) → rangesb h arena ledger ≡ true → Ranges h arena ledger
unfolding rangesb
ranges-fact h arena ledger e =
    let p = both _ _ e in
    let q = both _ _ p.0 in
    let l = lengths-fact (length arena) (length ledger) q.0 in
    let o = order-fact h.order q.1 in
    record {
      arena-low = l.arena-low;
      arena-high = l.arena-high;
      ledger-low = l.ledger-low;
      ledger-high = l.ledger-high;
      order-low = o.0;
      order-high = o.1;
      room = leb-true h.count (length ledger) p.1;
    }

pub ranges-true : (h : Heap) (arena ledger : List ℕ) → Ranges h arena ledger → rangesb h arena ledger ≡ true
unfolding rangesb
ranges-true h arena ledger r =
    let lengths : Lengths (length arena) (length ledger) =
    record { arena-low = r.arena-low; arena-high = r.arena-high; ledger-low = r.ledger-low; ledger-high = r.ledger-high } in
    rw (lengths-true (length arena) (length ledger) lengths, order-true h.order r.order-low r.order-high, le-leb h.count (length ledger) r.room)

pub record Sound (h : Heap) (arena ledger : List ℕ) : Type 0 where
  pub ranges : Ranges h arena ledger
  pub heads : headsb h.order 0 h.heads ≡ true
  pub lists : listsb arena h.heads ≡ true
  pub records : recordsb h.order (take h.count ledger) ≡ true
  pub ascending : ascendingb 0 (take h.count ledger) ≡ true
  pub zeros : zerosb (drop h.count ledger) ≡ true
  pub placed : placedb (length arena * 8) (all_blocks h arena ledger) ≡ true
  pub disjoint : disjointb (all_blocks h arena ledger) ≡ true
  pub counters : countersb h arena ledger ≡ true

pub sound-fact : (h : Heap) (arena ledger : List ℕ) → soundb h arena ledger ≡ true → Sound h arena ledger
unfolding soundb
sound-fact h arena ledger e =
    let p8 = both _ _ e in
    let p7 = both _ _ p8.0 in
    let p6 = both _ _ p7.0 in
    let p5 = both _ _ p6.0 in
    let p4 = both _ _ p5.0 in
    let p3 = both _ _ p4.0 in
    let p2 = both _ _ p3.0 in
    let p1 = both _ _ p2.0 in
    record {
      ranges = ranges-fact h arena ledger p1.0;
      heads = p1.1;
      lists = p2.1;
      records = p3.1;
      ascending = p4.1;
      zeros = p5.1;
      placed = p6.1;
      disjoint = p7.1;
      counters = p8.1;
    }

pub sound-true : (h : Heap) (arena ledger : List ℕ) → Sound h arena ledger → soundb h arena ledger ≡ true
unfolding soundb
sound-true h arena ledger s =
    rw (ranges-true h arena ledger s.ranges, s.heads, s.lists, s.records, s.ascending, s.zeros, s.placed, s.disjoint, s.counters)
