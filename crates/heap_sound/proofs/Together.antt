-- The parts of the soundness test come to `soundb`. Assumes nothing.
use mathlib.Core.Path.{◌≡◌, sym, ◌∙◌}
use mathlib.Core.Bool.{true, false, ◌&&◌}
use mathlib.Core.List.{List, ◌++◌, map}
use Prim.Native.Nat.{ℕ, ◌+◌, ◌*◌, ◌^◌, ◌<◌}
use native.Mathlib.Omega.{arith}
use lib.Dec.{leb}
use lib.ListN.{length, take, drop}
use lib.Seq.{length-take-le}
use borrow.Author.Tests.{eq-eqb}
use Rattle.words.specs.Words.{zerosb}
use Rattle.words.proofs.Tests.{both, join, no, same}
use Rattle.ledger.specs.Ledger.{grant_of, recordsb}
use Rattle.heap_state.specs.declared.Heap.{Heap}
use Rattle.heap_state.specs.State.{lengthsb, orderb}
use Rattle.heap_blocks.specs.Sound.{rangesb, headsb, listsb, placedb, disjointb, bytes_of, requests, countersb, soundb}
use Rattle.heap_blocks.specs.Parts.{free_up, freeb, blocks_of, endsb, grantedb}
use Rattle.heap_pairs.specs.Pairs.{crossb}
use Rattle.heap_blocks.proofs.Facts.{Ranges, Sound, ranges-fact, ranges-true, sound-fact, sound-true}
use Rattle.heap_blocks.proofs.Heads.{placed-append}
use Rattle.heap_blocks.proofs.Counters.{bytes-append, sums, granted_bytes, free_bytes}
use Rattle.heap_pairs.proofs.Crossing.{disjoint-append}
use Rattle.heap_blocks.proofs.Ends.{ends-ascend, ends-disjoint, disjoint-ends}

-- what the code tests, one by one; the pairs stand apart, since they come last
pub record Tested (h : Heap) (arena ledger : List ℕ) : Type 0 where
  pub ranges : lengthsb (length arena) (length ledger) && orderb h.order && leb h.count (length ledger) ≡ true
  pub free : freeb h.order 0 h.heads arena ≡ true
  pub granted : grantedb h.order (length arena * 8) 0 (take h.count ledger) ≡ true
  pub zeros : zerosb (drop h.count ledger) ≡ true
  pub user : h.user ≡ requests (map grant_of (take h.count ledger))
  pub allocated : h.allocated ≡ bytes_of (blocks_of (take h.count ledger))
  pub total : h.total ≡ bytes_of (blocks_of (take h.count ledger)) + bytes_of (free_up 0 h.heads arena)

module _ (h : Heap) (arena ledger : List ℕ) where
  pub ranges-of : lengthsb (length arena) (length ledger) && orderb h.order && leb h.count (length ledger) ≡ true → Ranges h arena ledger
  unfolding rangesb
  ranges-of e = ranges-fact h arena ledger e

  pub total-fits : Ranges h arena ledger → grantedb h.order (length arena * 8) 0 (take h.count ledger) ≡ true →
      bytes_of (blocks_of (take h.count ledger)) + bytes_of (free_up 0 h.heads arena) < 2 ^ 64
  unfolding grantedb
  total-fits r g =
      let ws = take h.count ledger in
      let p = both (recordsb h.order ws && endsb 0 ws) (placedb (length arena * 8) (blocks_of ws)) g in
      let q = both (recordsb h.order ws) (endsb 0 ws) p.0 in
      let l : length ws ≡ h.count = length-take-le h.count ledger r.room in
      omega (arith, granted_bytes h.order ws r.order-high q.0, free_bytes 33 0 (record { heads = h.heads; arena = arena }) (omega arith))

  pub tested : Sound h arena ledger → Tested h arena ledger × (crossb (free_up 0 h.heads arena) (blocks_of (take h.count ledger)) ≡ true)
  unfolding freeb grantedb rangesb
  tested s =
      let bytes = length arena * 8 in
      let ws = take h.count ledger in
      let fs = free_up 0 h.heads arena in
      let p = both (placedb bytes fs) (placedb bytes (blocks_of ws)) (sym (placed-append bytes fs (blocks_of ws)) ∙ s.placed) in
      let d = both (crossb fs (blocks_of ws)) (disjointb (blocks_of ws)) (sym (disjoint-append fs (blocks_of ws)) ∙ s.disjoint) in
      let c = sums h arena ledger s.counters in (
        record {
          ranges = ranges-true h arena ledger s.ranges;
          free = join (headsb h.order 0 h.heads && listsb arena h.heads) (placedb bytes fs) (join (headsb h.order 0 h.heads) (listsb arena h.heads) s.heads s.lists) p.0;
          granted =
              join (recordsb h.order ws && endsb 0 ws) (placedb bytes (blocks_of ws))
              (join (recordsb h.order ws) (endsb 0 ws) s.records (disjoint-ends ws s.ascending d.1)) p.1;
          zeros = s.zeros;
          user = c.user;
          allocated = c.allocated;
          total = omega (arith, c.total, bytes-append fs (blocks_of ws));
        },
        d.0,
      )

  counted : Tested h arena ledger → countersb h arena ledger ≡ true
  unfolding countersb
  counted t =
      let fs = free_up 0 h.heads arena in
      let ws = take h.count ledger in
      let e : h.total ≡ bytes_of (fs ++ blocks_of ws) = omega (arith, t.total, bytes-append fs (blocks_of ws)) in
      rw (eq-eqb h.user (requests (map grant_of ws)) t.user, eq-eqb h.allocated (bytes_of (blocks_of ws)) t.allocated, eq-eqb h.total (bytes_of (fs ++ blocks_of ws)) e)

  pub whole : Tested h arena ledger → crossb (free_up 0 h.heads arena) (blocks_of (take h.count ledger)) ≡ true → Sound h arena ledger
  unfolding freeb grantedb rangesb
  whole t x =
      let bytes = length arena * 8 in
      let ws = take h.count ledger in
      let fs = free_up 0 h.heads arena in
      let f = both (headsb h.order 0 h.heads && listsb arena h.heads) (placedb bytes fs) t.free in
      let hl = both (headsb h.order 0 h.heads) (listsb arena h.heads) f.0 in
      let g = both (recordsb h.order ws && endsb 0 ws) (placedb bytes (blocks_of ws)) t.granted in
      let re = both (recordsb h.order ws) (endsb 0 ws) g.0 in
      record {
        ranges = ranges-fact h arena ledger t.ranges;
        heads = hl.0;
        lists = hl.1;
        records = re.0;
        ascending = ends-ascend 0 0 ws (omega arith) re.1;
        zeros = t.zeros;
        placed = placed-append bytes fs (blocks_of ws) ∙ join (placedb bytes fs) (placedb bytes (blocks_of ws)) f.1 g.1;
        disjoint = disjoint-append fs (blocks_of ws) ∙ join (crossb fs (blocks_of ws)) (disjointb (blocks_of ws)) x (ends-disjoint 0 ws re.1);
        counters = counted t;
      }

  -- where the rest is well, the heap is sound just where the pairs are apart
  pub sound-cross : Tested h arena ledger → crossb (free_up 0 h.heads arena) (blocks_of (take h.count ledger)) ≡ soundb h arena ledger
  sound-cross t = same _ _ (λ e. sound-true h arena ledger (whole t e)) (λ e. (tested (sound-fact h arena ledger e)).1)

  -- where a part fails the heap is not sound
  pub unsound : (Tested h arena ledger → ⊥) → false ≡ soundb h arena ledger
  unsound f = sym (no _ (λ e. f (tested (sound-fact h arena ledger e)).0))
