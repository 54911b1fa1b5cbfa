-- The span of a release, told by the words of a sound table: what each comparison of src/release.rt says of it. Assumes nothing.
use mathlib.Core.Path.{◌≡◌, refl, sym, ap, ◌∙◌}
use mathlib.Core.Bool.{true, false}
use mathlib.Core.List.{List}
use Prim.Native.Nat.{ℕ, ◌+◌, ◌-◌, ◌%◌, ◌^◌, ◌≤◌, ◌<◌}
use native.Mathlib.Omega.{arith}
use lib.ListN.{length, get_or}
use Rattle.blocks.specs.Blocks.{buddy_of}
use Rattle.rules.specs.Rules.{Block, blk, granted, class, start, Sound, block_at}
use Rattle.rules.proofs.Spanning as spanning
use Rattle.rules.proofs.Spanning.{Spans, closed}
use Rattle.table.specs.Layout.{order_of, count_of, class_of, start_of, block_of, blocks_of, word_of}
use Rattle.table.proofs.Facts.{sound-fact}
use Rattle.table.proofs.State.{sound-blocks, length-blocks, block-at}
use Rattle.frame_release.specs.Release.{Releasable, after_release, Joins}
use Rattle.frame_release.proofs.Compared.{same_block, other_block}

abbrev pub Span : List ℕ → ℕ → ℕ → ℕ → ℕ → ℕ → Type 0
Span ws i from to k s = Spans (order_of (get_or ws 0 0) - 1) (blocks_of ws) (after_release ws i) from to k s

module _ (ws : List ℕ) (i : ℕ) (p : Releasable ws i) where
  sound : Sound (order_of (get_or ws 0 0) - 1) 0 (blocks_of ws)
  sound = sound-blocks ws p.sound

  order : order_of (get_or ws 0 0) - 1 ≤ 32
  order = let f = sound-fact ws p.sound in omega (arith, f.head.high)

  count : length (blocks_of ws) ≡ count_of (get_or ws 0 0)
  count = length-blocks ws p.sound

  -- the block itself
  pub span_begins : (k s : ℕ) → k ≡ class_of (get_or ws (i + 1) 0) → s ≡ start_of (get_or ws (i + 1) 0) → Span ws i i (i + 1) k s
  span_begins k s x y = at_block (block_at i (blocks_of ws)) refl p.marked
    where
      at_block : (b : Block) → block_at i (blocks_of ws) ≡ b → granted (block_at i (blocks_of ws)) ≡ true → Span ws i i (i + 1) k s
      at_block (blk g j t) e m =
          let f : block_at i (blocks_of ws) ≡ block_of (get_or ws (i + 1) 0) = block-at ws p.sound i p.here in
          let q : g ≡ true = sym (ap granted e) ∙ m in
          let a : j ≡ k = sym (ap class e) ∙ ap class f ∙ sym x in
          let b : t ≡ s = sym (ap start e) ∙ ap start f ∙ sym y in
          let h : block_at i (blocks_of ws) ≡ blk true k s = cc in
          rw h (spanning.begins (blocks_of ws) sound order i k s (omega (arith, count, p.here)) h)

  module _ (from to k s : ℕ) (w : Span ws i from to k s) (low : from ≤ i) (high : i < to) where
    -- what is put in the span's place
    joins : after_release ws i ≡ closed (blocks_of ws) from to k s → Joins ws i from to k s
    joins e = record {
      low = low;
      high = high;
      within = omega (arith, w.within, count);
      small = omega (arith, w.small, order);
      ends = w.ends;
      after = e;
    }

    pub at_top : order_of (get_or ws 0 0) - 1 ≤ k → Joins ws i from to k s
    at_top h = joins (spanning.at_top (blocks_of ws) sound order (after_release ws i) from to k s w h)

    module _ (below : (j : ℕ) → get_or ws j 0 < 2 ^ 64) (h : k < order_of (get_or ws 0 0) - 1) (b v : ℕ) (buddy : b ≡ buddy_of k s)
        (made : v ≡ word_of (blk false (k % 64) (b % 2 ^ 32))) where
      fits : buddy_of k s < 2 ^ 32
      fits = spanning.buddy-fits (blocks_of ws) sound order (after_release ws i) from to k s w h

      word : v ≡ word_of (blk false (k % 64) (buddy_of k s % 2 ^ 32))
      word = made ∙ ap (λ (x : ℕ). word_of (blk false (k % 64) (x % 2 ^ 32))) buddy

      module _ (l : s < b) where
        above : s < buddy_of k s
        above = omega (arith, buddy)

        pub up-end : count_of (get_or ws 0 0) ≤ to → Joins ws i from to k s
        up-end e = joins (spanning.stops-at-end (blocks_of ws) sound order (after_release ws i) from to k s w h above (omega (arith, count)))

        pub up-other : to < count_of (get_or ws 0 0) → (get_or ws (to + 1) 0 ≡ v → ⊥) → Joins ws i from to k s
        up-other g n =
            joins
            (spanning.stops-up (blocks_of ws) sound order (after_release ws i) from to k s w h above (omega (arith, count))
            (other_block ws p.sound below k (buddy_of k s) v (omega (arith, order)) fits word to g n))

        pub up_same : to < count_of (get_or ws 0 0) → get_or ws (to + 1) 0 ≡ v → Span ws i from (to + 1) (k + 1) s
        up_same g e =
            spanning.widens-up (blocks_of ws) sound order (after_release ws i) from to k s w h above (omega (arith, count))
            (same_block ws p.sound below k (buddy_of k s) v (omega (arith, order)) fits word to g e)

      module _ (l : b ≤ s) where
        under : buddy_of k s ≤ s
        under = omega (arith, buddy)

        pub down-start : from ≡ 0 → Joins ws i from to k s
        down-start e = joins (spanning.stops-at-start (blocks_of ws) sound order (after_release ws i) from to k s w h under e)

        module _ (m : ℕ) (f : m + 1 ≡ from) where
          here : m < count_of (get_or ws 0 0)
          here = omega (arith, p.here)

          at_from : get_or ws from 0 ≡ get_or ws (m + 1) 0
          at_from = ap (λ (x : ℕ). get_or ws x 0) (sym f)

          pub down-other : (get_or ws from 0 ≡ v → ⊥) → Joins ws i from to k s
          down-other n =
              joins
              (spanning.stops-down (blocks_of ws) sound order (after_release ws i) from to k s w h under m f
              (other_block ws p.sound below k (buddy_of k s) v (omega (arith, order)) fits word m here (λ e. n (at_from ∙ e))))

          pub down-same : get_or ws from 0 ≡ v → Span ws i m to (k + 1) b
          down-same e =
              rw buddy
              (spanning.widens-down (blocks_of ws) sound order (after_release ws i) from to k s w h under m f
              (same_block ws p.sound below k (buddy_of k s) v (omega (arith, order)) fits word m here (sym at_from ∙ e)))
