-- Adding a range held to its rule: bad, empty, overlapping, or put where it belongs. Assumes nothing.
use mathlib.Core.Path.{◌≡◌, refl, sym}
use mathlib.Core.Bool.{Bool, true, false, not, ◌&&◌, true≢false}
use mathlib.Core.List.{List, [], ◌∷◌}
use Prim.Native.Nat.{ℕ, ◌+◌, ◌-◌, ◌^◌, ◌≤◌, ◌<◌}
use native.Mathlib.Omega.{arith}
use lib.Dec.{leb, ltb}
use lib.ListN.{length, get_or, drop}
use borrow.Author.Tests.{leb-true, leb-false, ltb-true, ltb-false, lt-ltb, le-ltb}
use Rattle.std.specs.Prelude.{Ok, Err}
use Rattle.answers.specs.declared.Refusal.TheVariants.{BadRange, Overlap}
use Rattle.rules.specs.Rules.{Block, some, overlaps, added, cut, cut_from, place_of}
use Rattle.rules.specs.declared.Place.TheVariants.{Inside, Gap}
use Rattle.rules.proofs.Lists.{Above, Misses, none-misses, and-misses, some-misses, clear-from}
use Rattle.rules.proofs.Looking.{GapAt, inside_is, gap_is}
use Rattle.rules.proofs.Ranges.{overlaps-inside, overlaps-next, apart-here}
use Rattle.table.specs.Layout.{order_of, count_of, start_of, blocks_of}
use Rattle.table.specs.Sound.{soundb}
use Rattle.table.proofs.Facts.{sound-fact}
use Rattle.table.proofs.Search.{start-at}
use Rattle.table.proofs.State.{sound-blocks, length-blocks, table_is}
use Rattle.frame_core.specs.Carried.{Reply, carried, Says, reply_of}
use Rattle.frame_add.specs.Add.{Addable, placing, starts_before}
use Rattle.frame_add.specs.Adding.{adding}

-- an empty range overlaps nothing
empty-misses : (s : ℕ) (bs : List Block) → Misses (overlaps s s) bs
empty-misses s [] = none-misses
empty-misses s (b ∷ bs) = let n : overlaps s s b ≡ false = rw (le-ltb s s (omega arith)) refl in and-misses n (empty-misses s bs)

nothing-added : (top s : ℕ) (bs : List Block) → added top s s bs ≡ bs
unfolding added cut cut_from
nothing-added top s bs = let e : s - s ≡ 0 = omega arith in rw e refl

module _ (ws : List ℕ) (sound : soundb ws ≡ true) (s e : ℕ) where
  abbrev Says-of : Reply → List ℕ → Type 0
  Says-of r after = Says (carried (0 ∷ []) ws (adding s e (order_of (get_or ws 0 0)) (length ws - 1) (blocks_of ws))) r after

  pub backward : e < s → Says-of (reply_of (Err BadRange)) ws
  unfolding adding
  backward h = rw (lt-ltb e s h) (record { reply = refl; words = refl })

  module _ (h : s ≤ e) where
    pub too_far : 2 ^ 32 < e → Says-of (reply_of (Err BadRange)) ws
    unfolding adding
    too_far l = rw (le-ltb e s h, lt-ltb (2 ^ 32) e l) (record { reply = refl; words = refl })

    module _ (l : e ≤ 2 ^ 32) where
      overlapping : some (overlaps s e) (blocks_of ws) ≡ true → Says-of (reply_of (Err Overlap)) ws
      unfolding adding
      overlapping o = rw (le-ltb e s h, le-ltb (2 ^ 32) e l, o) (record { reply = refl; words = refl })

      pub in_block : (i : ℕ) → place_of s (blocks_of ws) ≡ Inside i → s < e → Says-of (reply_of (Err Overlap)) ws
      in_block i p g = overlapping (overlaps-inside s e i (blocks_of ws) (inside_is s i (blocks_of ws) (sound-blocks ws sound) p) g)

      module _ (i : ℕ) (p : place_of s (blocks_of ws) ≡ Gap i) where
        gap : GapAt s i (blocks_of ws)
        gap = gap_is s i (blocks_of ws) (sound-blocks ws sound) p

        in_place : (b : Bool) → leb (count_of (get_or ws 0 0)) i ≡ b → not b && ltb (start_of (get_or ws (i + 1) 0)) e ≡ true
            → (i < count_of (get_or ws 0 0)) × (start_of (get_or ws (i + 1) 0) < e)
        in_place true q r = absurd (true≢false (sym r))
        in_place false q r = (leb-false (count_of (get_or ws 0 0)) i q, ltb-true (start_of (get_or ws (i + 1) 0)) e r)

        pub meets-next : starts_before ws i e ≡ true → s < e → Says-of (reply_of (Err Overlap)) ws
        unfolding starts_before
        meets-next q g =
            let w = in_place (leb (count_of (get_or ws 0 0)) i) refl q in
            overlapping
            (overlaps-next s e i (blocks_of ws) (sound-blocks ws sound) gap (omega (arith, length-blocks ws sound)) g (omega (arith, start-at ws sound i w.0, w.1)))

        out-of-place : (b : Bool) → leb (count_of (get_or ws 0 0)) i ≡ b → not b && ltb (start_of (get_or ws (i + 1) 0)) e ≡ false
            → i < count_of (get_or ws 0 0) → e ≤ start_of (get_or ws (i + 1) 0)
        out-of-place true q r g = absurd (omega (arith, leb-true (count_of (get_or ws 0 0)) i q))
        out-of-place false q r g = ltb-false (start_of (get_or ws (i + 1) 0)) e r

        module _ (q : starts_before ws i e ≡ false) where
          clear : Above e (drop i (blocks_of ws))
          unfolding starts_before
          clear =
              clear-from e i (blocks_of ws) (sound-blocks ws sound)
              (λ g. let k : i < count_of (get_or ws 0 0) = omega (arith, length-blocks ws sound) in
              omega (arith, start-at ws sound i k, out-of-place (leb (count_of (get_or ws 0 0)) i) refl q k))

          pub addable : Addable ws i s e
          addable = record { sound = sound; ordered = h; within = l; gap = gap; clear = clear }

          pub taken : {r : Reply} {after : List ℕ}
              → Says (carried (0 ∷ []) ws (placing s e (order_of (get_or ws 0 0)) (length ws - 1) (blocks_of ws))) r after → Says-of r after
          unfolding adding
          taken w = rw (le-ltb e s h, le-ltb (2 ^ 32) e l, apart-here s e i (blocks_of ws) (sound-blocks ws sound) gap clear) w

-- an empty range is accepted and adds nothing
pub empty : (ws : List ℕ) → soundb ws ≡ true → (s e : ℕ) → s ≡ e → e ≤ 2 ^ 32 → ((j : ℕ) → get_or ws j 0 < 2 ^ 64)
    → Says (carried (0 ∷ []) ws (adding s e (order_of (get_or ws 0 0)) (length ws - 1) (blocks_of ws))) (reply_of (Ok 0)) ws
unfolding adding
empty ws sound s e q l below =
    let f = sound-fact ws sound in
    let n : length (blocks_of ws) ≤ length ws - 1 = omega (arith, length-blocks ws sound, f.head.room) in
    rw (sym q)
    (rw (le-ltb s s (omega arith), le-ltb (2 ^ 32) s (omega arith), some-misses (overlaps s s) (empty-misses s (blocks_of ws)), nothing-added (order_of (get_or ws 0 0) - 1) s (blocks_of ws), le-ltb (length ws - 1) (length (blocks_of ws)) n)
    (record { reply = refl; words = table_is ws sound below }))
