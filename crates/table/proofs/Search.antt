-- The search for a frame's place, told by the words of a sound table. Assumes nothing.
use mathlib.Core.Path.{◌≡◌, sym, ap, ◌∙◌}
use mathlib.Core.Bool.{true, false}
use mathlib.Core.List.{List, [], ◌∷◌}
use Prim.Native.Nat.{ℕ, zero, suc, ◌+◌, ◌-◌, ◌≤◌, ◌<◌}
use native.Mathlib.Omega.{arith}
use lib.Dec.{leb}
use lib.ListN.{length, drop, get_or}
use lib.Seq.{get_or-take, get_or-drop}
use borrow.Author.Tests.{leb-true, leb-false}
use Rattle.std.specs.Prelude.{slice_range}
use Rattle.std.specs.List.Sorted.{IsNonDecreasingBy, IsPartitionedBy, IsPartitionPoint}
use Rattle.std.proofs.lemmas.List.Sorted.{IsPartitionedBy-leb}
use Rattle.rules.specs.Rules.{start, end, block_at, place_of}
use Rattle.rules.specs.declared.Place.TheVariants.{Inside, Gap}
use Rattle.rules.proofs.Looking.{found_none, found_inside, found-gap}
use Rattle.words.proofs.Tests.{both}
use Rattle.table.specs.Layout.{count_of, start_of, end_of, records, blocks_of}
use Rattle.table.specs.Sound.{apartb, soundb}
use Rattle.table.proofs.Facts.{sound-fact}
use Rattle.table.proofs.State.{sound-blocks, length-records, length-blocks, block-at}
use Rattle.table.proofs.Walked.{walked}

-- the starts of blocks that stand apart ascend
from-floor : (floor : ℕ) (ws : List ℕ) → apartb floor ws ≡ true → (j d : ℕ) → j < length ws → floor ≤ start_of (get_or ws j d)
from-floor floor [] e j d h = omega arith
from-floor floor (w ∷ ws) e zero d h = leb-true _ _ (both _ _ e).0
from-floor floor (w ∷ ws) e (suc j) d h =
    let p = both (leb floor (start_of w)) (apartb (end_of w) ws) e in
    omega (arith, leb-true floor (start_of w) p.0, from-floor (end_of w) ws p.1 j d (omega arith))

rising : (floor : ℕ) (ws : List ℕ) → apartb floor ws ≡ true → IsNonDecreasingBy start_of ws
rising floor [] e i j d l h = omega arith
rising floor (w ∷ ws) e zero zero d l h = omega arith
rising floor (w ∷ ws) e zero (suc j) d l h =
    let p = both (leb floor (start_of w)) (apartb (end_of w) ws) e in
    omega (arith, from-floor (end_of w) ws p.1 j d (omega arith))
rising floor (w ∷ ws) e (suc i) zero d l h = omega arith
rising floor (w ∷ ws) e (suc i) (suc j) d l h = rising (end_of w) ws (both (leb floor (start_of w)) (apartb (end_of w) ws) e).1 i j d (omega arith) (omega arith)

module _ (ws : List ℕ) (sound : soundb ws ≡ true) where
  pub start-at : (i : ℕ) → i < count_of (get_or ws 0 0) → start (block_at i (blocks_of ws)) ≡ start_of (get_or ws (i + 1) 0)
  start-at i h = ap start (block-at ws sound i h)

  pub end-at : (i : ℕ) → i < count_of (get_or ws 0 0) → end (block_at i (blocks_of ws)) ≡ end_of (get_or ws (i + 1) 0)
  end-at i h = ap end (block-at ws sound i h)

  pub parted : (frame count : ℕ) → count ≡ count_of (get_or ws 0 0) → IsPartitionedBy (λ w. leb (start_of w) frame) (slice_range ws 1 (count + 1))
  parted frame count e =
      let up : IsNonDecreasingBy start_of (records ws) = rising 0 (records ws) (sound-fact ws sound).apart in
      IsPartitionedBy-leb start_of (slice_range ws 1 (count + 1)) frame (rw (walked ws count e) up)

  -- the first n records start at or before the frame, and the others after it
  module _ (frame count n : ℕ) (e : count ≡ count_of (get_or ws 0 0)) (in_range : n ≤ length (slice_range ws 1 (count + 1)))
      (point : IsPartitionPoint (λ w. leb (start_of w) frame ≡ true) (λ w. leb (start_of w) frame ≡ false) (slice_range ws 1 (count + 1)) n) where
    all : length (slice_range ws 1 (count + 1)) ≡ count
    all = ap length (walked ws count e) ∙ length-records ws sound ∙ sym e

    start-is : (m : ℕ) → m < count → start_of (get_or (slice_range ws 1 (count + 1)) m 0) ≡ start (block_at m (blocks_of ws))
    start-is m h =
        let q : 1 + m ≡ m + 1 = omega arith in
        ap start_of (get_or-take (count + 1 - 1) (drop 1 ws) m 0 (omega arith) ∙ get_or-drop 1 ws m 0 ∙ ap (λ (i : ℕ). get_or ws i 0) q)
        ∙ sym (start-at m (omega arith))

    low : (m : ℕ) → m < n → start (block_at m (blocks_of ws)) ≤ frame
    low m h = omega (arith, start-is m (omega (arith, all)), leb-true _ _ (point.0 m 0 (omega arith) h))

    high : (m : ℕ) → n ≤ m → m < count → frame < start (block_at m (blocks_of ws))
    high m l h = omega (arith, start-is m h, leb-false _ _ (point.1 m 0 l (omega (arith, all))))

    last : 0 < n → end (block_at (n - 1) (blocks_of ws)) ≡ end_of (get_or ws n 0)
    last h =
        let q : n - 1 + 1 ≡ n = omega arith in
        end-at (n - 1) (omega (arith, all)) ∙ ap (λ (i : ℕ). end_of (get_or ws i 0)) q

    pub is-inside : 0 < n → frame < end_of (get_or ws n 0) → place_of frame (blocks_of ws) ≡ Inside (n - 1)
    is-inside h g =
        found_inside frame (blocks_of ws) (sound-blocks ws sound) (n - 1) (omega (arith, all, length-blocks ws sound)) (low (n - 1) (omega arith))
        (omega (arith, last h))

    pub none-before : n ≡ 0 → place_of frame (blocks_of ws) ≡ Gap n
    none-before z =
        found_none frame (blocks_of ws) (sound-blocks ws sound) (λ h. high 0 (omega arith) (omega (arith, length-blocks ws sound))) ∙ ap Gap (sym z)

    pub is-past : 0 < n → end_of (get_or ws n 0) ≤ frame → place_of frame (blocks_of ws) ≡ Gap n
    is-past h g =
        let q : n - 1 + 1 ≡ n = omega arith in
        found-gap frame (blocks_of ws) (sound-blocks ws sound) (n - 1) (omega (arith, all, length-blocks ws sound)) (low (n - 1) (omega arith))
        (omega (arith, last h)) (λ l. high (n - 1 + 1) (omega arith) (omega (arith, length-blocks ws sound)))
        ∙ ap Gap q
