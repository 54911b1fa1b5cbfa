-- A walk along one list of free blocks, at the loop's numbers: the blocks before are in their place and added up. Assumes nothing.
use mathlib.Core.Path.{◌≡◌, refl, sym, ap, ◌∙◌}
use mathlib.Core.Bool.{true, false, ◌&&◌}
use mathlib.Core.List.{List, [], ◌∷◌, map}
use Prim.Native.Nat.{ℕ, suc, ◌+◌, ◌-◌, ◌*◌, ◌^◌, ◌≤◌, ◌<◌}
use native.Mathlib.Omega.{arith}
use lib.Dec.{ltb}
use lib.ListN.{length}
use borrow.Author.Tests.{lt-ltb, le-ltb}
use Rattle.words.proofs.Tests.{and-false}
use Rattle.linked_list.specs.Links.{nodes}
use Rattle.heap_blocks.specs.Sound.{blk, placedb, bytes_of}
use Rattle.heap_blocks.specs.Parts.{blockb, list_blocks, listb}
use Rattle.heap_blocks.proofs.Heads.{placed-cons}
use Rattle.heap_blocks.proofs.Counters.{nodes-bytes}
use Rattle.heap_blocks.proofs.Walks.{list-is}
use Rattle.heap_lists.specs.Tallied.{Walked}
use Rattle.std.specs.Prelude.{Some, None}

module _ (k head : ℕ) (arena : List ℕ) where
  abbrev all : List ℕ
  all = nodes (length arena) arena head

  abbrev bytes : ℕ
  bytes = length arena * 8

  -- `before` nodes were walked, these are left, and the blocks of those before have so many bytes
  pub record Walk (before sum : ℕ) (left : List ℕ) : Type 0 where
    pub counted : before + length left ≡ length all
    pub fewer : before < length arena
    pub placed : placedb bytes (map (blk k) left) ≡ placedb bytes (map (blk k) all)
    pub summed : sum + bytes_of (map (blk k) left) ≡ bytes_of (map (blk k) all)

  pub walk-start : 1 ≤ length arena → Walk 0 0 all
  walk-start h = record { counted = omega arith; fewer = h; placed = refl; summed = omega arith }

  whole : 1 ≤ length arena → listb bytes k (length arena - 1) arena head ≡ ltb (length all) (length arena) && placedb bytes (map (blk k) all)
  whole h = let e : suc (length arena - 1) ≡ length arena = omega arith in list-is bytes k (length arena - 1) arena head ∙ rw e refl

  bad : 1 ≤ length arena → ltb (length all) (length arena) && placedb bytes (map (blk k) all) ≡ false → Walked k head arena None
  bad h e = rw (whole h ∙ e) refl

  module _ (before sum : ℕ) (left : List ℕ) (w : Walk before sum left) where
    pub walk-end : left ≡ [] → Walked k head arena (Some sum)
    walk-end e =
        let n : length all ≡ before = sym w.counted ∙ rw e (omega arith) in
        let p : placedb bytes (map (blk k) all) ≡ true = sym w.placed ∙ rw e refl in
        let s : bytes_of (list_blocks k (length arena) arena head) ≡ sum = sym w.summed ∙ rw e (omega arith) in
        rw (whole (omega (arith, w.fewer)), n, lt-ltb before (length arena) w.fewer, p, s) refl

    module _ (node : ℕ) (rest : List ℕ) (is : left ≡ node ∷ rest) where
      first : placedb bytes (map (blk k) all) ≡ blockb bytes k node && placedb bytes (map (blk k) rest)
      first = sym w.placed ∙ rw is (placed-cons bytes k node (map (blk k) rest))

      -- as many nodes as the arena has words, or a node that is no block in its place
      pub walk-long : before + 1 ≡ length arena → Walked k head arena None
      walk-long e =
          let n : length arena ≤ length all = omega (arith, w.counted, ap length is) in
          bad (omega (arith, w.fewer)) (rw (le-ltb (length all) (length arena) n) refl)

      pub walk-misplaced : blockb bytes k node ≡ false → Walked k head arena None
      walk-misplaced e = bad (omega (arith, w.fewer)) (rw (first, e) (and-false (ltb (length all) (length arena))))

      pub walk-fits : k ≤ 32 → length arena ≤ 1048576 → sum + 2 ^ k < 2 ^ 64
      walk-fits h l = omega (arith, w.summed, ap (λ (xs : List ℕ). bytes_of (map (blk k) xs)) is, nodes-bytes k (length arena) arena head h)

      pub walk-on : (before + 1 ≡ length arena → ⊥) → blockb bytes k node ≡ true → Walk (before + 1) (sum + 2 ^ k) rest
      walk-on q e =
          record {
            counted = omega (arith, w.counted, ap length is);
            fewer = omega (arith, w.fewer);
            placed = sym (first ∙ rw e refl);
            summed = omega (arith, w.summed, ap (λ (xs : List ℕ). bytes_of (map (blk k) xs)) is);
          }
