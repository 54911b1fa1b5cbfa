-- The window of a table that a block's halves are written to from both ends, told by what is still to be written. Assumes nothing.
use mathlib.Core.Path.{◌≡◌, ap, ◌∙◌}
use mathlib.Core.Bool.{true, false}
use mathlib.Core.List.{List, [], ◌∷◌, ◌++◌, map, map-append}
use Prim.Native.Nat.{ℕ, suc, ◌+◌, ◌-◌, ◌%◌, ◌^◌, ◌≤◌, ◌<◌}
use native.Mathlib.Omega.{arith}
use lib.ListN.{length, take, drop, set}
use lib.Pow.{pow_pos}
use Rattle.blocks.specs.Blocks.{size_of}
use Rattle.blocks.proofs.Rounding.{size_is}
use Rattle.rules.specs.Rules.{Block, blk, towards}
use Rattle.rules.proofs.Halving.{halve-low, halve-high, halve-done}
use Rattle.table.specs.Layout.{word_of}
use Rattle.table.proofs.State.{record-fits}
use Rattle.words.proofs.Writing.{low_turn, high-turn, window-done}

-- t with the records of the blocks bs in the window [lo, hi)
abbrev pub window : List ℕ → ℕ → ℕ → List Block → List ℕ
window t lo hi bs = take lo t ++ (map word_of bs ++ drop hi t)

-- a block of class k at s, of which the halves have class j and the given size
module _ (s j k size : ℕ) (next : k ≡ suc j) (small : k ≤ 32) (within : s + 2 ^ k ≤ 2 ^ 32) (is : size ≡ size_of j) where
  -- where each half ends
  pub record Halves : Type 0 where
    pub power : size ≡ 2 ^ j
    pub lower : s + 2 ^ j ≤ 2 ^ 32
    pub upper : s + size + 2 ^ j ≤ 2 ^ 32

  pub halves : Halves
  halves =
      let p : size ≡ 2 ^ j = is ∙ size_is j (omega arith) in
      let d : 2 ^ k ≡ 2 ^ suc j = ap (λ (n : ℕ). 2 ^ n) next in
      record { power = p; lower = omega arith; upper = omega arith }

  module _ (t : List ℕ) (class run lo hi w : ℕ) (room : class ≤ j) (wide : lo < hi) (inside : hi ≤ length t) where
    -- the run lies in the lower half: the record of the upper one goes to the window's end
    pub low_half : run < s + size → w ≡ word_of (blk false (j % 64) ((s + size) % 2 ^ 32))
        → window t lo hi (towards k class run s) ≡ window (set t (hi - 1) w) lo (hi - 1) (towards j class run s)
    low_half below word =
        let f = halves in
        let b : w ≡ word_of (blk false j (s + 2 ^ j)) =
        word ∙ ap word_of (record-fits false j (s + size) (omega arith) (omega (arith, pow_pos j))) ∙ ap (λ (n : ℕ). word_of (blk false j (s + n))) f.power in
        rw (next, halve-low j class run s room (omega arith), map-append word_of (towards j class run s) (blk false j (s + 2 ^ j) ∷ []), ← b)
        (high-turn t (map word_of (towards j class run s)) lo hi w wide inside)

    -- it lies in the upper half: the record of the lower one goes to the window's start
    pub high_half : s + size ≤ run → w ≡ word_of (blk false (j % 64) (s % 2 ^ 32))
        → window t lo hi (towards k class run s) ≡ window (set t lo w) (lo + 1) hi (towards j class run (s + size))
    high_half above word =
        let f = halves in
        let b : w ≡ word_of (blk false j s) = word ∙ ap word_of (record-fits false j s (omega arith) (omega (arith, pow_pos j))) in
        rw (next, f.power, halve-high j class run s room (omega arith), ← b) (low_turn t (map word_of (towards j class run (s + 2 ^ j))) lo hi w wide inside)

-- the class fits: one word is left, for the run
pub run-written : (t : List ℕ) (class run s k lo hi w : ℕ) → k ≡ class → class ≤ 32 → s + 2 ^ k ≤ 2 ^ 32 → hi ≡ lo + 1 → hi ≤ length t
    → w ≡ word_of (blk true (class % 64) (s % 2 ^ 32)) → window t lo hi (towards k class run s) ≡ set t lo w
run-written t class run s k lo hi w e small within last inside word =
    let b : w ≡ word_of (blk true class s) = word ∙ ap word_of (record-fits true class s (omega arith) (omega (arith, pow_pos k))) in
    rw (e, halve-done, ← b) (low_turn t [] lo hi w (omega arith) inside ∙ window-done (set t lo w) (lo + 1) hi (omega arith))
