-- A range to be added, held to the place of its first frame: whether it overlaps, and where its pieces stand. Assumes nothing.
use mathlib.Core.Path.{◌≡◌, sym, ap, ◌∙◌}
use mathlib.Core.Bool.{true, false}
use mathlib.Core.List.{List, ◌∷◌, ◌++◌}
use Prim.Native.Nat.{ℕ, suc, ◌+◌, ◌-◌, ◌^◌, ◌≤◌, ◌<◌}
use native.Mathlib.Omega.{arith}
use lib.Pow.{pow_pos}
use lib.ListN.{length, take, drop, take-append-drop}
use lib.Seq.{split_at, drop-cons}
use Rattle.rules.specs.Rules.{Block, blk, start, end, Sound, some, overlaps, added, block_at}
use Rattle.rules.proofs.Lists.{Above, and_above}
use Rattle.rules.proofs.Adding.{pieces_of, added-at, apart, overlap-at}
use Rattle.rules.proofs.Looking.{InsideAt, GapAt}

pub overlaps-inside : {top : ℕ} (s e i : ℕ) (bs : List Block) → InsideAt top s i bs → s < e → some (overlaps s e) bs ≡ true
overlaps-inside s e i bs w h =
    ap (some (overlaps s e)) w.split
    ∙ overlap-at s e (take i bs) (block_at i bs) (drop (i + 1) bs) h (let l : start (block_at i bs) ≤ s = w.low in omega arith) w.high

module _ {top : ℕ} (s e i : ℕ) (bs : List Block) (r : Sound top 0 bs) (w : GapAt s i bs) where
  -- the first block after the gap starts within the range
  pub overlaps-next : i < length bs → s < e → start (block_at i bs) < e → some (overlaps s e) bs ≡ true
  overlaps-next h l g =
      let q : bs ≡ take i bs ++ (block_at i bs ∷ drop (suc i) bs) = split_at bs i (blk false 0 0) h in
      ap (some (overlaps s e)) q ∙ overlap-at s e (take i bs) (block_at i bs) (drop (suc i) bs) l g (later h)
    where
      tall : (b : Block) → start b < end b
      tall (blk g k t) = omega (arith, pow_pos k)

      first : {f : ℕ} (b : Block) (ys : List Block) → Above f (b ∷ ys) → f ≤ start b
      first b ys (and_above x a) = x

      later : i < length bs → s < end (block_at i bs)
      later h =
          let a : Above (suc s) (block_at i bs ∷ drop (suc i) bs) = rw (drop-cons bs i (blk false 0 0) h) at w.after in
          omega (arith, first (block_at i bs) (drop (suc i) bs) a, tall (block_at i bs))

  pub apart-here : Above e (drop i bs) → some (overlaps s e) bs ≡ false
  apart-here a = ap (some (overlaps s e)) (sym (take-append-drop i bs)) ∙ apart s e w.before a

  pub added-here : s ≤ e → e ≤ 2 ^ 32 → top ≤ 32 → Above e (drop i bs) → added top s e bs ≡ take i bs ++ (pieces_of top s (e - s) ++ drop i bs)
  added-here h l t a = ap (added top s e) (sym (take-append-drop i bs)) ∙ added-at top s e (take i bs) (drop i bs) h l t w.before a
