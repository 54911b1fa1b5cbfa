-- A record's word compared with the word of a free block: whether it is that block. Assumes nothing.
use mathlib.Core.Path.{◌≡◌, refl, sym, ap, ◌∙◌}
use mathlib.Core.Bool.{Bool, true, false, true≢false}
use mathlib.Core.List.{List}
use Prim.Native.Nat.{ℕ, ◌+◌, ◌%◌, ◌^◌, ◌<◌}
use lib.ListN.{get_or}
use Rattle.rules.specs.Rules.{Block, blk, is_free, block_at}
use Rattle.rules.proofs.Lists.{free-picks}
use Rattle.table.specs.Layout.{count_of, block_of, blocks_of, word_of}
use Rattle.table.specs.Sound.{soundb}
use Rattle.table.proofs.State.{block-at, block-of-word, word_at, record-fits}

free-is : (k s : ℕ) (b : Block) → is_free k s b ≡ true → b ≡ blk false k s
free-is k s (blk true j t) e = absurd (true≢false (sym e))
free-is k s (blk false j t) e = let p = free-picks k s false j t e in cc

module _ (ws : List ℕ) (sound : soundb ws ≡ true) (below : (j : ℕ) → get_or ws j 0 < 2 ^ 64) (k s w : ℕ) (small : k < 64) (fits : s < 2 ^ 32)
    (made : w ≡ word_of (blk false (k % 64) (s % 2 ^ 32))) (j : ℕ) (here : j < count_of (get_or ws 0 0)) where
  word-is : w ≡ word_of (blk false k s)
  word-is = made ∙ ap word_of (record-fits false k s small fits)

  pub same_block : get_or ws (j + 1) 0 ≡ w → block_at j (blocks_of ws) ≡ blk false k s
  same_block e = block-at ws sound j here ∙ ap block_of (e ∙ word-is) ∙ block-of-word false k s small fits

  pub other_block : (get_or ws (j + 1) 0 ≡ w → ⊥) → is_free k s (block_at j (blocks_of ws)) ≡ false
  other_block n = go (is_free k s (block_at j (blocks_of ws))) refl
    where
      go : (b : Bool) → is_free k s (block_at j (blocks_of ws)) ≡ b → is_free k s (block_at j (blocks_of ws)) ≡ false
      go true e = absurd (n (word_at ws sound below j here ∙ ap word_of (free-is k s (block_at j (blocks_of ws)) e) ∙ sym word-is))
      go false e = e
